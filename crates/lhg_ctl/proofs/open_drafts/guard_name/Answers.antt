use Rattle.std.proofs.Common.{◌≡◌, ◌<◌, ◌++◌, codes, decimal, sym, subst, rules}
use Rattle.std.specs.Prelude.{◌^◌}
use Rattle.lhg_plant.specs.Word.{IsName}
use Rattle.lhg_ctl.proofs.GuardNames.{guard_name_is}
use Rattle.lhg_ctl.proofs.open_drafts.guard_name.Goals as goal

pub new-requires : goal.new-requires
new-requires c =
    let text : c.deref.result.now ≡ codes "g" ++ decimal c.args.number = search rules in
    let fits : c.args.number < 2 ^ 64 = search rules in
    subst IsName (sym text) (guard_name_is c.args.number fits)
