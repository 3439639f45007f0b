use Rattle.std.proofs.Common.{sym, ◌∙◌, subst}
use Rattle.lhg_row.specs.Width.{AllWide}
use Rattle.lhg_prune.proofs.touching.push_point.Goals as goal

pub point_of-requires : goal.point_of-requires
point_of-requires c =
    let tight = subst (λ n. AllWide n c.in_ok-tight.tight.items) c.requires.row c.in_ok-tight.ensures in
    c.in_ok-push_others.ensures c.args.vars (subst (AllWide c.args.vars) (sym (c.in_ok-rows.ensures ∙ c.deref.ensures.value)) tight) c.requires.lowered
