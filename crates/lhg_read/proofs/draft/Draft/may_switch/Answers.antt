use Rattle.std.proofs.Common.{◌<◌, length, sym, ap, ◌∙◌, not, arith, vec_len}
use Rattle.std.specs.List.{list_any}
use Rattle.std.specs.Str.{bytes_eq}
use Rattle.std.proofs.lemmas.Bool.{eqb-false}
use Rattle.lhg_read.proofs.DraftSteps.{switch_is}
use Rattle.lhg_read.proofs.draft.Draft.may_switch.Goals as goal

pub returns : goal.returns
returns c =
    let e = eqb-false (vec_len c.args.self.now.locs) 0 (sym c.is_empty.ensures ∙ c.if-is_empty.false) in
    let some : 0 < length c.args.self.now.locs.items = omega (arith, e, c.args.self.now.locs.ok.0) in
    let room : length c.args.self.now.switches.items < 256 = omega (arith, c.args.self.now.switches.ok.0) in
    ap not (c.is_switch.ensures ∙ ap (list_any (λ s. bytes_eq s.name c.args.name.now)) c.deref.ensures.value) ∙ switch_is c.args.self.now.locs.items c.args.self.now.switches.items c.args.name.now some room
