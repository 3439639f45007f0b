use Rattle.std.proofs.Common.{◌≡◌, ◌<◌, length, sym, ap, ◌∙◌, not, arith, vec_len}
use Rattle.std.specs.List.{list_any}
use Rattle.std.specs.Str.{bytes_eq}
use Rattle.std.proofs.lemmas.Bool.{eqb-true}
use Rattle.lhg_read.proofs.DraftSteps.{begin_is}
use Rattle.lhg_read.proofs.draft.Draft.may_begin.Goals as goal

pub returns : goal.returns
returns c =
    let e = eqb-true (vec_len c.args.self.now.switches) 0 (sym c.is_empty.ensures ∙ c.if-not-is_empty.false) in
    let none : length c.args.self.now.switches.items ≡ 0 = omega (arith, e, c.args.self.now.switches.ok.0) in
    let room : length c.args.self.now.locs.items < 64 = omega (arith, c.args.self.now.locs.ok.0) in
    ap not (c.is_location.ensures ∙ ap (list_any (λ l. bytes_eq l.name c.args.name.now)) c.deref.ensures.value) ∙ begin_is c.args.self.now.locs.items c.args.self.now.switches.items c.args.name.now none room
