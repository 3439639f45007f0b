use Rattle.std.proofs.Common.{◌≡◌, ◌<◌, ◌+◌, length, sym, ap, ◌∙◌, subst, arith, rules}
use Rattle.std.proofs.lemmas.Bool.{eq-eqb, ne_eqb}
use Rattle.std.proofs.lemmas.List.{length-map}
use Rattle.lhg_num.specs.Halting.{IsHaltedBy}
use Rattle.lhg_num.proofs.Halted.{part_halts, all_from_rows}
use Rattle.lhg_row.specs.Width.{AllWide}
use Rattle.lhg_plant.specs.Pick.{first_result}
use Rattle.lhg_plant.specs.Views.{plain_plant, plain_state}
use Rattle.lhg_union.specs.PolyLists.{lines_of}
use Rattle.lhg_jump.proofs.Answering.{rest_halts, switch-there, switch-is}
use Rattle.lhg_loss.specs.Views.{plain_losses}
use Rattle.lhg_plant.specs.Parts.{plain_location, plain_switch}
use Rattle.lhg_spoil.specs.Fibres.{past_at, fibre}
use Rattle.lhg_spoil.proofs.FibreCode.{fibre-other, fibre-part, fibre-rest}
use Rattle.lhg_spoil.proofs.fibres.fibre.Goals as goal

pub past_at-requires-clause-there : goal.past_at-requires-clause-there
past_at-requires-clause-there c =
    let p = c.args.plant.now in
    let w = c.index-taken.result.now in
    let there : c.args.switch < length p.switches.items = omega (arith, c.requires.there, p.switches.ok.0) in
    let low = (switch-is p c.args.switch w (switch-there p c.args.switch w there c.index-taken.ensures)).to in
    let size = length-map p.locs.items plain_location in
    omega (arith, low, size, p.locs.ok.0)

pub returns-in_err-pieces : goal.returns-in_err-pieces
returns-in_err-pieces c =
    let p = c.args.plant.now in
    let a = plain_plant p in
    let L = plain_losses c.args.losses.now in
    let s = plain_state c.args.state.now in
    let w = c.index-taken.result.now in
    let there : c.args.switch < length p.switches.items = omega (arith, c.requires.there, p.switches.ok.0) in
    let is = switch-there p c.args.switch w there c.index-taken.ensures in
    part_halts c.from_residual.result c.in_err-pieces.field-0.0 (fibre a L c.args.j c.args.switch s) (λ o. o) (past_at a L c.args.j w.to) (λ v. lines_of v.items) c.from_residual.ensures.1 c.in_err-pieces.ensures.calculus
    (fibre-part a L c.args.j c.args.switch s (plain_switch w) is (eq-eqb w.from s.loc c.if-taken-state.true))

pub first_result-requires-clause-wide : goal.first_result-requires-clause-wide
first_result-requires-clause-wide c =
    let p = c.args.plant.now in
    let w = c.index-taken.result.now in
    let there : c.args.switch < length p.switches.items = omega (arith, c.requires.there, p.switches.ok.0) in
    let is = switch-there p c.args.switch w there c.index-taken.ensures in
    let many : c.len.result ≡ length p.vars.items = search rules in
    let jump : c.deref.result.now ≡ w.jump.items = search rules in
    subst (λ n. AllWide (n + n) c.deref.result.now) (sym many) (subst (AllWide (length p.vars.items + length p.vars.items)) (sym jump) (switch-is p c.args.switch w is).jump.wide)

pub returns-in_ok-pieces : goal.returns-in_ok-pieces
returns-in_ok-pieces c =
    let p = c.args.plant.now in
    let a = plain_plant p in
    let n = length p.vars.items in
    let L = plain_losses c.args.losses.now in
    let s = plain_state c.args.state.now in
    let w = c.index-taken.result.now in
    let there : c.args.switch < length p.switches.items = omega (arith, c.requires.there, p.switches.ok.0) in
    let is = switch-there p c.args.switch w there c.index-taken.ensures in
    let many : c.len.result ≡ n = search rules in
    let jump : c.deref.result.now ≡ w.jump.items = search rules in
    let pieces : lines_of c.deref-then-taken-state.result.now ≡ (past_at a L c.args.j w.to).value = ap lines_of c.deref-then-taken-state.ensures.value ∙ c.in_ok-pieces.ensures.calculus in
    let same = ap (λ k. first_result k s.at c.deref.result.now (lines_of c.deref-then-taken-state.result.now)) many ∙ ap (λ js. first_result n s.at js (lines_of c.deref-then-taken-state.result.now)) jump ∙ ap (λ ps. first_result n s.at w.jump.items ps) pieces in
    rest_halts c.first_result.result (fibre a L c.args.j c.args.switch s) (first_result n s.at w.jump.items (past_at a L c.args.j w.to).value) (λ o. o)
    (fibre-rest a L c.args.j c.args.switch s (plain_switch w) is (eq-eqb w.from s.loc c.if-taken-state.true))
    (subst (λ m. IsHaltedBy c.first_result.result m (λ o. o)) same (all_from_rows c.first_result.result _ (λ o. o) c.first_result.ensures))

pub returns-else-taken-state : goal.returns-else-taken-state
returns-else-taken-state c =
    let p = c.args.plant.now in
    let a = plain_plant p in
    let L = plain_losses c.args.losses.now in
    let s = plain_state c.args.state.now in
    let w = c.index-taken.result.now in
    let there : c.args.switch < length p.switches.items = omega (arith, c.requires.there, p.switches.ok.0) in
    let is = switch-there p c.args.switch w there c.index-taken.ensures in
    ap (λ m. m.value) (sym (fibre-other a L c.args.j c.args.switch s (plain_switch w) is (ne_eqb w.from s.loc c.if-taken-state.false)))
