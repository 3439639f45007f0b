use Rattle.std.proofs.Common.{◌≡◌, ◌+◌, length, map, Option, Some, None, sym, ap, ◌∙◌, subst, rules}
use Rattle.std.specs.Prelude.{option_map, IfSome}
use Rattle.lhg_num.specs.FracArithmetic.{frac_arithmetic}
use Rattle.lhg_num.specs.Halting.{IsHaltedByRows}
use Rattle.lhg_num.specs.MarkedLaws.{IsPart}
use Rattle.lhg_num.proofs.Halted.{part_halts_rows, rest_halts_rows, rows_exact}
use Rattle.lhg_row.specs.System.{PlainSystem}
use Rattle.lhg_row.specs.Width.{AllWide}
use Rattle.lhg_row.specs.Pieces.{make}
use Rattle.lhg_plant.specs.Pre.{pre_piece}
use Rattle.lhg_plant.specs.Views.{plain_location, plain_switch, plain_plant}
use Rattle.lhg_jump.proofs.Answering.{switch-there, switch-is, place-below, location-there, location-is}
use Rattle.lhg_forward.specs.After.{swapped, after_switch}
use Rattle.lhg_forward.specs.AfterFacts.{IsResult, HasPointsOr}
use Rattle.lhg_forward.proofs.AfterCode.{switch-part, switch-none, switch-rest}
use Rattle.lhg_forward.proofs.AfterSwitch.{after_switch-exact}
use Rattle.lhg_forward.proofs.switches.after_switch.Goals as goal

pub invariant-requires : goal.invariant-requires
invariant-requires c =
    let p = c.args.plant.now in
    let w = c.index-taken.result.now in
    let l = c.index-location.result.now in
    let is = switch-there p c.args.switch w c.requires.there c.index-taken.ensures in
    let l_is = location-there p w.to l (place-below p w.to (switch-is p c.args.switch w is).to) c.index-location.ensures in
    let many : c.len-vars.result ≡ length p.vars.items = search rules in
    subst (λ n. AllWide n l.inv.items) (sym many) (location-is p w.to l l_is).inv.wide

pub returns-in_err-invariant-clause-calculus : goal.returns-in_err-invariant-clause-calculus
returns-in_err-invariant-clause-calculus c =
    let p = c.args.plant.now in
    let a = plain_plant p in
    let w = c.index-taken.result.now in
    let l = c.index-location.result.now in
    let is = switch-there p c.args.switch w c.requires.there c.index-taken.ensures in
    let l_is = location-there p w.to l (place-below p w.to (switch-is p c.args.switch w is).to) c.index-location.ensures in
    let many : c.len-vars.result ≡ length p.vars.items = search rules in
    part_halts_rows c.from_residual.result c.in_err-invariant.field-0.0 _ (option_map (λ (q : PlainSystem). q.lines)) _ (option_map (λ (q : PlainSystem). q.lines)) c.from_residual.ensures.1 c.in_err-invariant.ensures.calculus
    (subst (λ n. IsPart (after_switch a c.args.switch c.args.piece.now.lines) (make frac_arithmetic n (plain_location l).inv)) (sym many)
    (switch-part a c.args.switch c.args.piece.now.lines (plain_switch w) is (plain_location l) l_is))

pub results-requires-clause-jump : goal.results-requires-clause-jump
results-requires-clause-jump c =
    let p = c.args.plant.now in
    let w = c.index-taken.result.now in
    let is = switch-there p c.args.switch w c.requires.there c.index-taken.ensures in
    let many : c.len-vars.result ≡ length p.vars.items = search rules in
    subst (AllWide (c.len-vars.result + c.len-vars.result)) (sym c.deref.ensures.value) (subst (λ n. AllWide (n + n) w.jump.items) (sym many) (switch-is p c.args.switch w is).jump.wide)

pub returns-in-None-clause-calculus : goal.returns-in-None-clause-calculus
returns-in-None-clause-calculus c =
    let p = c.args.plant.now in
    let w = c.index-taken.result.now in
    let l = c.index-location.result.now in
    let is = switch-there p c.args.switch w c.requires.there c.index-taken.ensures in
    let l_is = location-there p w.to l (place-below p w.to (switch-is p c.args.switch w is).to) c.index-location.ensures in
    let many : c.len-vars.result ≡ length p.vars.items = search rules in
    switch-none (plain_plant p) c.args.switch c.args.piece.now.lines (plain_switch w) is (plain_location l) l_is
    (ap (option_map (λ (q : PlainSystem). q.lines)) (sym c.in-None.is) ∙ c.in_ok-invariant.ensures.calculus ∙ ap (λ n. (make frac_arithmetic n (plain_location l).inv).value) many)

pub returns-in-None-clause-points : goal.returns-in-None-clause-points
returns-in-None-clause-points c =
    let p = c.args.plant.now in
    let a = plain_plant p in
    let piece = c.args.piece.now in
    let wide : AllWide (length p.vars.items) piece.lines = subst (λ n. AllWide n piece.lines) c.requires.vars c.rows.ensures.poly.wide in
    subst (HasPointsOr (length p.vars.items) (IsResult a c.args.switch piece.lines)) (sym (returns-in-None-clause-calculus c)) (after_switch-exact a p.proper c.args.switch piece.lines wide c.requires.inside)

pub returns-in-Some-clause-calculus : goal.returns-in-Some-clause-calculus
returns-in-Some-clause-calculus c =
    let p = c.args.plant.now in
    let a = plain_plant p in
    let n = length p.vars.items in
    let piece = c.args.piece.now.lines in
    let w = c.index-taken.result.now in
    let l = c.index-location.result.now in
    let is = switch-there p c.args.switch w c.requires.there c.index-taken.ensures in
    let l_is = location-there p w.to l (place-below p w.to (switch-is p c.args.switch w is).to) c.index-location.ensures in
    let many : c.len-vars.result ≡ n = search rules in
    let inv = c.in-Some.inv.lines in
    let made = ap (option_map (λ (q : PlainSystem). q.lines)) (sym c.in-Some.is) ∙ c.in_ok-invariant.ensures.calculus ∙ ap (λ k. (make frac_arithmetic k (plain_location l).inv).value) many in
    let same = ap (λ k. pre_piece k (map (swapped k) c.deref.result.now) piece inv) many ∙ ap (λ rs. pre_piece n (map (swapped n) rs) piece inv) c.deref.ensures.value in
    rest_halts_rows c.results.result (after_switch a c.args.switch piece) (pre_piece n (map (swapped n) w.jump.items) piece inv) (option_map (λ (q : PlainSystem). q.lines))
    (switch-rest a c.args.switch piece (plain_switch w) is (plain_location l) l_is inv made)
    (subst (λ m. IsHaltedByRows c.results.result m (option_map (λ (q : PlainSystem). q.lines))) same c.results.ensures.calculus)

pub returns-in-Some-clause-points : goal.returns-in-Some-clause-points
returns-in-Some-clause-points c =
    let p = c.args.plant.now in
    let a = plain_plant p in
    let piece = c.args.piece.now in
    let wide : AllWide (length p.vars.items) piece.lines = subst (λ n. AllWide n piece.lines) c.requires.vars c.rows.ensures.poly.wide in
    rows_exact c.results.result (after_switch a c.args.switch piece.lines) (option_map (λ (q : PlainSystem). q.lines)) (HasPointsOr (length p.vars.items) (IsResult a c.args.switch piece.lines)) (returns-in-Some-clause-calculus c)
    (after_switch-exact a p.proper c.args.switch piece.lines wide c.requires.inside)
