use Rattle.std.proofs.Common.{◌≡◌, length, map, Option, Some, None, sym, ap, ◌∙◌, subst, rules}
use Rattle.std.specs.Prelude.{option_map, IfSome}
use Rattle.lhg_num.specs.FracArithmetic.{frac_arithmetic}
use Rattle.lhg_num.specs.Halting.{IsHaltedByRows}
use Rattle.lhg_num.specs.MarkedLaws.{IsPart}
use Rattle.lhg_num.proofs.Halted.{part_halts_rows, rest_halts_rows, rows_exact}
use Rattle.lhg_row.specs.System.{PlainSystem}
use Rattle.lhg_row.specs.Width.{AllWide}
use Rattle.lhg_row.specs.Pieces.{make}
use Rattle.lhg_motion.specs.CrossCalculus.{cross}
use Rattle.lhg_plant.specs.Views.{plain_location, plain_plant}
use Rattle.lhg_jump.proofs.Answering.{location-there, location-is}
use Rattle.lhg_forward.specs.After.{turned, after_flow}
use Rattle.lhg_forward.specs.AfterFacts.{IsFlowEnd, HasPointsOr}
use Rattle.lhg_forward.proofs.AfterCode.{flow-part, flow-none, flow-rest}
use Rattle.lhg_forward.proofs.AfterFlow.{after_flow-exact}
use Rattle.lhg_forward.proofs.flows.after_flow.Goals as goal

pub returns-in_err-invariant-clause-calculus : goal.returns-in_err-invariant-clause-calculus
returns-in_err-invariant-clause-calculus c =
    let p = c.args.plant.now in
    let a = plain_plant p in
    let l = c.index-location.result.now in
    let l_is = location-there p c.args.loc l c.requires.there c.index-location.ensures in
    let many : c.len-vars.result ≡ length p.vars.items = search rules in
    part_halts_rows c.from_residual.result c.in_err-invariant.field-0.0 _ (option_map (λ (q : PlainSystem). q.lines)) _ (option_map (λ (q : PlainSystem). q.lines)) c.from_residual.ensures.1 c.in_err-invariant.ensures.calculus
    (subst (λ n. IsPart (after_flow a c.args.loc c.args.piece.now.lines) (make frac_arithmetic n (plain_location l).inv)) (sym many) (flow-part a c.args.loc c.args.piece.now.lines (plain_location l) l_is))

pub flow_within-requires-clause-flow : goal.flow_within-requires-clause-flow
flow_within-requires-clause-flow c =
    let p = c.args.plant.now in
    let l = c.index-location.result.now in
    let l_is = location-there p c.args.loc l c.requires.there c.index-location.ensures in
    let many : c.len-vars.result ≡ length p.vars.items = search rules in
    let width : c.in-Some.inv.width ≡ c.len-vars.result = subst (λ (o : Option PlainSystem). IfSome o (λ q. q.width ≡ c.len-vars.result)) c.in-Some.is c.in_ok-invariant.ensures.vars in
    subst (AllWide c.in-Some.inv.width) (sym c.deref.ensures.value) (subst (λ n. AllWide n l.flow.items) (sym (width ∙ many)) (location-is p c.args.loc l l_is).flow.wide)

pub returns-in-None-clause-calculus : goal.returns-in-None-clause-calculus
returns-in-None-clause-calculus c =
    let p = c.args.plant.now in
    let l = c.index-location.result.now in
    let l_is = location-there p c.args.loc l c.requires.there c.index-location.ensures in
    let many : c.len-vars.result ≡ length p.vars.items = search rules in
    flow-none (plain_plant p) c.args.loc c.args.piece.now.lines (plain_location l) l_is
    (ap (option_map (λ (q : PlainSystem). q.lines)) (sym c.in-None.is) ∙ c.in_ok-invariant.ensures.calculus ∙ ap (λ n. (make frac_arithmetic n (plain_location l).inv).value) many)

pub returns-in-None-clause-points : goal.returns-in-None-clause-points
returns-in-None-clause-points c =
    let p = c.args.plant.now in
    let a = plain_plant p in
    let piece = c.args.piece.now in
    let wide : AllWide (length p.vars.items) piece.lines = subst (λ n. AllWide n piece.lines) c.requires.vars c.rows.ensures.poly.wide in
    subst (HasPointsOr (length p.vars.items) (IsFlowEnd a c.args.loc piece.lines)) (sym (returns-in-None-clause-calculus c)) (after_flow-exact a p.proper c.args.loc piece.lines wide c.requires.inside)

pub returns-in-Some-clause-calculus : goal.returns-in-Some-clause-calculus
returns-in-Some-clause-calculus c =
    let p = c.args.plant.now in
    let a = plain_plant p in
    let n = length p.vars.items in
    let piece = c.args.piece.now.lines in
    let l = c.index-location.result.now in
    let l_is = location-there p c.args.loc l c.requires.there c.index-location.ensures in
    let many : c.len-vars.result ≡ n = search rules in
    let inv = c.in-Some.inv in
    let width : inv.width ≡ c.len-vars.result = subst (λ (o : Option PlainSystem). IfSome o (λ q. q.width ≡ c.len-vars.result)) c.in-Some.is c.in_ok-invariant.ensures.vars in
    let made = ap (option_map (λ (q : PlainSystem). q.lines)) (sym c.in-Some.is) ∙ c.in_ok-invariant.ensures.calculus ∙ ap (λ k. (make frac_arithmetic k (plain_location l).inv).value) many in
    let same = ap (λ k. cross frac_arithmetic k inv.lines inv.lines piece (map turned c.deref.result.now)) (width ∙ many) ∙ ap (λ rs. cross frac_arithmetic n inv.lines inv.lines piece (map turned rs)) c.deref.ensures.value in
    rest_halts_rows c.flow_within.result (after_flow a c.args.loc piece) (cross frac_arithmetic n inv.lines inv.lines piece (map turned l.flow.items)) (option_map (λ (q : PlainSystem). q.lines))
    (flow-rest a c.args.loc piece (plain_location l) l_is inv.lines made)
    (subst (λ m. IsHaltedByRows c.flow_within.result m (option_map (λ (q : PlainSystem). q.lines))) same c.flow_within.ensures.calculus)

pub returns-in-Some-clause-points : goal.returns-in-Some-clause-points
returns-in-Some-clause-points c =
    let p = c.args.plant.now in
    let a = plain_plant p in
    let piece = c.args.piece.now in
    let wide : AllWide (length p.vars.items) piece.lines = subst (λ n. AllWide n piece.lines) c.requires.vars c.rows.ensures.poly.wide in
    rows_exact c.flow_within.result (after_flow a c.args.loc piece.lines) (option_map (λ (q : PlainSystem). q.lines)) (HasPointsOr (length p.vars.items) (IsFlowEnd a c.args.loc piece.lines)) (returns-in-Some-clause-calculus c)
    (after_flow-exact a p.proper c.args.loc piece.lines wide c.requires.inside)
