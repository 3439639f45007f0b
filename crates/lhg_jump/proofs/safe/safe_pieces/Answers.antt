use Rattle.std.proofs.Common.{◌≡◌, true, false, sym, ap, ◌∙◌}
use Rattle.std.specs.Prelude.{◌==◌}
use Rattle.lhg_num.specs.FracArithmetic.{frac_arithmetic}
use Rattle.lhg_num.proofs.Halted.{part_halts_rows, rest_halts_rows}
use Rattle.lhg_row.specs.Lists.{is_nil, meet_each}
use Rattle.lhg_plant.specs.SafeRegion.{safe_list}
use Rattle.lhg_plant.specs.Views.{plain_location}
use Rattle.lhg_union.specs.PolyLists.{lines_of}
use Rattle.lhg_union.proofs.ListFacts.{nil_test}
use Rattle.lhg_jump.proofs.SafeSteps.{inv-part, no-piece, lines-rest}
use Rattle.lhg_jump.proofs.safe.safe_pieces.Goals as goal

pub returns-in_err-inv-clause-calculus : goal.returns-in_err-inv-clause-calculus
returns-in_err-inv-clause-calculus c =
    part_halts_rows c.from_residual.result c.in_err-inv.field-0.0 _ (λ v. lines_of v.items) _ (λ v. lines_of v.items) c.from_residual.ensures.1 c.in_err-inv.ensures.calculus
    (inv-part c.args.vars (plain_location c.args.location.now))

pub returns-then-is_empty-clause-calculus : goal.returns-then-is_empty-clause-calculus
returns-then-is_empty-clause-calculus c =
    let inv = c.in_ok-inv.inv in
    let none : is_nil (lines_of inv.items) ≡ true = nil_test inv.items ∙ sym (ap (λ k. k == 0) inv.ok.0) ∙ sym c.is_empty.ensures ∙ c.if-is_empty.true in
    no-piece c.args.vars (plain_location c.args.location.now) (lines_of inv.items) c.in_ok-inv.ensures.calculus none

pub returns-else-is_empty-clause-calculus : goal.returns-else-is_empty-clause-calculus
returns-else-is_empty-clause-calculus c =
    let n = c.args.vars in
    let l = plain_location c.args.location.now in
    let inv = c.in_ok-inv.inv in
    let some : is_nil (lines_of inv.items) ≡ false = nil_test inv.items ∙ sym (ap (λ k. k == 0) inv.ok.0) ∙ sym c.is_empty.ensures ∙ c.if-is_empty.false in
    rest_halts_rows c.safe_lines.result (safe_list n l) (meet_each frac_arithmetic n l.inv l.safe) (λ v. lines_of v.items)
    (lines-rest n l (lines_of inv.items) c.in_ok-inv.ensures.calculus some) c.safe_lines.ensures.calculus
