use Rattle.std.proofs.Common.{◌≡◌, ap, sym, ◌∙◌, subst}
use Rattle.std.specs.Prelude.{IfOk}
use Rattle.lhg_num.specs.FracArithmetic.{frac_arithmetic}
use Rattle.lhg_num.specs.Halting.{IsHaltedBy}
use Rattle.lhg_row.specs.Lists.{covered}
use Rattle.lhg_row.specs.PieceFacts.{IsCovering}
use Rattle.lhg_union.specs.PolyLists.{lines_of, AllVars}
use Rattle.lhg_loss.proofs.covering.covers.Goals as goal

pub covered-requires : goal.covered-requires
covered-requires c = record {
  vars = c.requires.0;
  first = c.requires.1;
  second = subst (AllVars c.requires.0) (sym c.deref.ensures.value) (c.in_ok-there.ensures.vars c.requires.0 c.requires.2);
}

pub returns-clause-calculus : goal.returns-clause-calculus
returns-clause-calculus c = λ n v over.
    subst (λ qs. IsHaltedBy c.covered.result (covered frac_arithmetic n (lines_of c.args.pieces.now) qs) (λ b. b)) (ap lines_of c.deref.ensures.value ∙ c.in_ok-there.ensures.copies)
    (c.covered.ensures.calculus n v (subst (AllVars n) (sym c.deref.ensures.value) (c.in_ok-there.ensures.vars n over)))

pub returns-clause-points : goal.returns-clause-points
returns-clause-points c = λ n v over.
    subst (λ qs. IfOk c.covered.result (IsCovering n (lines_of c.args.pieces.now) qs)) (ap lines_of c.deref.ensures.value ∙ c.in_ok-there.ensures.copies)
    (c.covered.ensures.points n v (subst (AllVars n) (sym c.deref.ensures.value) (c.in_ok-there.ensures.vars n over)))
