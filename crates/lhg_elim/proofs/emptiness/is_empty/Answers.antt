use Rattle.std.proofs.Common.{◌≡◌, ◌-◌, ◌∙◌, ap, sym, subst, arith}
use Rattle.lhg_row.specs.System.{IsSystem}
use Rattle.lhg_row.specs.Constant.{is_nothing}
use Rattle.lhg_row.specs.HasValue.{IsLastElimination, IsEmptiness}
use Rattle.lhg_row.specs.Eliminate.{eliminate_last}
use Rattle.lhg_row.specs.TrimmedLaws.{trimmed-tidy}
use Rattle.lhg_row.specs.EmptyLaws.{nothing-empty}
use Rattle.lhg_elim.proofs.EmptySteps.{shown-nothing}
use Rattle.lhg_elim.proofs.emptiness.is_empty.Goals as goal

pub returns-clause-calculus : goal.returns-clause-calculus
returns-clause-calculus g c =
    let a = g.N.Scalar.arithmetic in
    let s = c.args.sys.now in
    let l = c.in_ok-left.left in
    let all : s.width - 0 ≡ s.width = omega arith in
    let is : IsSystem a 0 l.lines = subst (λ n. IsSystem a n l.lines) c.in_ok-left.ensures.width c.rows.ensures.trimmed in
    shown-nothing a l.lines is c.is_empty.result c.rows.result.now c.is_empty.ensures c.rows.ensures.rows ∙ ap is_nothing c.in_ok-left.ensures.list ∙ ap (λ n. is_nothing (eliminate_last a 0 n s.lines).value) all

pub returns-clause-points : goal.returns-clause-points
returns-clause-points g c =
    let a = g.N.Scalar.arithmetic in
    let s = c.args.sys.now in
    let l = c.in_ok-left.left in
    let all : s.width - 0 ≡ s.width = omega arith in
    let is : IsSystem a 0 l.lines = subst (λ n. IsSystem a n l.lines) c.in_ok-left.ensures.width c.rows.ensures.trimmed in
    subst (IsEmptiness s.width s.lines) (sym (shown-nothing a l.lines is c.is_empty.result c.rows.result.now c.is_empty.ensures c.rows.ensures.rows)) (nothing-empty s.width s.lines l.lines is.wide (trimmed-tidy a l.lines is.trimmed) (subst (λ n. IsLastElimination 0 n s.lines l.lines) all c.in_ok-left.ensures.points))
