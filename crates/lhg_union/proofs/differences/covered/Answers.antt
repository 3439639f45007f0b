use Rattle.std.proofs.Common.{◌≡◌, sym, ap, ◌∙◌, subst}
use Rattle.std.specs.Prelude.{◌==◌}
use Rattle.lhg_row.specs.Lists.{is_nil}
use Rattle.lhg_row.specs.PieceFacts.{IsCovering}
use Rattle.lhg_row.specs.CoveredLaws.{covering}
use Rattle.lhg_union.specs.PolyLists.{lines_of}
use Rattle.lhg_union.proofs.ListFacts.{polys_over, nil_test}
use Rattle.lhg_union.proofs.differences.covered.Goals as goal

pub returns-clause-points : goal.returns-clause-points
returns-clause-points g c = λ n v w.
    let ps = lines_of c.args.ps.now in
    let qs = lines_of c.args.qs.now in
    let left = c.in_ok-left.left in
    let none : is_nil (lines_of left.items) ≡ c.is_empty.result = nil_test left.items ∙ sym (ap (λ k. k == 0) left.ok.0) ∙ sym c.is_empty.ensures in
    subst (IsCovering n ps qs) none
    (covering g.N.Scalar.arithmetic n ps qs (lines_of left.items) (polys_over g.N.Scalar.arithmetic n left.items (c.in_ok-left.ensures.vars n v w) c.in_ok-left.ensures.polys) (c.in_ok-left.ensures.points n v w))
