use Rattle.std.proofs.Common.{◌≡◌, ap, ◌∙◌, subst}
use Rattle.lhg_num.specs.Halting.{IsWideBy}
use Rattle.lhg_num.specs.AnswerLaws.{wide_exact}
use Rattle.lhg_row.specs.Piece.{in_some}
use Rattle.lhg_row.specs.Truths.{some_truth, some_truth-value}
use Rattle.lhg_union.specs.PolyLists.{lines_of}
use Rattle.lhg_union.specs.Regions.{polys_at}
use Rattle.lhg_union.proofs.RegionSteps.{at-is}
use Rattle.lhg_union.proofs.regions.Region.contains.Goals as goal

pub returns-clause-exact : goal.returns-clause-exact
returns-clause-exact g c =
    let a = g.N.Scalar.arithmetic in
    let xs = c.args.self.now.pieces.items in
    let x = c.args.point.now in
    let ps = lines_of (polys_at xs c.args.loc) in
    let is = ap (λ ys. some_truth a (lines_of ys) x) (c.deref.ensures.value ∙ at-is xs c.args.loc c.index.result.now c.index.ensures c.requires.there) in
    wide_exact c.some_has.result (some_truth a ps x) (λ b. b) (λ b. b ≡ in_some ps x) (subst (λ m. IsWideBy c.some_has.result m (λ b. b)) is c.some_has.ensures) (some_truth-value a ps x)
