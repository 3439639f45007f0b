use Rattle.std.proofs.Common.{subst}
use Rattle.lhg_num.specs.Marked.{IsRest}
use Rattle.lhg_num.specs.MarkedLaws.{rest_self}
use Rattle.lhg_row.specs.Truths.{some_truth}
use Rattle.lhg_union.specs.PolyLists.{lines_of}
use Rattle.lhg_union.proofs.ListFacts.{some_truth-is}
use Rattle.lhg_union.proofs.regions.some_has.Goals as goal

pub loop-piece-init : goal.loop-piece-init
loop-piece-init g c =
    let a = g.N.Scalar.arithmetic in
    let whole = some_truth a (lines_of c.args.pieces.now) c.args.point.now in
    subst (IsRest whole) (some_truth-is a c.args.pieces.now c.args.point.now) (rest_self whole)
