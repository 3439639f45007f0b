use Rattle.std.proofs.Common.{drop}
use Rattle.lhg_num.specs.Marked.{IsRest}
use Rattle.lhg_row.specs.MarkedTests.{marked_any}
use Rattle.lhg_row.specs.Truths.{piece_truth, some_truth}
use Rattle.lhg_union.specs.PolyLists.{lines_of}
use Rattle.lhg_union.proofs.regions.some_has.Given as goal

abbrev pub invariant-loop-piece : goal.invariant-loop-piece
invariant-loop-piece g l =
    let a = g.N.Scalar.arithmetic in
    IsRest (some_truth a (lines_of l.pieces) l.point) (marked_any (λ p. piece_truth a p.lines l.point) (drop l.piece-index l.pieces))
