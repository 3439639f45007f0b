use Rattle.std.proofs.Common.{drop}
use Rattle.lhg_num.specs.FracArithmetic.{frac_arithmetic}
use Rattle.lhg_num.specs.Marked.{IsRest}
use Rattle.lhg_row.specs.MarkedTests.{marked_any}
use Rattle.lhg_row.specs.Truths.{piece_truth, some_truth}
use Rattle.lhg_union.specs.PolyLists.{lines_of}
use Rattle.lhg_uses.proofs.advising.some_has.Given as goal

abbrev pub invariant-loop-piece : goal.invariant-loop-piece
invariant-loop-piece l = IsRest (some_truth frac_arithmetic (lines_of l.pieces) l.at) (marked_any (λ p. piece_truth frac_arithmetic p.lines l.at) (drop l.piece-index l.pieces))
