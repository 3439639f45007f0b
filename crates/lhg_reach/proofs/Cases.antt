-- What does the calculus of reach find from the pieces that the code holds?
use Rattle.std.proofs.Common.{ℕ, List}
use Rattle.lhg_num.specs.Arithmetic.{Arithmetic, IsLawful}
use Rattle.lhg_row.specs.Piece.{PlainPiece}
use Rattle.lhg_row.specs.System.{PlainSystem}
use Rattle.lhg_row.specs.CoveredLaws.{polys-over}
use Rattle.lhg_motion.specs.ReachedLaws.{ReachCase}
use Rattle.lhg_motion.specs.ReachCases.{reach_case}
use Rattle.lhg_motion.specs.CrossLaws.{cross-exact}
use Rattle.lhg_union.specs.PolyLists.{lines_of, ArePolys}
use Rattle.lhg_union.proofs.ListFacts.{polys_over}
use Rattle.lhg_reach.specs.Widths.{AllOverVars}

-- what it finds, over n variables
pub case_of : (a : Arithmetic) (n : ℕ) → IsLawful a → (bad near : List PlainSystem) (flow : PlainPiece) → AllOverVars n bad near flow → ArePolys a bad → ArePolys a near → ReachCase a n (lines_of bad) (lines_of near) flow
case_of a n laws bad near flow v h k =
    reach_case a n (lines_of bad) (lines_of near) flow laws (cross-exact a n laws) (polys-over a n (lines_of bad) (polys_over a n bad v.first h)) (polys-over a n (lines_of near) (polys_over a n near v.second k)) v.rows
