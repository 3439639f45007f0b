-- The laws of the calculus of reach, put together.
use Rattle.std.specs.Prelude.{ℕ, List, [], ◌∷◌}
use Rattle.lhg_num.specs.Arithmetic.{Arithmetic, IsLawful}
use Rattle.lhg_row.specs.Piece.{PlainPiece}
use Rattle.lhg_row.specs.Width.{AllWide}
use Rattle.lhg_row.specs.PieceFacts.{AllOver, AllPolys}
use Rattle.lhg_motion.specs.CrossFact.{CrossIsExact}
use Rattle.lhg_motion.specs.Found.{PlainFound, pieces_of}
use Rattle.lhg_motion.specs.Reached.{EachPoly}
use Rattle.lhg_motion.specs.ReachCalculus.{reach}
use Rattle.lhg_motion.specs.ReachSound.{reach_plays}
use Rattle.lhg_motion.specs.ReachFound.{reach_found}
use Rattle.lhg_motion.specs.ReachExact.{exact_of, few_of}
use Rattle.lhg_motion.specs.ReachedLaws.{ReachCase}

-- what the calculus gives
pub reach_case : (a : Arithmetic) (n : ℕ) (bad near : List PlainPiece) (flow : PlainPiece) → IsLawful a → CrossIsExact a n → AllOver n bad → AllOver n near → AllWide n flow → ReachCase a n bad near flow
reach_case a n bad near flow laws exact u v w =
    let h = reach_found a n laws exact bad near flow u v w in
    let r = (reach a n bad near flow).value in
    record {
      reached = h.reached;
      plays = reach_plays n bad near flow r.found h.reached.named;
      few = few_of n bad near flow r h.reached.layers;
      settled = h.settled;
      exact = λ p. exact_of n bad near flow r.found h.reached.named (h.settled p);
    }

-- the pieces of found pieces are pieces
pub found-polys : (a : Arithmetic) (n : ℕ) (fs : List PlainFound) → EachPoly a n fs → AllPolys a n (pieces_of fs)
found-polys a n [] h = tt
found-polys a n (f ∷ fs) h = (h.0, found-polys a n fs h.1)
