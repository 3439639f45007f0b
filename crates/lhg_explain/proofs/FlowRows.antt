-- What do the rows of a straight flow say of a flow by its end and its time?
use Rattle.std.proofs.Common.{◌≡◌, ℕ, [], ◌∷◌, ◌++◌, length, subst}
use Rattle.lhg_math.specs.Number.{Number, half}
use Rattle.lhg_math.specs.PlacesLaws.{half_inner}
use Rattle.lhg_num.specs.Arithmetic.{Arithmetic}
use Rattle.lhg_row.specs.Row.{PlainPoint}
use Rattle.lhg_row.specs.Piece.{PlainPiece, InPiece}
use Rattle.lhg_row.specs.Width.{AllWide}
use Rattle.lhg_motion.specs.Flow.{IsFlow}
use Rattle.lhg_motion.specs.Convex.{piece_between}
use Rattle.lhg_motion.specs.Crossing.{GoesThrough}
use Rattle.lhg_motion.specs.CrossCalculus.{cross_rows}
use Rattle.lhg_motion.specs.CrossSystem.{rows_middle, rows_middle-is}

-- the flow from x to y in the time t goes through the one piece and into the other
pub record IsCrossingTo (through into flow : PlainPiece) (x : PlainPoint) (t : Number) (y : PlainPoint) : Type 0 where
  pub into_in : InPiece into y
  pub legal : IsFlow [] flow x t y
  pub passes : GoesThrough through x y

module _ (a : Arithmetic) (n : ℕ) (start through into flow : PlainPiece) (ws : AllWide n start) (wt : AllWide n through) (wi : AllWide n into) (wf : AllWide n flow) (x y : PlainPoint) (t : Number) (lx : length x ≡ n) (ly : length y ≡ n) where
  -- where all rows hold, there is the flow
  pub rows_crossing : InPiece (cross_rows a n start through into flow).value (x ++ y ++ t ∷ []) → IsCrossingTo through into flow x t y
  rows_crossing h =
      let m = rows_middle a n start through into flow ws wt wi wf x y t lx ly h in
      let is = rows_middle-is a n start through into flow ws wt wi wf x y t lx ly h in
      let crosses : IsCrossingTo through into flow x m.time m.to = record {
        into_in = m.into_in;
        legal = m.legal;
        passes = λ p i. piece_between through x m.to half p m.legal.same_length m.start_edge m.end_edge half_inner m.middle i;
      } in
      subst (λ s. IsCrossingTo through into flow x s y) is.0 (subst (λ z. IsCrossingTo through into flow x m.time z) is.1 crosses)
