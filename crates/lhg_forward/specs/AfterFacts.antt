-- What do the pieces after a flow and after a switch say of points?
use Rattle.std.specs.Prelude.{◌≡◌, ◌↔◌, ℕ, length, slice_get, IsSomeAnd, Option, Some, None}
use Rattle.lhg_math.specs.Number.{Number}
use Rattle.lhg_num.specs.FracArithmetic.{frac_arithmetic}
use Rattle.lhg_row.specs.Row.{PlainPoint}
use Rattle.lhg_row.specs.Piece.{PlainPiece, InPiece}
use Rattle.lhg_row.specs.PieceFacts.{IsPoly}
use Rattle.lhg_plant.specs.Plant.{PlainPlant}
use Rattle.lhg_plant.specs.Legal.{LegalFlow, LegalSwitch}
use Rattle.lhg_plant.specs.SwitchFacts.{state_at}

-- a legal flow in location l leads from a state of the piece to the point
pub record IsFlowEnd (a : PlainPlant) (l : ℕ) (piece : PlainPiece) (y : PlainPoint) : Type 0 where
  pub start : PlainPoint
  pub inside : InPiece piece start
  pub time : Number
  pub legal : LegalFlow a (state_at l start) time y

-- switch e leads legally from a state of the piece to the point
pub record IsResult (a : PlainPlant) (e : ℕ) (piece : PlainPiece) (y : PlainPoint) : Type 0 where
  pub start : PlainPoint
  pub inside : InPiece piece start
  pub legal : IsSomeAnd (slice_get a.switches e) (λ w. LegalSwitch a e (state_at w.from start) (state_at w.to y))

-- a piece with exactly the points over n variables that have the fact
pub record HasPoints (n : ℕ) (P : PlainPoint → Type 0) (piece : PlainPiece) : Type 0 where
  pub points : (y : PlainPoint) → length y ≡ n → InPiece piece y ↔ P y
  pub poly : IsPoly frac_arithmetic n piece

-- none says that no point has the fact, and a piece that it has exactly those that do
abbrev pub HasPointsOr : ℕ → (PlainPoint → Type 0) → Option PlainPiece → Type 0
HasPointsOr n P None = (y : PlainPoint) → length y ≡ n → ¬ P y
HasPointsOr n P (Some piece) = HasPoints n P piece
