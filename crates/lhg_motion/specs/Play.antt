-- What is a play over the points of one location, and which are its points?
use Rattle.std.specs.Prelude.{◌≡◌, ◌<◌, ℕ, zero, suc, true, List, [], ◌∷◌, length}
use Rattle.lhg_math.specs.Number.{Number, lt, unit}
use Rattle.lhg_math.specs.Places.{IsPlace}
use Rattle.lhg_row.specs.Row.{PlainPoint}
use Rattle.lhg_row.specs.Piece.{PlainPiece, InPiece}
use Rattle.lhg_motion.specs.Segment.{along}
use Rattle.lhg_motion.specs.Flow.{IsFlow}

-- one flow of a play: its time and its end
pub record PlainMove : Type 0 where
  pub time : Number
  pub to : PlainPoint

-- a play from x: a finite list of legal flows, each beginning where the last one ended
abbrev pub IsPlay : PlainPiece → PlainPiece → PlainPoint → List PlainMove → Type 0
IsPlay inv flow x [] = InPiece inv x
IsPlay inv flow x (m ∷ ms) = IsFlow inv flow x m.time m.to × IsPlay inv flow m.to ms

-- the end of the last flow, and the start where there is none
abbrev pub last_point : PlainPoint → List PlainMove → PlainPoint
last_point x [] = x
last_point x (m ∷ ms) = last_point m.to ms

-- the point at the place p of flow k, flows counted from 0
abbrev pub point_of : PlainPoint → List PlainMove → ℕ → Number → PlainPoint
point_of x [] k p = x
point_of x (m ∷ ms) zero p = along x m.to p
point_of x (m ∷ ms) (suc k) p = point_of m.to ms k p

-- the place p of flow k is one of the play, and is not the end of the last flow
pub record IsEarlier (moves : List PlainMove) (k : ℕ) (p : Number) : Type 0 where
  pub flow : k < length moves
  pub place : IsPlace p
  pub before_end : suc k ≡ length moves → lt p unit ≡ true

-- what holds of each earlier point
abbrev pub EachEarlier : (PlainPoint → Type 0) → PlainPoint → List PlainMove → Type 0
EachEarlier P x moves = (k : ℕ) (p : Number) → IsEarlier moves k p → P (point_of x moves k p)

-- what holds of each point: of the earlier ones and of the last
abbrev pub EachPoint : (PlainPoint → Type 0) → PlainPoint → List PlainMove → Type 0
EachPoint P x moves = EachEarlier P x moves × P (last_point x moves)
