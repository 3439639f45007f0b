-- Which laws do segments, flows, plays and check points obey?
use Rattle.std.specs.Prelude.{◌≡◌, ◌⊎◌, ◌↔◌, Bool, true, List, [], ◌∷◌, length}
use Rattle.lhg_math.specs.Number.{Number, add, mul, neg, lt, nought, unit}
use Rattle.lhg_math.specs.Interpolate.{interpolate}
use Rattle.lhg_math.specs.Places.{IsPlace, IsInner}
use Rattle.lhg_row.specs.Row.{PlainRow, PlainPoint, value_at, holds_at, Holds}
use Rattle.lhg_row.specs.Piece.{PlainPiece, InPiece, in_piece, InClosure, InSome, in_some}
use Rattle.lhg_motion.specs.Segment.{along, HasOneTurn}
use Rattle.lhg_motion.specs.Flow.{IsFlow}
use Rattle.lhg_motion.specs.Speed.{IsFlowBySpeed}
use Rattle.lhg_motion.specs.Play.{PlainMove, IsPlay, last_point, EachEarlier}
use Rattle.lhg_motion.specs.CheckPoint.{IsCut, AreNeighbours, IsCheckPoint, IsBetween, IsEnclosed}
use Rattle.lhg_row.specs.Members.{SomeOf}
use Rattle.lhg_math.specs.Tests.{AllOf}

-- the places of a segment: 0 and 1 are its ends, and a segment between two of its places is a part of it
pub record PlaceLaws : Type 0 where
  pub start : (x y : PlainPoint) → length x ≡ length y → along x y nought ≡ x
  pub end_at : (x y : PlainPoint) → length x ≡ length y → along x y unit ≡ y
  pub twice : (x y : PlainPoint) (u v r : Number) → length x ≡ length y → along (along x y u) (along x y v) r ≡ along x y (interpolate u v r)

-- a row along a segment: its value moves evenly with the place, so it changes its truth at one place at most
pub record TurnLaws : Type 0 where
  pub value : (r : PlainRow) (x y : PlainPoint) (p : Number) → length x ≡ length y
      → value_at r (along x y p) ≡ interpolate (value_at r x) (value_at r y) p
  pub constant : (r : PlainRow) (x y : PlainPoint) → length x ≡ length y
      → (value_at r x ≡ value_at r y) ↔ ((p : Number) → value_at r (along x y p) ≡ value_at r x)
  pub one_turn : (r : PlainRow) (x y : PlainPoint) → length x ≡ length y → HasOneTurn r x y

-- a piece along a segment: it is convex; from one of its points towards one of its closure it holds; and where it holds all between, the ends are in its closure
pub record ConvexLaws : Type 0 where
  pub convex : (rows : PlainPiece) (x y : PlainPoint) (p : Number) → length x ≡ length y → InPiece rows x → InPiece rows y → IsPlace p
      → InPiece rows (along x y p)
  pub towards : (rows : PlainPiece) (x y : PlainPoint) (p : Number) → length x ≡ length y → InPiece rows x → InClosure rows y → IsInner p
      → InPiece rows (along x y p)
  pub ends : (rows : PlainPiece) (x y : PlainPoint) → length x ≡ length y → ((p : Number) → IsInner p → InPiece rows (along x y p))
      → InClosure rows x × InClosure rows y

-- straight flows join, and a part of a flow is a flow
pub record FlowLaws : Type 0 where
  pub join : (inv flow : PlainPiece) (x y z : PlainPoint) (s t : Number) → IsFlow inv flow x s y → IsFlow inv flow y t z
      → IsFlow inv flow x (add s t) z
  pub part : (inv flow : PlainPiece) (x y : PlainPoint) (t u v : Number) → IsFlow inv flow x t y → IsPlace u → IsPlace v → lt u v ≡ true
      → IsFlow inv flow (along x y u) (mul (add v (neg u)) t) (along x y v)
  pub upto : (inv flow : PlainPiece) (x y : PlainPoint) (t p : Number) → IsFlow inv flow x t y → IsPlace p → lt nought p ≡ true
      → IsFlow inv flow x (mul p t) (along x y p)

-- the speed of a flow is determined by its ends and its time, and whether a flow is legal is decidable
pub record SpeedLaws : Type 0 where
  pub speed : (inv flow : PlainPiece) (x : PlainPoint) (t : Number) (y : PlainPoint) → IsFlow inv flow x t y ↔ IsFlowBySpeed inv flow x t y
  pub decided : (inv flow : PlainPiece) (x : PlainPoint) (t : Number) (y : PlainPoint) → IsFlow inv flow x t y ⊎ ¬ IsFlow inv flow x t y

-- the points that pass a test
abbrev pub Passes : (PlainPoint → Bool) → PlainPoint → Type 0
Passes f p = f p ≡ true

-- plays are read flow by flow, and end in the invariant; a law cannot speak of all sets of points, so it speaks of all tests
pub record PlayLaws : Type 0 where
  pub none : (f : PlainPoint → Bool) (x : PlainPoint) → EachEarlier (Passes f) x []
  pub one : (f : PlainPoint → Bool) (x : PlainPoint) (m : PlainMove)
      → EachEarlier (Passes f) x (m ∷ []) ↔ ((p : Number) → IsPlace p → lt p unit ≡ true → Passes f (along x m.to p))
  pub more : (f : PlainPoint → Bool) (x : PlainPoint) (m n : PlainMove) (ms : List PlainMove)
      → EachEarlier (Passes f) x (m ∷ n ∷ ms) ↔ (((p : Number) → IsPlace p → Passes f (along x m.to p)) × EachEarlier (Passes f) m.to (n ∷ ms))
  pub ends : (inv flow : PlainPiece) (x : PlainPoint) (moves : List PlainMove) → IsPlay inv flow x moves → InPiece inv (last_point x moves)

-- check points: each place is a cut or lies between two neighbours, and between two neighbours no row changes its truth
pub record CheckPointLaws : Type 0 where
  pub enclosed : (rows : List PlainRow) (x y : PlainPoint) (p : Number) → length x ≡ length y → IsPlace p → IsCut rows x y p ⊎ IsEnclosed rows x y p
  pub truth : (rows : List PlainRow) (x y : PlainPoint) (a b u v : Number) → length x ≡ length y → AreNeighbours rows x y a b → IsBetween a b u
      → IsBetween a b v
      → AllOf (λ r. holds_at r (along x y u) ≡ holds_at r (along x y v)) rows
  pub place : (rows : List PlainRow) (x y : PlainPoint) (p : Number) → IsCheckPoint rows x y p → IsPlace p

-- the check points of a segment are finitely many
abbrev pub FiniteLaw : Type 0
FiniteLaw = (rows : List PlainRow) (x y : PlainPoint) → length x ≡ length y → (places : List Number) × ((p : Number) → IsCheckPoint rows x y p ↔ SomeOf (λ q. q ≡ p) places)
