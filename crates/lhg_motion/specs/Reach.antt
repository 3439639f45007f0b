-- Which points have a play into bad pieces, and when are pieces found layer by layer?
use Rattle.std.specs.Prelude.{◌≡◌, ◌⊎◌, ◌↔◌, ℕ, zero, suc, List, [], ◌∷◌, ◌++◌, length}
use Rattle.lhg_math.specs.Number.{Number}
use Rattle.lhg_math.specs.Tests.{AllOf}
use Rattle.lhg_row.specs.Row.{PlainPoint}
use Rattle.lhg_row.specs.Piece.{PlainPiece, InPiece, InSome}
use Rattle.lhg_motion.specs.Flow.{IsFlow}
use Rattle.lhg_motion.specs.Play.{PlainMove, IsPlay, last_point, EachPoint}
use Rattle.lhg_row.specs.Members.{SomeOf}
use Rattle.lhg_motion.specs.Crossing.{GoesThrough, HasCrossing}

-- a play inside the bad and near pieces that ends in a bad one; of the plant only the flow set is asked
pub record HasPlay (bad near : List PlainPiece) (flow : PlainPiece) (x : PlainPoint) : Type 0 where
  pub moves : List PlainMove
  pub legal : IsPlay [] flow x moves
  pub inside : EachPoint (λ p. InSome (bad ++ near) p) x moves
  pub ends : InSome bad (last_point x moves)

-- a crossing from some near piece, through some way, into some known piece
abbrev pub HasStep : List PlainPiece → List PlainPiece → List PlainPiece → PlainPiece → PlainPoint → Type 0
HasStep near ways known flow x = SomeOf (λ from. SomeOf (λ through. SomeOf (λ into. HasCrossing from through into flow x) known) ways) near

-- each point, with n coordinates, of each found piece has a crossing into a known piece or an earlier found one
abbrev pub EachStep : ℕ → List PlainPiece → List PlainPiece → List PlainPiece → PlainPiece → List PlainPiece → Type 0
EachStep n near ways known flow [] = Unit {0}
EachStep n near ways known flow (piece ∷ found) = ((x : PlainPoint) → length x ≡ n → InPiece piece x → HasStep near ways known flow x) × EachStep n near ways (known ++ (piece ∷ [])) flow found

-- a further layer adds nothing
abbrev pub IsSettled : ℕ → List PlainPiece → List PlainPiece → List PlainPiece → PlainPiece → Type 0
IsSettled n near ways known flow = (x : PlainPoint) → length x ≡ n → HasStep near ways known flow x → InSome known x

-- the same crossing into a set of points
pub record StepsTo (near ways : List PlainPiece) (flow : PlainPiece) (K : PlainPoint → Type 0) (x : PlainPoint) : Type 0 where
  pub from_in : InSome near x
  pub time : Number
  pub to : PlainPoint
  pub legal : IsFlow [] flow x time to
  pub passes : SomeOf (λ through. GoesThrough through x to) ways
  pub into : K to

-- the points found by at most n layers
abbrev pub InLevel : List PlainPiece → List PlainPiece → PlainPiece → ℕ → PlainPoint → Type 0
InLevel bad near flow zero x = InSome bad x
InLevel bad near flow (suc n) x = InLevel bad near flow n x ⊎ StepsTo near (bad ++ near) flow (λ y. InLevel bad near flow n y) x

-- a layer: each of its points has a crossing into a piece known before, each such crossing starts in a piece known before or in the layer, and some point is new
pub record IsLayer (n : ℕ) (near ways known : List PlainPiece) (flow : PlainPiece) (layer : List PlainPiece) : Type 0 where
  pub crosses : (x : PlainPoint) → length x ≡ n → InSome layer x → HasStep near ways known flow x
  pub all : (x : PlainPoint) → length x ≡ n → HasStep near ways known flow x → InSome (known ++ layer) x
  pub new : PlainPoint
  pub new_fits : length new ≡ n
  pub new_in : InSome layer new
  pub not_known : ¬ InSome known new

-- layers one after another, each over what the earlier ones made known
abbrev pub AreLayers : ℕ → List PlainPiece → List PlainPiece → List PlainPiece → PlainPiece → List (List PlainPiece) → Type 0
AreLayers n near ways known flow [] = Unit {0}
AreLayers n near ways known flow (layer ∷ layers) = IsLayer n near ways known flow layer × AreLayers n near ways (known ++ layer) flow layers

-- the pieces known before, followed by those of the layers
abbrev pub all_known : List PlainPiece → List (List PlainPiece) → List PlainPiece
all_known known [] = known
all_known known (layer ∷ layers) = all_known (known ++ layer) layers

-- each crossing of each three pieces starts in a piece of the list
abbrev pub EachCovered : ℕ → List PlainPiece → List PlainPiece → List PlainPiece → PlainPiece → List PlainPiece → Type 0
EachCovered n near ways known flow found =
    AllOf (λ from. AllOf (λ through. AllOf (λ into. (x : PlainPoint) → length x ≡ n → HasCrossing from through into flow x → InSome found x) known) ways) near

-- the points of the list are those with a crossing into a known piece
abbrev pub AreCrossings : ℕ → List PlainPiece → List PlainPiece → List PlainPiece → PlainPiece → List PlainPiece → Type 0
AreCrossings n near ways known flow crossings = (x : PlainPoint) → length x ≡ n → InSome crossings x ↔ HasStep near ways known flow x

-- some point of the piece is in no piece of the list
pub record HasNew (n : ℕ) (piece : PlainPiece) (known : List PlainPiece) : Type 0 where
  pub at : PlainPoint
  pub fits : length at ≡ n
  pub point_in : InPiece piece at
  pub not_known : ¬ InSome known at

-- the crossings gone over in order, from the new pieces so far to all new pieces
abbrev pub IsKept : ℕ → List PlainPiece → List PlainPiece → List PlainPiece → List PlainPiece → Type 0
IsKept n known so_far [] layer = so_far ≡ layer
IsKept n known so_far (c ∷ cs) layer =
    (((x : PlainPoint) → length x ≡ n → InPiece c x → InSome (known ++ so_far) x) × IsKept n known so_far cs layer) ⊎ (HasNew n c (known ++ so_far) × IsKept n known (so_far ++ (c ∷ [])) cs layer)
