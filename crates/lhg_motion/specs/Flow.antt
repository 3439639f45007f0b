-- When is a straight flow between two points legal?
use Rattle.std.specs.Prelude.{◌≡◌, true, List, [], ◌∷◌, length, map}
use Rattle.lhg_math.specs.Number.{Number, mul, sub, lt, nought}
use Rattle.lhg_row.specs.Row.{PlainPoint}
use Rattle.lhg_row.specs.Piece.{PlainPiece, InPiece}

-- y - x, coordinate by coordinate
abbrev pub displacement : PlainPoint → PlainPoint → List Number
displacement [] ys = []
displacement (x ∷ xs) [] = []
displacement (x ∷ xs) (y ∷ ys) = sub y x ∷ displacement xs ys

-- t * f, coordinate by coordinate
abbrev pub times : Number → List Number → List Number
times t f = map (λ c. mul t c) f

-- a legal flow from x to y in the time t, where inv are the rows of the invariant and flow those of the derivatives:
-- t > 0, both ends are in the invariant, and y - x = t * f for some f at which all flow rows hold
pub record IsFlow (inv flow : PlainPiece) (x : PlainPoint) (t : Number) (y : PlainPoint) : Type 0 where
  pub takes_time : lt nought t ≡ true
  pub from_in : InPiece inv x
  pub to_in : InPiece inv y
  pub same_length : length x ≡ length y
  pub speed : List Number
  pub slope : displacement x y ≡ times t speed
  pub allowed : InPiece flow speed
