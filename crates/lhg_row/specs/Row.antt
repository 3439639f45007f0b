-- What is a row, and at which points does it hold?
use Rattle.std.specs.Prelude.{◌≡◌, Bool, true, false, not, cond, List, [], ◌∷◌}
use Rattle.lhg_math.specs.Number.{Number, add, mul, lt, nought}

-- a point is a list of numbers, one per variable
abbrev pub PlainPoint : Type 0
PlainPoint = List Number

-- the sum of the coefficients times the variables is at most the bound, or below it where the row is strict
pub record PlainRow : Type 0 where
  pub coefs : List Number
  pub strict : Bool
  pub bound : Number

-- the row of these coefficients, this kind and this bound
abbrev pub row_with : List Number → Bool → Number → PlainRow
row_with cs strict b = record { coefs = cs; strict = strict; bound = b }

-- s, and to it the products of the coefficients and the coordinates, from the first variable to the last
abbrev pub row_value : Number → List Number → PlainPoint → Number
row_value s [] xs = s
row_value s (c ∷ cs) [] = s
row_value s (c ∷ cs) (x ∷ xs) = row_value (add s (mul c x)) cs xs

-- the sum of the coefficients times the coordinates
abbrev pub value_at : PlainRow → PlainPoint → Number
value_at r p = row_value nought r.coefs p

-- whether the row holds at the point: value < bound where it is strict, and else not bound < value
abbrev pub holds_at : PlainRow → PlainPoint → Bool
holds_at r p = cond r.strict (lt (value_at r p) r.bound) (not (lt r.bound (value_at r p)))

-- the row holds at the point
abbrev pub Holds : PlainRow → PlainPoint → Type 0
Holds r p = holds_at r p ≡ true

-- the row holds with equality
abbrev pub IsTight : PlainRow → PlainPoint → Type 0
IsTight r p = value_at r p ≡ r.bound

-- the row with strict made weak
abbrev pub relaxed : PlainRow → PlainRow
relaxed r = record { coefs = r.coefs; strict = false; bound = r.bound }
