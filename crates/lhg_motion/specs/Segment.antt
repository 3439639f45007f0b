-- Which points lie on the straight segment between two points?
use Rattle.std.specs.Prelude.{◌≡◌, true, [], ◌∷◌}
use Rattle.lhg_math.specs.Number.{Number, lt}
use Rattle.lhg_math.specs.Interpolate.{interpolate}
use Rattle.lhg_row.specs.Row.{PlainRow, PlainPoint, holds_at}

-- x + p * (y - x), coordinate by coordinate: x at the place 0, y at the place 1
abbrev pub along : PlainPoint → PlainPoint → Number → PlainPoint
along [] ys p = []
along (x ∷ xs) [] p = []
along (x ∷ xs) (y ∷ ys) p = interpolate x y p ∷ along xs ys p

-- some place divides the line through x and y: on either side of it the row does not change its truth
pub record HasOneTurn (r : PlainRow) (x y : PlainPoint) : Type 0 where
  pub at : Number
  pub before : (p q : Number) → lt p at ≡ true → lt q at ≡ true → holds_at r (along x y p) ≡ holds_at r (along x y q)
  pub after : (p q : Number) → lt at p ≡ true → lt at q ≡ true → holds_at r (along x y p) ≡ holds_at r (along x y q)
