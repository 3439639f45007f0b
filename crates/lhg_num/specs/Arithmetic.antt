-- Which numbers a type holds, which operands it refuses, and how it scales a row, as functions of values alone.
use Rattle.std.specs.Prelude.{◌≡◌, Bool, true, cond, List, [], ◌∷◌, map}
use Rattle.std.proofs.Common.{refl, sym, ap, ◌∙◌}
use Rattle.lhg_math.specs.Number.{Number, add, mul, neg, lt, nought, unit}
use Rattle.lhg_math.specs.NumberRing.{mul_comm, mul-unit}
use Rattle.lhg_math.specs.NumberOrder.{nought_unit}
use Rattle.lhg_math.specs.Tests.{all_of, by_bool}

-- what the calculus needs to know of a number type
pub record Arithmetic : Type 0 where
  -- the numbers that the type holds, of any size
  pub holds : Number → Bool
  -- the operands that an operation refuses
  pub refuses_add : Number → Number → Bool
  pub refuses_sub : Number → Number → Bool
  pub refuses_mul : Number → Number → Bool
  pub refuses_cmp : Number → Number → Bool
  pub refuses_canon : List Number → Bool
  -- the positive multiple that stands for a row and all its positive multiples
  pub canon_of : List Number → List Number

-- the new row is a positive multiple of the old one
pub record IsMultiple (old new : List Number) : Type 0 where
  pub factor : Number
  pub positive : lt nought factor ≡ true
  pub entries : new ≡ map (λ x. mul factor x) old

-- what every number type keeps, on the rows of numbers that it holds
pub record IsLawful (a : Arithmetic) : Type 0 where
  pub multiple : (row : List Number) → all_of a.holds row ≡ true → IsMultiple row (a.canon_of row)
  pub same : (old new : List Number) → all_of a.holds old ≡ true → all_of a.holds new ≡ true → IsMultiple old new → a.canon_of new ≡ a.canon_of old
  pub nought_held : a.holds nought ≡ true
  pub unit_held : a.holds unit ≡ true
  pub add_held : (x y : Number) → a.holds x ≡ true → a.holds y ≡ true → a.holds (add x y) ≡ true
  pub mul_held : (x y : Number) → a.holds x ≡ true → a.holds y ≡ true → a.holds (mul x y) ≡ true
  pub neg_held : (x : Number) → a.holds x ≡ true → a.holds (neg x) ≡ true
  pub canon_held : (row : List Number) → all_of a.holds row ≡ true → all_of a.holds (a.canon_of row) ≡ true

-- the row as the type scales it; a row with a number that the type does not hold is left alone
abbrev pub scaled : Arithmetic → List Number → List Number
scaled a row = cond (all_of a.holds row) (a.canon_of row) row

-- a row of numbers that the type holds is scaled by the type's rule
pub scaled-held : (a : Arithmetic) (row : List Number) → all_of a.holds row ≡ true → scaled a row ≡ a.canon_of row
scaled-held a row h = rw h refl

-- the meanings of values are numbers that the type holds, so a row of values is held
pub held_row : {A : Type 0} (a : Arithmetic) (meaning : A → Number) → ((x : A) → a.holds (meaning x) ≡ true) → (xs : List A) → all_of a.holds (map meaning xs) ≡ true
held_row a meaning h [] = refl
held_row a meaning h (x ∷ xs) = rw (h x, held_row a meaning h xs) refl

-- the factor 1 leaves a row as it is
pub map-unit : (xs : List Number) → xs ≡ map (λ x. mul unit x) xs
map-unit [] = refl
map-unit (x ∷ xs) = ap (λ y. y ∷ xs) (sym (mul_comm unit x ∙ mul-unit x)) ∙ ap (λ ys. mul unit x ∷ ys) (map-unit xs)

-- a row is a positive multiple of itself
pub multiple_self : (row : List Number) → IsMultiple row row
multiple_self row = record { factor = unit; positive = nought_unit; entries = map-unit row }

-- a scaled row is a positive multiple, whatever its entries
pub scaled_multiple : (a : Arithmetic) (row : List Number) → IsLawful a → IsMultiple row (scaled a row)
scaled_multiple a row laws =
    by_bool (all_of a.holds row)
    (λ e. rw e (laws.multiple row e))
    (λ e. rw e (multiple_self row))

-- a row that was scaled is not changed again
pub scaled-scaled : (a : Arithmetic) (xs : List Number) → IsLawful a → scaled a (scaled a xs) ≡ scaled a xs
scaled-scaled a xs laws =
    by_bool (all_of a.holds xs)
    (λ e. let k = laws.canon_held xs e in rw e (scaled-held a (a.canon_of xs) k ∙ laws.same xs (a.canon_of xs) e k (laws.multiple xs e)))
    (λ e. let s : scaled a xs ≡ xs = rw e refl in ap (scaled a) s)
