-- A value of the calculus, with its marks.
use Rattle.std.specs.Prelude.{◌≡◌, Bool, true, false, ◌||◌, List, [], ◌∷◌}
use Rattle.lhg_math.specs.Number.{Number, add, sub, mul, compare, quot, mid}
use Rattle.std.specs.declared.cmp.Ordering.{Ordering}
use Rattle.lhg_num.specs.Limits.{frac_refuses_div, frac_refuses_mid}
use Rattle.lhg_num.specs.Arithmetic.{Arithmetic}

-- wide: some operation had operands that its type refuses. rows: some list of rows was past its limit.
-- pieces: some list of pieces was past one of its limits
pub record Marked (A : Type 0) : Type 0 where
  pub value : A
  pub wide : Bool
  pub rows : Bool
  pub pieces : Bool

-- a value with no mark
abbrev pub done : {A : Type 0} → A → Marked A
done x = record { value = x; wide = false; rows = false; pieces = false }

-- the value, refused where the test says so
abbrev pub refusing : {A : Type 0} → Bool → A → Marked A
refusing b x = record { value = x; wide = b; rows = false; pieces = false }

-- one step and then the next
abbrev pub and_then : {A B : Type 0} → Marked A → (A → Marked B) → Marked B
and_then m f = let n = f m.value in record { value = n.value; wide = m.wide || n.wide; rows = m.rows || n.rows; pieces = m.pieces || n.pieces }

-- the same marks with another value
abbrev pub valued : {A B : Type 0} → (A → B) → Marked A → Marked B
valued f m = record { value = f m.value; wide = m.wide; rows = m.rows; pieces = m.pieces }

-- f of each member, in order
abbrev pub each : {A B : Type 0} → (A → Marked B) → List A → Marked (List B)
each f [] = done []
each f (x ∷ xs) = and_then (f x) (λ y. valued (λ ys. y ∷ ys) (each f xs))

-- one step for each member, from a state to the next
abbrev pub walk : {S A : Type 0} → (S → A → Marked S) → S → List A → Marked S
walk f s [] = done s
walk f s (x ∷ xs) = and_then (f s x) (λ t. walk f t xs)

-- ---- operations of a type
-- the sum, with its mark
abbrev pub marked_add : Arithmetic → Number → Number → Marked Number
marked_add a x y = refusing (a.refuses_add x y) (add x y)

-- the difference, with its mark
abbrev pub marked_sub : Arithmetic → Number → Number → Marked Number
marked_sub a x y = refusing (a.refuses_sub x y) (sub x y)

-- the product, with its mark
abbrev pub marked_mul : Arithmetic → Number → Number → Marked Number
marked_mul a x y = refusing (a.refuses_mul x y) (mul x y)

-- the order, with its mark
abbrev pub marked_cmp : Arithmetic → Number → Number → Marked Ordering
marked_cmp a x y = refusing (a.refuses_cmp x y) (compare x y)

-- ---- operations of fractions alone
-- the quotient, with its mark
abbrev pub marked_div : Number → Number → Marked Number
marked_div x y = refusing (frac_refuses_div x y) (quot x y)

-- the middle, with its mark
abbrev pub marked_mid : Number → Number → Marked Number
marked_mid x y = refusing (frac_refuses_mid x y) (mid x y)

-- ---- laws
-- what is left of a calculation gives its value, and sets no mark that the whole does not set
pub record IsRest {A : Type 0} (whole rest : Marked A) : Type 0 where
  pub same : rest.value ≡ whole.value
  pub wide : rest.wide ≡ true → whole.wide ≡ true
  pub rows : rest.rows ≡ true → whole.rows ≡ true
  pub pieces : rest.pieces ≡ true → whole.pieces ≡ true
