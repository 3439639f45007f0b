-- The limit on the size of a numerator, a denominator and a whole number.
use Rattle.std.specs.Prelude.{◌≡◌, ◌*◌, ◌/◌, ◌^◌, ℤ, pos, ◌+ℤ◌, ◌*ℤ◌, Bool, true, false, not, cond, ◌||◌, nat_lt, Option, Some, None, List, Result, Ok, Err}
use Rattle.std.specs.Int.RustNames.{unsigned_abs, int_div}
use Rattle.lhg_math.specs.Gcd.{gcd}
use Rattle.lhg_math.specs.Number.{Number, add, neg, inverse, half}
use Rattle.lhg_math.specs.Signs.{size_of, is_nought, lead}
use Rattle.lhg_math.specs.Tests.{any_of}

-- the number is past 2^127 - 1 in size
abbrev pub is_past : ℤ → Bool
is_past z = not (nat_lt (unsigned_abs z) (2 ^ 127))

-- the number where it is within the limit
abbrev pub formed : ℤ → Option ℤ
formed z = cond (is_past z) None (Some z)

-- a formed number of a product is past the limit
abbrev pub frac_refuses_mul : Number → Number → Bool
frac_refuses_mul x y =
    let g = gcd (unsigned_abs x.top) y.bottom in
    let h = gcd (unsigned_abs y.top) x.bottom in
    is_past (int_div x.top (pos g) *ℤ int_div y.top (pos h)) || is_past (pos ((x.bottom / h) * (y.bottom / g)))

-- a formed number of a sum is past the limit
abbrev pub frac_refuses_add : Number → Number → Bool
frac_refuses_add x y =
    let g = gcd x.bottom y.bottom in
    let p = x.top *ℤ pos (y.bottom / g) in
    let q = y.top *ℤ pos (x.bottom / g) in
    let h = gcd (unsigned_abs (p +ℤ q)) g in
    (is_past p || is_past q) || (is_past (p +ℤ q) || is_past (pos ((x.bottom / g) * (y.bottom / h))))

-- a formed number of a comparison is past the limit
abbrev pub frac_refuses_cmp : Number → Number → Bool
frac_refuses_cmp x y = let g = gcd x.bottom y.bottom in is_past (x.top *ℤ pos (y.bottom / g)) || is_past (y.top *ℤ pos (x.bottom / g))

-- a difference is formed as the sum with the negative
abbrev pub frac_refuses_sub : Number → Number → Bool
frac_refuses_sub x y = frac_refuses_add x (neg y)

-- a quotient is formed as the product with the inverse
abbrev pub frac_refuses_div : Number → Number → Bool
frac_refuses_div x y = frac_refuses_mul x (inverse y)

-- a middle is formed as the sum and then its product with 1/2
abbrev pub frac_refuses_mid : Number → Number → Bool
frac_refuses_mid x y = frac_refuses_add x y || frac_refuses_mul (add x y) half

-- a quotient of some entry by the size of the first entry that is not 0 is refused, where there is such an entry
abbrev pub frac_refuses_canon : List Number → Bool
frac_refuses_canon row = cond (is_nought (lead row)) false (any_of (λ x. frac_refuses_div x (size_of (lead row))) row)

-- an operation answers the value, and is refused exactly where the test says so
abbrev pub IsExact : {T E : Type 0} → Result T E → Bool → (T → Type 0) → Type 0
IsExact (Ok x) refused P = (refused ≡ false) × P x
IsExact (Err e) refused P = refused ≡ true
