-- Numbers: fractions of whole numbers, without a greatest size.
use Rattle.std.specs.Prelude.{ℕ, zero, suc, ◌*◌, ◌/◌, ℤ, pos, negsuc, neg_ℤ, ◌+ℤ◌, ◌*ℤ◌, Bool, cond}
use Rattle.std.specs.declared.cmp.Ordering.{Ordering}
use Rattle.std.specs.declared.cmp.Ordering.TheVariants.{Less, Equal, Greater}
use Rattle.std.specs.Int.RustNames.{unsigned_abs, int_lt, int_div}
use Rattle.lhg_math.specs.Gcd.{gcd}
use Rattle.lhg_math.specs.Lowest.{IsLowest}
use Rattle.lhg_math.specs.Reduce.{lowest_of, lowest-neg}

-- top / bottom in lowest terms, so that equal numbers are equal terms
pub record Number : Type 0 where
  pub top : ℤ
  pub bottom : ℕ
  pub lowest : IsLowest top bottom

-- n / (d + 1)
unfoldable pub ratio_suc : ℤ → ℕ → Number
ratio_suc n d = let g = gcd (unsigned_abs n) (suc d) in record { top = int_div n (pos g); bottom = suc d / g; lowest = lowest_of n d }

-- n / d, and n / 1 where d is 0
unfoldable pub ratio : ℤ → ℕ → Number
ratio n zero = ratio_suc n zero
ratio n (suc d) = ratio_suc n d

-- the sum, by cross multiplication
unfoldable pub add : Number → Number → Number
add x y = ratio (x.top *ℤ pos y.bottom +ℤ y.top *ℤ pos x.bottom) (x.bottom * y.bottom)

-- the product
unfoldable pub mul : Number → Number → Number
mul x y = ratio (x.top *ℤ y.top) (x.bottom * y.bottom)

-- the number with the other sign
unfoldable pub neg : Number → Number
neg x = record { top = neg_ℤ x.top; bottom = x.bottom; lowest = lowest-neg x.top x.bottom x.lowest }

-- the difference
unfoldable pub sub : Number → Number → Number
sub x y = add x (neg y)

-- a whole number as a number
unfoldable pub whole : ℤ → Number
whole n = ratio n 1

-- the first is less than the second, by cross multiplication
unfoldable pub lt : Number → Number → Bool
lt x y = int_lt (x.top *ℤ pos y.bottom) (y.top *ℤ pos x.bottom)

-- the number 0
unfoldable pub nought : Number
nought = whole (pos 0)

-- the number 1
unfoldable pub unit : Number
unit = whole (pos 1)

-- n with the sign of the first number
abbrev pub flip_sign : ℤ → ℤ → ℤ
flip_sign (pos a) n = n
flip_sign (negsuc a) n = neg_ℤ n

-- 1 / x, and 1 where x is 0
unfoldable pub inverse : Number → Number
inverse x = ratio (flip_sign x.top (pos x.bottom)) (unsigned_abs x.top)

-- the quotient, and x where y is 0
unfoldable pub quot : Number → Number → Number
quot x y = mul x (inverse y)

-- the number 1/2
unfoldable pub half : Number
half = ratio (pos 1) 2

-- half of the sum
unfoldable pub mid : Number → Number → Number
mid x y = mul (add x y) half

-- the order of two numbers
abbrev pub compare : Number → Number → Ordering
compare x y = cond (lt x y) Less (cond (lt y x) Greater Equal)

-- the order of a number against 0
abbrev pub sign_of : Number → Ordering
sign_of x = compare x nought
