-- Which number do all rows of one direction share?
use Rattle.std.specs.Prelude.{◌≡◌, ◌⊎◌, ℕ, ◌+◌, ◌*◌, ◌%◌, false, List, [], ◌∷◌, unsigned_abs}
use Rattle.std.specs.declared.cmp.Ordering.{Ordering}
use Rattle.std.specs.declared.cmp.Ordering.TheVariants.{Less, Equal, Greater}
use Rattle.lhg_math.specs.Number.{Number, quot, sign_of}
use Rattle.lhg_math.specs.Signs.{is_nought, size_of, lead}

-- the number above all codes, which stands where a code is not known
abbrev pub unknown : ℕ
unknown = 4294967296

-- a number of the sign
abbrev pub sign_code : Ordering → ℕ
sign_code Less = 2
sign_code Equal = 1
sign_code Greater = 0

-- a code, and a number put to it
abbrev pub mixed : ℕ → Number → ℕ
mixed h q = ((h * 1009 + unsigned_abs q.top % unknown) * 1009 + q.bottom % unknown + sign_code (sign_of q)) % unknown

-- the same of each number, divided by g, one after the other
abbrev pub codes_from : Number → ℕ → List Number → ℕ
codes_from g h [] = h
codes_from g h (c ∷ cs) = codes_from g (mixed h (quot c g)) cs

-- the code of coefficients
abbrev pub code : List Number → ℕ
code cs = codes_from (size_of (lead cs)) 0 cs

-- some coefficient is not 0, and this is the code of the coefficients
abbrev pub IsKnown : ℕ → List Number → Type 0
IsKnown c cs = (is_nought (size_of (lead cs)) ≡ false) × (c ≡ code cs)

-- the code of the coefficients, or not known
abbrev pub IsCode : ℕ → List Number → Type 0
IsCode c cs = (c ≡ unknown) ⊎ IsKnown c cs
