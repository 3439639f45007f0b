-- What have the entries of a row of whole numbers in common, and how is such a row scaled?
use Rattle.std.specs.Prelude.{ℕ, pos, Bool, cond, List, [], ◌∷◌, map, nat_eq}
use Rattle.std.specs.Int.RustNames.{unsigned_abs}
use Rattle.lhg_math.specs.Gcd.{gcd}
use Rattle.lhg_math.specs.Number.{Number, whole, quot}

-- the number is whole
abbrev pub is_whole : Number → Bool
is_whole x = nat_eq x.bottom 1

-- the greatest common divisor of the numerators, and 0 where all are 0
abbrev pub content : List Number → ℕ
content [] = 0
content (x ∷ xs) = gcd (unsigned_abs x.top) (content xs)

-- each entry divided by the content; a row of zeros stays
abbrev pub canon_whole : List Number → List Number
canon_whole row = cond (nat_eq (content row) 0) row (map (λ x. quot x (whole (pos (content row)))) row)
