-- The parts of a result, where each formed number is within the limit.
use Rattle.std.specs.Prelude.{ℤ, pos, ◌+ℤ◌, ◌*ℤ◌, Option, Some, None}
use Rattle.std.specs.Int.RustNames.{unsigned_abs, int_div}
use Rattle.lhg_math.specs.Gcd.{gcd}
use Rattle.lhg_math.specs.Number.{flip_sign}
use Rattle.lhg_num.specs.Limits.{formed}

-- both numbers, where both were formed
abbrev pub both_of : Option ℤ → Option ℤ → Option (ℤ × ℤ)
both_of None _ = None
both_of (Some t) None = None
both_of (Some t) (Some b) = Some (t, b)

-- what a product forms: each numerator is reduced by the other denominator
abbrev pub product_parts : ℤ → ℤ → ℤ → ℤ → Option (ℤ × ℤ)
product_parts a b c d =
    let g = pos (gcd (unsigned_abs a) (unsigned_abs d)) in
    let h = pos (gcd (unsigned_abs c) (unsigned_abs b)) in
    both_of (formed (int_div a g *ℤ int_div c h)) (formed (int_div b h *ℤ int_div d g))

-- what a sum forms after the sum of the sides
abbrev pub after_sum : ℤ → ℤ → ℤ → Option ℤ → Option (ℤ × ℤ)
after_sum b d g None = None
after_sum b d g (Some s) = let h = pos (gcd (unsigned_abs s) (unsigned_abs g)) in both_of (Some (int_div s h)) (formed (int_div b g *ℤ int_div d h))

-- what a sum forms after its sides
abbrev pub reduced_parts : ℤ → ℤ → ℤ → ℤ → ℤ → Option (ℤ × ℤ)
reduced_parts p q b d g = after_sum b d g (formed (p +ℤ q))

-- the same, where both sides were formed
abbrev pub after_products : ℤ → ℤ → ℤ → Option (ℤ × ℤ) → Option (ℤ × ℤ)
after_products b d g None = None
after_products b d g (Some pq) = reduced_parts pq.0 pq.1 b d g

-- the numerators of a sum or of a comparison, over the least common denominator
abbrev pub sides_of : ℤ → ℤ → ℤ → ℤ → ℤ → Option (ℤ × ℤ)
sides_of a b c d g = both_of (formed (a *ℤ int_div d g)) (formed (c *ℤ int_div b g))

-- what a sum forms
abbrev pub total_parts : ℤ → ℤ → ℤ → ℤ → Option (ℤ × ℤ)
total_parts a b c d = let g = pos (gcd (unsigned_abs b) (unsigned_abs d)) in after_products b d g (sides_of a b c d g)

-- what a comparison forms
abbrev pub crossed_parts : ℤ → ℤ → ℤ → ℤ → Option (ℤ × ℤ)
crossed_parts a b c d = sides_of a b c d (pos (gcd (unsigned_abs b) (unsigned_abs d)))

-- n / d in lowest terms, with the sign in the numerator
abbrev pub lowest_parts : ℤ → ℤ → ℤ × ℤ
lowest_parts n d =
    let t = flip_sign d n in
    let b = pos (unsigned_abs d) in
    let g = pos (gcd (unsigned_abs t) (unsigned_abs d)) in
    (int_div t g, int_div b g)
