-- How is a row of fractions made whole, and when is that refused?
use Rattle.std.specs.Prelude.{◌≡◌, ◌≤◌, ℕ, ◌*◌, ◌/◌, pos, Bool, true, false, ◌||◌, List, [], ◌∷◌, map, Result, Ok, Err}
use Rattle.lhg_math.specs.Gcd.{gcd}
use Rattle.lhg_math.specs.Number.{Number, mul, whole}
use Rattle.lhg_math.specs.Tests.{any_of}
use Rattle.lhg_num.specs.Limits.{is_past}
use Rattle.lhg_num.specs.declared.refusals.Halt.{Halt}
use Rattle.lhg_num.specs.declared.refusals.Halt.TheVariants.{Wide, Rows, Pieces, Memory}
use Rattle.lhg_whole.specs.Content.{content, canon_whole}

-- the least common multiple
abbrev pub lcm : ℕ → ℕ → ℕ
lcm a b = (a / gcd a b) * b

-- the least common multiple of a number and the denominators of a row
abbrev pub multiple_from : ℕ → List Number → ℕ
multiple_from m [] = m
multiple_from m (x ∷ xs) = multiple_from (lcm m x.bottom) xs

-- the least common multiple of the denominators
abbrev pub common_multiple : List Number → ℕ
common_multiple row = multiple_from 1 row

-- on the way to it, denominator by denominator, some least common multiple is past the limit
abbrev pub passes_from : ℕ → List Number → Bool
passes_from m [] = false
passes_from m (x ∷ xs) = is_past (pos (lcm m x.bottom)) || passes_from (lcm m x.bottom) xs

-- some entry times the number is past the limit
abbrev pub passes_times : ℕ → List Number → Bool
passes_times m row = any_of (λ x. is_past (mul (whole (pos m)) x).top) row

-- a running least common multiple of the denominators, or an entry times the last of them, is past the limit
abbrev pub lift_refuses : List Number → Bool
lift_refuses row = passes_from 1 row || passes_times (common_multiple row) row

-- the positive multiple of the row whose entries are whole and coprime; a row of zeros stays
abbrev pub lifted : List Number → List Number
lifted row = canon_whole (map (λ x. mul (whole (pos (common_multiple row))) x) row)

-- no number but 1 divides all entries of the row, or all are 0
abbrev pub IsCoprime : List Number → Type 0
IsCoprime row = content row ≤ 1

-- a call that halts for numbers exactly where the test says so, and else for want of memory alone
abbrev pub IsExactOrMemory : {T : Type 0} → Result T Halt → Bool → (T → Type 0) → Type 0
IsExactOrMemory (Ok x) refused P = (refused ≡ false) × P x
IsExactOrMemory (Err Wide) refused P = refused ≡ true
IsExactOrMemory (Err Rows) refused P = ⊥
IsExactOrMemory (Err Pieces) refused P = ⊥
IsExactOrMemory (Err Memory) refused P = Unit {0}
