-- What is the combination of two rows in which a variable cancels?
use Rattle.std.specs.Prelude.{ℕ, ◌||◌, List, [], ◌∷◌}
use Rattle.lhg_math.specs.Number.{Number}
use Rattle.lhg_math.specs.Signs.{size_of}
use Rattle.lhg_num.specs.Arithmetic.{Arithmetic}
use Rattle.lhg_num.specs.Marked.{Marked, done, and_then, valued, marked_add, marked_mul}
use Rattle.lhg_row.specs.Row.{PlainRow}
use Rattle.lhg_row.specs.Column.{coef_at}

-- f * c + g * d, by two products and a sum
abbrev pub entry : Arithmetic → Number → Number → Number → Number → Marked Number
entry a f g c d = and_then (marked_mul a f c) (λ x. and_then (marked_mul a g d) (λ y. marked_add a x y))

-- the same of each two entries of two lists
abbrev pub entries : Arithmetic → Number → Number → List Number → List Number → Marked (List Number)
entries a f g [] ds = done []
entries a f g (c ∷ cs) [] = done []
entries a f g (c ∷ cs) (d ∷ ds) = and_then (entry a f g c d) (λ x. valued (λ xs. x ∷ xs) (entries a f g cs ds))

-- the size of the coefficient of variable k
abbrev pub coef_size : ℕ → PlainRow → Number
coef_size k r = size_of (coef_at k r)

-- |s_k| * r + |r_k| * s, strict where either is
abbrev pub comb : Arithmetic → PlainRow → PlainRow → ℕ → Marked PlainRow
comb a r s k =
    let f = coef_size k s in
    let g = coef_size k r in
    and_then (entries a f g r.coefs s.coefs) (λ cs. valued (λ b. record { coefs = cs; strict = r.strict || s.strict; bound = b }) (entry a f g r.bound s.bound))
