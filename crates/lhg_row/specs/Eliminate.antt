-- What is a list of rows without one variable, or without all later ones, and has a list a point?
use Rattle.std.specs.Prelude.{ℕ, zero, suc, ◌+◌, Bool, false, cond, not, ◌&&◌, ◌||◌, List, [], ◌∷◌, ◌++◌, map, filter, get_or, remove, Option, Some, None}
use Rattle.lhg_math.specs.Number.{neg}
use Rattle.lhg_num.specs.Arithmetic.{Arithmetic}
use Rattle.lhg_num.specs.Marked.{Marked, done, and_then, valued, each}
use Rattle.lhg_row.specs.Row.{PlainRow}
use Rattle.lhg_row.specs.Piece.{PlainPiece}
use Rattle.lhg_row.specs.Column.{upper_at, lower_at, level_at, drop_column}
use Rattle.lhg_row.specs.Constant.{never, is_nothing}
use Rattle.lhg_row.specs.Combine.{comb}
use Rattle.lhg_row.specs.Trim.{lead_size, agree_at, agree, trim}

-- ---- the pair
-- the entries of r are the negatives of those of s, after each row was multiplied by the size of the other's leading coefficient
abbrev pub is_opposite : Arithmetic → PlainRow → PlainRow → Marked Bool
is_opposite a r s =
    and_then (agree a neg (lead_size s) (lead_size r) r.coefs s.coefs) (λ b. valued (λ t. b && t) (agree_at a neg (lead_size s) (lead_size r) r.bound s.bound))

-- a weak row over variable k may be of the pair
abbrev pub is_candidate : ℕ → PlainRow → Bool
is_candidate k r = not (r.strict || level_at k r)

-- s may be of the pair, and is the negative of r
abbrev pub is_mate : Arithmetic → ℕ → PlainRow → PlainRow → Marked Bool
is_mate a k r s = cond (is_candidate k s) (is_opposite a r s) (done false)

-- the place, counted from j, of the first mate of r
abbrev pub mate_at : Arithmetic → ℕ → PlainRow → ℕ → PlainPiece → Marked (Option ℕ)
mate_at a k r j [] = done None
mate_at a k r j (s ∷ ss) =
    and_then (is_mate a k r s) (λ b.
    let later = mate_at a k r (j + 1) ss in
    cond b (done (Some j)) later)

-- the same where r may be of the pair
abbrev pub mate_of : Arithmetic → ℕ → PlainRow → ℕ → PlainPiece → Marked (Option ℕ)
mate_of a k r j rows = cond (is_candidate k r) (mate_at a k r j rows) (done None)

-- the row at place i with its mate, or else what is found later
abbrev pub or_else : ℕ → Option ℕ → Marked (Option (ℕ × ℕ)) → Marked (Option (ℕ × ℕ))
or_else i None later = later
or_else i (Some j) later = done (Some (i, j))

-- the pair: the places, counted from i, of the first two weak rows over variable k that are an equation
abbrev pub pair_at : Arithmetic → ℕ → ℕ → PlainPiece → Marked (Option (ℕ × ℕ))
pair_at a k i [] = done None
pair_at a k i (r ∷ rs) =
    and_then (mate_of a k r (i + 1) rs) (λ o.
    let later = pair_at a k (i + 1) rs in
    or_else i o later)

-- ---- combinations
-- the two rows bound variable k from one side
abbrev pub same_side : ℕ → PlainRow → PlainRow → Bool
same_side k r s = cond (upper_at k r) (upper_at k s) (not (upper_at k s))

-- the one of two rows that bounds variable k from the other side than r, where the two bound it from two sides
abbrev pub partner : ℕ → PlainRow → PlainRow → PlainRow → PlainRow
partner k one other r = cond (same_side k r one) other one

-- the row at place i, and 0 < 0 where there is none
abbrev pub row_at : PlainPiece → ℕ → PlainRow
row_at rows i = get_or rows i (never 0)

-- the rows beside those at places i < j
abbrev pub beside : PlainPiece → ℕ → ℕ → PlainPiece
beside rows i j = remove (remove rows j) i

-- the combinations of each row over variable k with one or the other
abbrev pub with_pair : Arithmetic → ℕ → PlainRow → PlainRow → PlainPiece → Marked PlainPiece
with_pair a k one other rows = each (λ r. comb a r (partner k one other r) k) (filter (λ r. not (level_at k r)) rows)

-- the combinations of u with each lower row
abbrev pub with_lowers : Arithmetic → ℕ → PlainPiece → PlainRow → Marked PlainPiece
with_lowers a k rows u = each (λ l. comb a u l k) (filter (lower_at k) rows)

-- f of each member, the lists joined in order
abbrev pub each_joined : {A B : Type 0} → (A → Marked (List B)) → List A → Marked (List B)
each_joined f [] = done []
each_joined f (x ∷ xs) = and_then (f x) (λ ys. valued (λ zs. ys ++ zs) (each_joined f xs))

-- the combinations in which variable k cancels: by the pair where there is one, else of each upper with each lower row
abbrev pub combinations : Arithmetic → ℕ → PlainPiece → Option (ℕ × ℕ) → Marked PlainPiece
combinations a k rows None = each_joined (with_lowers a k rows) (filter (upper_at k) rows)
combinations a k rows (Some p) = with_pair a k (row_at rows p.0) (row_at rows p.1) (beside rows p.0 p.1)

-- ---- eliminate
-- the rows without variable k and the combinations, over the other variables
abbrev pub without : Arithmetic → ℕ → PlainPiece → Option (ℕ × ℕ) → Marked PlainPiece
without a k rows p = valued (λ cs. map (drop_column k) (filter (level_at k) rows ++ cs)) (combinations a k rows p)

-- the list over the other variables
unfoldable pub eliminate : Arithmetic → ℕ → PlainPiece → Marked PlainPiece
eliminate a k rows =
    let rest = and_then (pair_at a k 0 rows) (λ p. and_then (without a k rows p) (trim a)) in
    cond (is_nothing rows) (done (map (drop_column k) rows)) rest

-- ---- all later variables
-- the list without the last count of its variables, the last one eliminated first
abbrev pub eliminate_last : Arithmetic → ℕ → ℕ → PlainPiece → Marked PlainPiece
eliminate_last a kept zero rows = done rows
eliminate_last a kept (suc count) rows = and_then (eliminate a (kept + count) rows) (eliminate_last a kept count)

-- whether a trimmed list over n variables has no point: without its variables it is 0 < 0
abbrev pub is_empty : Arithmetic → ℕ → PlainPiece → Marked Bool
is_empty a n rows = valued is_nothing (eliminate_last a 0 n rows)
