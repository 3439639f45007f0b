-- Why does the one row 0 < 0 stay without being asked for?
use Rattle.std.specs.Prelude.{◌≡◌, ℕ, zero, suc, ◌<◌, true, [], ◌∷◌, map, replicate, get_or, None}
use Rattle.std.proofs.Common.{refl, sym, ap, ◌∙◌}
use Rattle.std.proofs.lemmas.List.{length-replicate}
use Rattle.lhg_math.specs.Number.{nought}
use Rattle.lhg_math.specs.NumberOrder.{lt_irrefl}
use Rattle.lhg_math.specs.Tests.{by_bool, false_true}
use Rattle.lhg_num.specs.Arithmetic.{Arithmetic}
use Rattle.lhg_num.specs.Marked.{Marked, done, and_then, valued}
use Rattle.lhg_row.specs.Row.{PlainRow}
use Rattle.lhg_row.specs.Piece.{PlainPiece}
use Rattle.lhg_row.specs.Column.{drop_column}
use Rattle.lhg_row.specs.Constant.{never, is_nothing}
use Rattle.lhg_row.specs.ConstantLaws.{noughts-lead, is_never-is, never-dropped}
use Rattle.lhg_row.specs.Width.{AllWide}
use Rattle.lhg_row.specs.Trim.{counted, canon, settled, trim}
use Rattle.lhg_row.specs.Eliminate.{pair_at, without, eliminate}

-- 0 < 0 is not scaled
canon-never : (a : Arithmetic) (m : ℕ) → canon a (never m) ≡ done (never m)
canon-never a m = rw (noughts-lead m) refl

-- and is settled
settled-never : (a : Arithmetic) (m : ℕ) → settled a (never m ∷ []) ≡ done (never m ∷ [])
settled-never a m =
    let is = ap (λ n. done (never n ∷ [])) (length-replicate m nought) in
    rw (noughts-lead m, lt_irrefl nought) is

-- trim leaves 0 < 0 as it is
pub trim-never : (a : Arithmetic) (m : ℕ) → trim a (never m ∷ []) ≡ done (never m ∷ [])
unfolding trim
trim-never a m =
    let rest = λ (c : Marked PlainRow) (s : PlainPiece → Marked PlainPiece). and_then (counted (never m ∷ [])) (λ rs. and_then (and_then c (λ y. valued (λ ys. y ∷ ys) (done []))) s) in
    ap (λ c. rest c (settled a)) (canon-never a m) ∙ settled-never a m

-- each of many zeros is 0
pub noughts-get_or : (n k : ℕ) → get_or (replicate n nought) k nought ≡ nought
noughts-get_or zero k = refl
noughts-get_or (suc n) zero = refl
noughts-get_or (suc n) (suc k) = noughts-get_or n k

-- without a variable 0 < 0 is 0 < 0
without-never : (a : Arithmetic) (k n : ℕ) → without a k (never n ∷ []) None ≡ done (drop_column k (never n) ∷ [])
without-never a k n = rw (noughts-get_or n k, lt_irrefl nought) refl

-- all that eliminate does beside its first step
abbrev pub eliminated : Arithmetic → ℕ → PlainPiece → Marked PlainPiece
eliminated a k rows = and_then (pair_at a k 0 rows) (λ p. and_then (without a k rows p) (trim a))

-- where the list is 0 < 0, the steps give it without the column
eliminated-nothing : (a : Arithmetic) (k m : ℕ) (rows : PlainPiece) → k < suc m → AllWide (suc m) rows → is_nothing rows ≡ true
    → done (map (drop_column k) rows) ≡ eliminated a k rows
eliminated-nothing a k m [] h w e = false_true e
eliminated-nothing a k m (r ∷ []) h w e =
    let is : r ≡ never (suc m) = is_never-is r e ∙ ap never w.0 in
    let d : drop_column k (never (suc m)) ≡ never m = never-dropped k m h in
    let on : and_then (without a k (never (suc m) ∷ []) None) (trim a) ≡ done (never m ∷ []) =
    ap (λ (w : Marked PlainPiece). and_then w (trim a)) (without-never a k (suc m) ∙ ap (λ q. done (q ∷ [])) d) ∙ trim-never a m in
    ap (λ q. done (drop_column k q ∷ [])) is ∙ ap (λ q. done (q ∷ [])) d ∙ sym on ∙ ap (λ q. eliminated a k (q ∷ [])) (sym is)
eliminated-nothing a k m (r ∷ s ∷ rows) h w e = false_true e

-- the first step of eliminate gives what the others would give
pub eliminate-eliminated : (a : Arithmetic) (k m : ℕ) (rows : PlainPiece) → k < suc m → AllWide (suc m) rows → eliminate a k rows ≡ eliminated a k rows
unfolding eliminate
eliminate-eliminated a k m rows h w = by_bool (is_nothing rows) (λ e. rw e (eliminated-nothing a k m rows h w e)) (λ e. rw e refl)
