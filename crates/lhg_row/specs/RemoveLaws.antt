-- What has a list without one of its rows?
use Rattle.std.specs.Prelude.{◌≡◌, ℕ, zero, suc, ◌<◌, ◌≤◌, Bool, false, cond, ◌&&◌, [], ◌∷◌, length, filter, remove, List}
use Rattle.std.proofs.Common.{refl, ap, ◌∙◌, arith}
use Rattle.lhg_row.specs.Conjunctions.{and_left_comm}
use Rattle.lhg_row.specs.Row.{PlainRow, PlainPoint, holds_at}
use Rattle.lhg_row.specs.Piece.{PlainPiece, in_piece}
use Rattle.lhg_row.specs.Constant.{never}
use Rattle.lhg_row.specs.Members.{all-remove}
use Rattle.lhg_row.specs.Width.{AllWide}
use Rattle.lhg_row.specs.Eliminate.{row_at}

-- a list holds where one of its rows and the others do
pub in_piece-remove : (i : ℕ) (rows : PlainPiece) (x : PlainPoint) → i < length rows → in_piece rows x ≡ (holds_at (row_at rows i) x && in_piece (remove rows i) x)
in_piece-remove i [] x h = absurd (omega arith)
in_piece-remove zero (r ∷ rows) x h = refl
in_piece-remove (suc i) (r ∷ rows) x h = ap (λ b. holds_at r x && b) (in_piece-remove i rows x (omega arith)) ∙ and_left_comm (holds_at r x) (holds_at (row_at rows i) x) (in_piece (remove rows i) x)

-- the others have the width of the list, and so has the one
pub remove-wide : (n i : ℕ) (rows : PlainPiece) → i < length rows → AllWide n rows → (length (row_at rows i).coefs ≡ n) × AllWide n (remove rows i)
remove-wide n i rows h w = all-remove (λ r. length r.coefs ≡ n) rows i (never 0) h w

-- a filter does not see a row that fails its test
pub filter-remove : (p : PlainRow → Bool) (i : ℕ) (rows : PlainPiece) → i < length rows → p (row_at rows i) ≡ false → filter p rows ≡ filter p (remove rows i)
filter-remove p i [] h e = absurd (omega arith)
filter-remove p zero (r ∷ rows) h e = rw e refl
filter-remove p (suc i) (r ∷ rows) h e = ap (λ rs. cond (p r) (r ∷ rs) rs) (filter-remove p i rows (omega arith) e)

-- two members are taken out in either order
pub remove-remove : {A : Type 0} (i j : ℕ) (xs : List A) → i ≤ j → suc j < length xs → remove (remove xs i) j ≡ remove (remove xs (suc j)) i
remove-remove i j [] l h = absurd (omega arith)
remove-remove zero j (x ∷ xs) l h = refl
remove-remove (suc i) zero (x ∷ xs) l h = absurd (omega arith)
remove-remove (suc i) (suc j) (x ∷ xs) l h = ap (λ ys. x ∷ ys) (remove-remove i j xs (omega arith) (omega arith))
