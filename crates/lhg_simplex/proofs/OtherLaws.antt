-- What do the other rows of a list and the opposite of one row say of it?
use Rattle.std.specs.Prelude.{◌≡◌, ◌⊎◌, ℕ, zero, suc, ◌+◌, ◌-◌, ◌<◌, Bool, true, false, not, List, [], ◌∷◌, ◌++◌, length, take, drop, get_or, remove, Result, Ok, Err, IfOk}
use Rattle.std.proofs.Common.{sym, ap, ◌∙◌, subst, arith, inl, inr}
use Rattle.std.proofs.lemmas.Bool.{cases_order}
use Rattle.std.specs.List.{between}
use Rattle.std.proofs.lemmas.List.{length-map, length-drop, take_all, get_or_default}
use Rattle.lhg_math.specs.Number.{neg}
use Rattle.lhg_math.specs.Tests.{AllOf, every_from_all, all_from_every}
use Rattle.lhg_row.specs.Row.{PlainRow, PlainPoint, holds_at, Holds}
use Rattle.lhg_row.specs.Piece.{PlainPiece, InPiece, in_piece}
use Rattle.lhg_row.specs.Members.{all-append, all_split, all-remove}
use Rattle.lhg_row.specs.Moves.{negated}
use Rattle.lhg_row.specs.MoveLaws.{negated-holds}
use Rattle.lhg_row.specs.Width.{AllWide}
use Rattle.lhg_row.specs.HasValue.{IsEmptiness}
use Rattle.lhg_row.specs.Constant.{never}
use Rattle.lhg_row.specs.Eliminate.{row_at}
use Rattle.lhg_simplex.specs.Others.{others, IsFrom, AreFrom}

-- ---- members
all_at : {A : Type 0} (P : A → Type 0) (xs : List A) (j : ℕ) (d : A) → j < length xs → AllOf P xs → P (get_or xs j d)
all_at P xs j d h k = (all-remove P xs j d h k).0

at_take : {A : Type 0} (P : A → Type 0) (xs : List A) (i j : ℕ) (d : A) → j < i → j < length xs → AllOf P (take i xs) → P (get_or xs j d)
at_take P [] i j d l h k = absurd (omega arith)
at_take P (x ∷ xs) zero j d l h k = absurd (omega arith)
at_take P (x ∷ xs) (suc i) zero d l h k = k.0
at_take P (x ∷ xs) (suc i) (suc j) d l h k = at_take P xs i j d (omega arith) (omega arith) k.1

at_drop : {A : Type 0} (P : A → Type 0) (xs : List A) (i j : ℕ) (d : A) → i < j → j < length xs → AllOf P (drop (suc i) xs) → P (get_or xs j d)
at_drop P [] i j d l h k = absurd (omega arith)
at_drop P (x ∷ xs) i zero d l h k = absurd (omega arith)
at_drop P (x ∷ xs) zero (suc j) d l h k = all_at P xs j d (omega arith) k
at_drop P (x ∷ xs) (suc i) (suc j) d l h k = at_drop P xs i j d (omega arith) (omega arith) k

-- the row that stands at a place
pub here-is : (rows : PlainPiece) (i : ℕ) (r : PlainRow) → r ≡ get_or rows i r → i < length rows → r ≡ row_at rows i
here-is rows i r e h = e ∙ get_or_default rows i r (never 0) h

-- ---- one row and the others
module _ (n : ℕ) (rows : PlainPiece) (i : ℕ) (w : AllWide n rows) (there : i < length rows) where
  abbrev asked : PlainRow
  asked = row_at rows i

  -- the opposite holds wherever the others and it do
  pub opposite-from : IsFrom n (others rows i) (negated asked)
  opposite-from = record {
    wide = length-map asked.coefs neg ∙ all_at (λ r. length r.coefs ≡ n) rows i (never 0) there w;
    holds = λ x h. (all_split (λ r. holds_at r x ≡ true) (remove rows i) (negated asked ∷ []) h).1.0;
  }

  other_holds : (j : ℕ) → ¬ (j ≡ i) → j < length rows → (x : PlainPoint) → InPiece (others rows i) x → Holds (row_at rows j) x
  other_holds j other h x k = on (cases_order j i)
    where
      P : PlainRow → Type 0
      P r = holds_at r x ≡ true

      s : AllOf P (take i rows) × AllOf P (drop (suc i) rows)
      s = all_split P (take i rows) (drop (suc i) rows) (all_split P (remove rows i) (negated asked ∷ []) k).0

      on : (j ≡ i) ⊎ ((j < i) ⊎ (i < j)) → Holds (row_at rows j) x
      on (inl e) = absurd (other e)
      on (inr (inl l)) = at_take P rows i j (never 0) l h s.0
      on (inr (inr l)) = at_drop P rows i j (never 0) l h s.1

  -- and so does each other row
  pub other-from : (j : ℕ) → ¬ (j ≡ i) → j < length rows → IsFrom n (others rows i) (row_at rows j)
  other-from j other h = record { wide = all_at (λ r. length r.coefs ≡ n) rows j (never 0) h w; holds = other_holds j other h }

-- a point at which the others hold and the row does not
outside-is : (rows : PlainPiece) (i : ℕ) (x : PlainPoint) → holds_at (row_at rows i) x ≡ false → in_piece (take i rows) x ≡ true → in_piece (drop (suc i) rows) x ≡ true → in_piece (others rows i) x ≡ true
outside-is rows i x f h k =
    let P = λ (r : PlainRow). holds_at r x ≡ true in
    let fails : holds_at (negated (row_at rows i)) x ≡ true = negated-holds (row_at rows i) x ∙ ap not f in
    let both = all-append P (take i rows) (drop (suc i) rows) (every_from_all (λ r. holds_at r x) (take i rows) h) (every_from_all (λ r. holds_at r x) (drop (suc i) rows) k) in
    all_from_every (λ r. holds_at r x) (others rows i) (all-append P (remove rows i) (negated (row_at rows i) ∷ []) both (fails, tt))

-- and what is answered of it
pub outside-told : {E : Type 0} (rows : PlainPiece) (i : ℕ) (x : PlainPoint) → holds_at (row_at rows i) x ≡ false → in_piece (take i rows) x ≡ true
    → (r : Result Bool E) → IfOk r (λ b. b ≡ in_piece (between (i + 1) (length rows) rows) x) → IfOk r (λ b. b ≡ true → in_piece (others rows i) x ≡ true)
outside-told rows i x f h (Err e) k = tt
outside-told rows i x f h (Ok b) k =
    let d = length-drop (i + 1) rows in
    let all : between (i + 1) (length rows) rows ≡ drop (i + 1) rows = take_all (length rows - (i + 1)) (drop (i + 1) rows) (omega arith) in
    let si : i + 1 ≡ suc i = omega arith in
    λ e. outside-is rows i x f h (ap (λ rs. in_piece rs x) (sym (all ∙ ap (λ n. drop n rows) si)) ∙ sym k ∙ e)

-- ---- rows that hold wherever others do
-- they are as wide
pub from-wide : (n : ℕ) (rows few : PlainPiece) → AreFrom n rows few → AllWide n few
from-wide n rows [] h = tt
from-wide n rows (r ∷ few) h = (h.0.wide, from-wide n rows few h.1)

all_hold_from : (n : ℕ) (rows few : PlainPiece) (x : PlainPoint) → AreFrom n rows few → InPiece rows x → InPiece few x
all_hold_from n rows [] x h i = tt
all_hold_from n rows (r ∷ few) x h i = (h.0.holds x i, all_hold_from n rows few x h.1 i)

-- and where they have no point, the others have none
pub from-empty : (n : ℕ) (rows few : PlainPiece) → AreFrom n rows few → IsEmptiness n few true → IsEmptiness n rows true
from-empty n rows few h e = λ x l i. e x l (all_hold_from n rows few x h i)

-- one row more
pub from-push : (n : ℕ) (rows few : PlainPiece) (r : PlainRow) (more : PlainPiece) → AreFrom n rows few → IsFrom n rows r → more ≡ few ++ r ∷ [] → AreFrom n rows more
from-push n rows few r more h k e = subst (AreFrom n rows) (sym e) (all-append (IsFrom n rows) few (r ∷ []) h (k, tt))
