-- Why has the piece of a list of rows exactly the points of the list, and no row too many?
use Rattle.std.specs.Prelude.{◌≡◌, ◌⊎◌, ℕ, zero, suc, ◌<◌, ◌≤◌, Bool, true, false, ◌&&◌, length, remove, Some, None}
use Rattle.std.proofs.Common.{refl, sym, ap, ◌∙◌, arith, subst, inl, inr}
use Rattle.std.proofs.lemmas.List.Edits.{length-remove, get_or-remove_above}
use Rattle.std.proofs.Math.Nat.{eq-or-lt_of_le}
use Rattle.lhg_math.specs.Tests.{by_bool, every_from_all, all_from_every}
use Rattle.lhg_num.specs.Arithmetic.{Arithmetic, IsLawful}
use Rattle.lhg_row.specs.Row.{PlainRow, PlainPoint, holds_at}
use Rattle.lhg_row.specs.Piece.{PlainPiece, in_piece}
use Rattle.lhg_row.specs.Constant.{never}
use Rattle.lhg_row.specs.Members.{all-remove}
use Rattle.lhg_row.specs.Width.{AllWide}
use Rattle.lhg_row.specs.HasValue.{IsEmptiness}
use Rattle.lhg_row.specs.Trim.{trim, IsTrimmed}
use Rattle.lhg_row.specs.TrimLaws.{trim-holds}
use Rattle.lhg_row.specs.WidthLaws.{trim-wide, trim-tidy}
use Rattle.lhg_row.specs.TrimmedLaws.{trim-trimmed, remove-trimmed}
use Rattle.lhg_row.specs.Eliminate.{row_at, is_empty}
use Rattle.lhg_row.specs.EmptyLaws.{is_empty-exact}
use Rattle.lhg_row.specs.Pieces.{are_empty, entails, thin_at, thin, made, make}
use Rattle.lhg_row.specs.PieceFacts.{HasCounter, IsEntailment, IsMade}
use Rattle.lhg_row.specs.EntailLaws.{entails-exact}
use Rattle.lhg_row.specs.RemoveLaws.{in_piece-remove, remove-wide, remove-remove}

-- ---- thin
-- a list with the points of another, of its width, and trimmed where it is
pub record IsThinned (a : Arithmetic) (n : ℕ) (rows thinned : PlainPiece) : Type 0 where
  pub points : (x : PlainPoint) → length x ≡ n → in_piece thinned x ≡ in_piece rows x
  pub wide : AllWide n thinned
  pub trimmed : IsTrimmed a rows → IsTrimmed a thinned

all_kept : (a : Arithmetic) (n : ℕ) (rows : PlainPiece) → AllWide n rows → IsThinned a n rows rows
all_kept a n rows w = record { points = λ x e. refl; wide = w; trimmed = λ t. t }

both_thinned : (a : Arithmetic) (n : ℕ) (rows middle thinned : PlainPiece) → IsThinned a n rows middle → IsThinned a n middle thinned → IsThinned a n rows thinned
both_thinned a n rows middle thinned s t = record { points = λ x e. t.points x e ∙ s.points x e; wide = t.wide; trimmed = λ k. t.trimmed (s.trimmed k) }

first_follows : (a b : Bool) → (b ≡ true → a ≡ true) → (a && b) ≡ b
first_follows a true f = ap (λ x. x && true) (f refl)
first_follows true false f = refl
first_follows false false f = refl

-- a row that the others entail is dropped, and else none
pub thin_at-is : (a : Arithmetic) (n i : ℕ) (rows : PlainPiece) → IsLawful a → i < length rows → AllWide n rows → IsThinned a n rows (thin_at a n i rows).value
thin_at-is a n i rows laws h w =
    let r = row_at rows i in
    let rest = remove rows i in
    let others = remove-wide n i rows h w in
    let x = entails-exact a n rest r laws others.1 others.0 in
    by_bool (entails a n rest r).value
    (λ e.
    let y : IsEntailment n rest r true = subst (IsEntailment n rest r) e x in
    let follows : (p : PlainPoint) → length p ≡ n → in_piece rest p ≡ true → holds_at r p ≡ true = λ p l k. y p l (every_from_all (λ q. holds_at q p) rest k) in
    rw e (record {
      points = λ p l. sym (in_piece-remove i rows p h ∙ first_follows (holds_at r p) (in_piece rest p) (follows p l));
      wide = others.1;
      trimmed = remove-trimmed a rows i laws h;
    }))
    (λ e. rw e (all_kept a n rows w))

-- a list that lost one row at most has more rows than a place before it
pub thin_at-length : (a : Arithmetic) (n i : ℕ) (rows : PlainPiece) → i < length rows → i ≤ length (thin_at a n i rows).value
thin_at-length a n i rows h =
    by_bool (entails a n (remove rows i) (row_at rows i)).value (λ e. rw e (let k = length-remove rows i h in omega arith)) (λ e. rw e (omega arith))

-- what thin leaves has the points of the list
pub thin-is : (a : Arithmetic) (n i : ℕ) (rows : PlainPiece) → IsLawful a → i ≤ length rows → AllWide n rows → IsThinned a n rows (thin a n i rows).value
thin-is a n zero rows laws h w = all_kept a n rows w
thin-is a n (suc i) rows laws h w =
    let rest = (thin_at a n i rows).value in
    let s = thin_at-is a n i rows laws (omega arith) w in
    both_thinned a n rows rest (thin a n i rest).value s (thin-is a n i rest laws (thin_at-length a n i rows (omega arith)) s.wide)

-- ---- no row too many
-- each row from place i on fails at some point of the others
abbrev IsNeededFrom : ℕ → ℕ → PlainPiece → Type 0
IsNeededFrom n i rows = (j : ℕ) → i ≤ j → j < length rows → HasCounter n (remove rows j) (row_at rows j)

-- with fewer others a row fails at a point of theirs all the more
fewer : (n i : ℕ) (rows : PlainPiece) (r : PlainRow) → i < length rows → HasCounter n rows r → HasCounter n (remove rows i) r
fewer n i rows r h c = record { point = c.point; wide = c.wide; inside = (all-remove (λ q. holds_at q c.point ≡ true) rows i (never 0) h c.inside).1; fails = c.fails }

-- a row that is asked for is dropped, or it is needed; and later rows stay needed
thin_at-needed : (a : Arithmetic) (n i : ℕ) (rows : PlainPiece) → IsLawful a → i < length rows → AllWide n rows → IsNeededFrom n (suc i) rows → IsNeededFrom n i (thin_at a n i rows).value
thin_at-needed a n i rows laws h w f =
    let r = row_at rows i in
    let rest = remove rows i in
    let others = remove-wide n i rows h w in
    let long = length-remove rows i h in
    let x = entails-exact a n rest r laws others.1 others.0 in
    by_bool (entails a n rest r).value
    (λ e. rw e (λ j l k.
    let next : suc j < length rows = omega arith in
    let after = length-remove rows (suc j) next in
    subst (λ rs. HasCounter n rs (row_at rest j)) (sym (remove-remove i j rows l next))
    (subst (HasCounter n (remove (remove rows (suc j)) i)) (sym (get_or-remove_above rows i (never 0) j l h ∙ ap (row_at rows) (omega arith)))
    (fewer n i (remove rows (suc j)) (row_at rows (suc j)) (omega arith) (f (suc j) (omega arith) next)))))
    (λ e. rw e (λ j l k. at_or_after j k (subst (IsEntailment n rest r) e x) (eq-or-lt_of_le l)))
  where
    at_or_after : (j : ℕ) → j < length rows → HasCounter n (remove rows i) (row_at rows i) → (i ≡ j) ⊎ (i < j) → HasCounter n (remove rows j) (row_at rows j)
    at_or_after j k c (inl e) = subst (λ m. HasCounter n (remove rows m) (row_at rows m)) e c
    at_or_after j k c (inr l) = f j (omega arith) k

-- what thin leaves has no row too many
thin-needed : (a : Arithmetic) (n i : ℕ) (rows : PlainPiece) → IsLawful a → i ≤ length rows → AllWide n rows → IsNeededFrom n i rows → IsNeededFrom n 0 (thin a n i rows).value
thin-needed a n zero rows laws h w f = f
thin-needed a n (suc i) rows laws h w f =
    thin-needed a n i (thin_at a n i rows).value laws (thin_at-length a n i rows (omega arith)) (thin_at-is a n i rows laws (omega arith) w).wide (thin_at-needed a n i rows laws (omega arith) w f)

-- ---- make
-- make is exact
pub make-exact : (a : Arithmetic) (n : ℕ) (rows : PlainPiece) → IsLawful a → AllWide n rows → IsMade a n rows (make a n rows).value
unfolding make
make-exact a n rows laws w =
    let rs = (trim a rows).value in
    go (is_empty a n rs).value (is_empty-exact a n rs laws (trim-wide a n rows laws w) (trim-tidy a rows))
  where
    same : (x : PlainPoint) → in_piece (trim a rows).value x ≡ in_piece rows x
    same x = trim-holds a rows x laws

    go : (b : Bool) → IsEmptiness n (trim a rows).value b → IsMade a n rows (made a n (trim a rows).value b).value
    go true h = λ x e k. h x e (every_from_all (λ r. holds_at r x) (trim a rows).value (same x ∙ all_from_every (λ r. holds_at r x) rows k))
    go false h =
        let rs = (trim a rows).value in
        let t = thin-is a n (length rs) rs laws (omega arith) (trim-wide a n rows laws w) in
        let x = h.point in
        record {
          points = λ p e. t.points p e ∙ same p;
          poly = record {
            wide = t.wide;
            trimmed = t.trimmed (trim-trimmed a rows laws);
            point = record {
              point = x;
              wide = h.wide;
              holds = every_from_all (λ r. holds_at r x) (thin a n (length rs) rs).value (t.points x h.wide ∙ all_from_every (λ r. holds_at r x) rs h.holds);
            };
            irredundant = λ i k. thin-needed a n (length rs) rs laws (omega arith) (trim-wide a n rows laws w) (λ j l m. absurd (omega arith)) i (omega arith) k;
          };
        }

-- rows without a point make no piece
pub make-empty : (a : Arithmetic) (n : ℕ) (rows : PlainPiece) → (are_empty a n rows).value ≡ true → (make a n rows).value ≡ None
unfolding make
make-empty a n rows e = ap (λ b. (made a n (trim a rows).value b).value) e

-- rows with a point make one
pub make-thin : (a : Arithmetic) (n : ℕ) (rows : PlainPiece) → (are_empty a n rows).value ≡ false
    → (make a n rows).value ≡ Some (thin a n (length (trim a rows).value) (trim a rows).value).value
unfolding make
make-thin a n rows e = ap (λ b. (made a n (trim a rows).value b).value) e
