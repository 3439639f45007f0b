-- What is found as a pair, and what are the rows beside it?
use Rattle.std.specs.Prelude.{◌≡◌, ℕ, suc, ◌+◌, ◌<◌, true, false, ◌||◌, ◌&&◌, [], ◌∷◌, length, filter, remove, Option, Some, None}
use Rattle.std.proofs.Common.{sym, ap, ◌∙◌, arith, subst}
use Rattle.std.proofs.lemmas.Bool.{or_parts, not-true}
use Rattle.std.proofs.lemmas.List.Edits.{get_or-remove_below, length-remove}
use Rattle.lhg_math.specs.Tests.{by_bool, false_true}
use Rattle.lhg_num.specs.Arithmetic.{Arithmetic}
use Rattle.lhg_num.specs.Marked.{Marked}
use Rattle.lhg_row.specs.Conjunctions.{and_left_comm}
use Rattle.lhg_row.specs.Row.{PlainRow, PlainPoint, holds_at}
use Rattle.lhg_row.specs.Piece.{PlainPiece, in_piece}
use Rattle.lhg_row.specs.Column.{level_at}
use Rattle.lhg_row.specs.Constant.{never}
use Rattle.lhg_row.specs.Width.{AllWide}
use Rattle.lhg_row.specs.RemoveLaws.{in_piece-remove, remove-wide, filter-remove}
use Rattle.lhg_row.specs.Eliminate.{is_opposite, is_candidate, is_mate, mate_at, or_else, pair_at, row_at, beside}

-- ---- the mate of a row
-- a row that may be of the pair is weak and has the variable
candidate-is : (k : ℕ) (r : PlainRow) → is_candidate k r ≡ true → (r.strict ≡ false) × (level_at k r ≡ false)
candidate-is k r h = or_parts r.strict (level_at k r) (not-true (r.strict || level_at k r) h)

-- what is found as a mate
record IsMate (a : Arithmetic) (k : ℕ) (r : PlainRow) (rows : PlainPiece) (i : ℕ) : Type 0 where
  in_list : i < length rows
  opposite : (is_opposite a r (row_at rows i)).value ≡ true
  weak : (row_at rows i).strict ≡ false
  there : level_at k (row_at rows i) ≡ false

-- the same of a mate that may be there, its place being counted from j
abbrev HasMate : Arithmetic → ℕ → PlainRow → ℕ → PlainPiece → Option ℕ → Type 0
HasMate a k r j rows None = Unit {0}
HasMate a k r j rows (Some m) = (i : ℕ) × (m ≡ j + i) × IsMate a k r rows i

-- a mate among the later rows is one among all
later-mate : (a : Arithmetic) (k : ℕ) (r : PlainRow) (j : ℕ) (s : PlainRow) (rows : PlainPiece) (o : Option ℕ) → HasMate a k r (j + 1) rows o → HasMate a k r j (s ∷ rows) o
later-mate a k r j s rows None h = tt
later-mate a k r j s rows (Some m) (i, e, h) = (suc i, omega arith, record { in_list = let l = h.in_list in omega arith; opposite = h.opposite; weak = h.weak; there = h.there })

-- a first row that is a mate is found at once
first-mate : (a : Arithmetic) (k : ℕ) (r : PlainRow) (j : ℕ) (s : PlainRow) (rows : PlainPiece) → (is_mate a k r s).value ≡ true → HasMate a k r j (s ∷ rows) (Some j)
first-mate a k r j s rows h =
    by_bool (is_candidate k s)
    (λ e. let o : (is_opposite a r s).value ≡ true = rw e at h in let c = candidate-is k s e in
    (0, omega arith, record { in_list = omega arith; opposite = o; weak = c.0; there = c.1 }))
    (λ e. let z : false ≡ true = rw e at h in false_true z)

-- what the search for a mate answers is one
mate_at-is : (a : Arithmetic) (k : ℕ) (r : PlainRow) (j : ℕ) (rows : PlainPiece) → HasMate a k r j rows (mate_at a k r j rows).value
mate_at-is a k r j [] = tt
mate_at-is a k r j (s ∷ ss) =
    by_bool (is_mate a k r s).value
    (λ e. rw e (first-mate a k r j s ss e))
    (λ e. rw e (later-mate a k r j s ss (mate_at a k r (j + 1) ss).value (mate_at-is a k r (j + 1) ss)))

-- ---- the pair
-- two weak rows over the variable that are opposite, at two places of the list
pub record IsPair (a : Arithmetic) (k : ℕ) (rows : PlainPiece) (i j : ℕ) : Type 0 where
  pub in_order : i < j
  pub in_list : j < length rows
  pub opposite : (is_opposite a (row_at rows i) (row_at rows j)).value ≡ true
  pub weak_one : (row_at rows i).strict ≡ false
  pub weak_other : (row_at rows j).strict ≡ false
  pub there_one : level_at k (row_at rows i) ≡ false
  pub there_other : level_at k (row_at rows j) ≡ false

-- the same of a pair that may be there, its places being counted from n
abbrev IsFound : Arithmetic → ℕ → ℕ → PlainPiece → Option (ℕ × ℕ) → Type 0
IsFound a k n rows None = Unit {0}
IsFound a k n rows (Some p) = (i : ℕ) × (j : ℕ) × (p.0 ≡ n + i) × (p.1 ≡ n + j) × IsPair a k rows i j

-- a pair among the later rows is one among all
later-pair : (a : Arithmetic) (k n : ℕ) (r : PlainRow) (rows : PlainPiece) (o : Option (ℕ × ℕ)) → IsFound a k (n + 1) rows o → IsFound a k n (r ∷ rows) o
later-pair a k n r rows None h = tt
later-pair a k n r rows (Some p) (i, j, e, f, h) = (
  suc i,
  suc j,
  omega arith,
  omega arith,
  record {
    in_order = let o = h.in_order in omega arith;
    in_list = let l = h.in_list in omega arith;
    opposite = h.opposite;
    weak_one = h.weak_one;
    weak_other = h.weak_other;
    there_one = h.there_one;
    there_other = h.there_other;
  },
)

-- a row that may be of the pair, with its mate, is a pair; or else one comes later
or_else-is : (a : Arithmetic) (k n : ℕ) (r : PlainRow) (rows : PlainPiece) (o : Option ℕ) (later : Marked (Option (ℕ × ℕ))) → is_candidate k r ≡ true → HasMate a k r (n + 1) rows o
    → IsFound a k n (r ∷ rows) later.value → IsFound a k n (r ∷ rows) (or_else n o later).value
or_else-is a k n r rows None later c m h = h
or_else-is a k n r rows (Some j) later c (i, e, m) h =
    let d = candidate-is k r c in (
      0,
      suc i,
      omega arith,
      omega arith,
      record {
        in_order = omega arith;
        in_list = let l = m.in_list in omega arith;
        opposite = m.opposite;
        weak_one = d.0;
        weak_other = m.weak;
        there_one = d.1;
        there_other = m.there;
      },
    )

-- what the search for the pair answers is one
found : (a : Arithmetic) (k n : ℕ) (rows : PlainPiece) → IsFound a k n rows (pair_at a k n rows).value
found a k n [] = tt
found a k n (r ∷ rs) =
    let later = later-pair a k n r rs (pair_at a k (n + 1) rs).value (found a k (n + 1) rs) in
    by_bool (is_candidate k r)
    (λ e. rw e (or_else-is a k n r rs (mate_at a k r (n + 1) rs).value (pair_at a k (n + 1) rs) e (mate_at-is a k r (n + 1) rs) later))
    (λ e. rw e later)

-- what may be there is a pair
abbrev pub HasPair : Arithmetic → ℕ → PlainPiece → Option (ℕ × ℕ) → Type 0
HasPair a k rows None = Unit {0}
HasPair a k rows (Some p) = IsPair a k rows p.0 p.1

-- what the search finds is a pair
pub pair_at-is : (a : Arithmetic) (k : ℕ) (rows : PlainPiece) → HasPair a k rows (pair_at a k 0 rows).value
pair_at-is a k rows = counted_from_0 (pair_at a k 0 rows).value (found a k 0 rows)
  where
    counted_from_0 : (o : Option (ℕ × ℕ)) → IsFound a k 0 rows o → HasPair a k rows o
    counted_from_0 None h = tt
    counted_from_0 (Some p) (i, j, e, f, h) =
        let x : i ≡ p.0 = omega arith in
        let y : j ≡ p.1 = omega arith in
        subst (λ m. IsPair a k rows p.0 m) y (subst (λ m. IsPair a k rows m j) x h)

-- ---- the rows beside a pair
module _ (a : Arithmetic) (k : ℕ) (rows : PlainPiece) (i j : ℕ) (h : IsPair a k rows i j) where
  -- the earlier of the two stays at its place when the later is gone
  one_is : row_at (remove rows j) i ≡ row_at rows i
  one_is = get_or-remove_below rows j (never 0) i h.in_order h.in_list

  -- and is still in the list
  one_there : i < length (remove rows j)
  one_there = let l = length-remove rows j h.in_list in let o = h.in_order in let p = h.in_list in omega arith

  -- the list holds where the two rows of the pair and the others do
  pub in_piece-beside : (x : PlainPoint) → in_piece rows x ≡ (holds_at (row_at rows i) x && (holds_at (row_at rows j) x && in_piece (beside rows i j) x))
  in_piece-beside x =
      in_piece-remove j rows x h.in_list ∙ ap (λ b. holds_at (row_at rows j) x && b) (in_piece-remove i (remove rows j) x one_there ∙ ap (λ (r : PlainRow). holds_at r x && in_piece (beside rows i j) x) one_is)
      ∙ and_left_comm (holds_at (row_at rows j) x) (holds_at (row_at rows i) x) (in_piece (beside rows i j) x)

  -- no row without the variable is of the pair
  pub levels-beside : filter (level_at k) rows ≡ filter (level_at k) (beside rows i j)
  levels-beside = filter-remove (level_at k) j rows h.in_list h.there_other ∙ filter-remove (level_at k) i (remove rows j) one_there (ap (level_at k) one_is ∙ h.there_one)

  -- all have one width
  pub beside-wide : (n : ℕ) → AllWide n rows → (length (row_at rows i).coefs ≡ n) × (length (row_at rows j).coefs ≡ n) × AllWide n (beside rows i j)
  beside-wide n w =
      let v = remove-wide n j rows h.in_list w in
      let u = remove-wide n i (remove rows j) one_there v.1 in
      (ap (λ (r : PlainRow). length r.coefs) (sym one_is) ∙ u.0, v.0, u.1)
