-- Where does elimination have a list past its limit?
use Rattle.std.specs.Prelude.{◌≡◌, ℕ, zero, suc, ◌+◌, false, not, cond, ◌||◌, nat_lt, List, [], ◌∷◌, length, filter, Option, Some, None}
use Rattle.std.proofs.Common.{refl, sym, ap, ◌∙◌}
use Rattle.std.proofs.Math.Bool.{or-false}
use Rattle.lhg_math.specs.Number.{Number, neg}
use Rattle.lhg_math.specs.Tests.{any_of, by_bool}
use Rattle.lhg_num.specs.Arithmetic.{Arithmetic, IsLawful}
use Rattle.lhg_num.specs.Marked.{Marked, each}
use Rattle.lhg_row.specs.Row.{PlainRow}
use Rattle.lhg_row.specs.Piece.{PlainPiece}
use Rattle.lhg_row.specs.Column.{upper_at, lower_at, level_at}
use Rattle.lhg_row.specs.Constant.{is_constant, is_true, is_false, is_nothing}
use Rattle.lhg_row.specs.Combine.{entries, coef_size, comb}
use Rattle.lhg_row.specs.Trim.{row_limit, lead_size, canon, agree, same_direction, placed, gathered, settled, trim}
use Rattle.lhg_row.specs.Eliminate.{is_opposite, is_candidate, is_mate, mate_at, mate_of, or_else, pair_at, partner, row_at, beside, with_lowers, each_joined, combinations, without, eliminate, eliminate_last}
use Rattle.lhg_elim.specs.Alike.{IsAlike, AllBeside, AllAlike}
use Rattle.lhg_elim.specs.AlikeEliminate.{nothing-alike, pair-alike, without-alike, eliminate-alike}

-- lists that are beside each other have one length
pub beside-length : {A B : Type 0} (R : A → B → Type 0) (xs : List A) (ys : List B) → AllBeside R xs ys → length ys ≡ length xs
beside-length R [] [] h = refl
beside-length R [] (y ∷ ys) h = absurd h
beside-length R (x ∷ xs) [] h = absurd h
beside-length R (x ∷ xs) (y ∷ ys) h = ap suc (beside-length R xs ys h.1)

module _ (a : Arithmetic) where
  -- ---- trim
  -- comparing rows forms no list of rows
  agree-rows : (made : Number → Number) (f g : Number) (cs ds : List Number) → (agree a made f g cs ds).rows ≡ false
  agree-rows made f g [] [] = refl
  agree-rows made f g [] (d ∷ ds) = refl
  agree-rows made f g (c ∷ cs) [] = refl
  agree-rows made f g (c ∷ cs) (d ∷ ds) = agree-rows made f g cs ds

  direction-rows : (r s : PlainRow) → (same_direction a r s).rows ≡ false
  direction-rows r s = agree-rows (λ y. y) (lead_size s) (lead_size r) r.coefs s.coefs

  -- a row put among others is within the list that was counted
  placed-rows : (r : PlainRow) (ss : PlainPiece) → (placed a r ss).rows ≡ false
  placed-rows r [] = refl
  placed-rows r (s ∷ ss) =
      by_bool (same_direction a r s).value
      (λ e. rw (direction-rows r s, e) refl)
      (λ e. rw (direction-rows r s, e) (placed-rows r ss))

  gathered-rows : (ks rs : PlainPiece) → (gathered a ks rs).rows ≡ false
  gathered-rows ks [] = refl
  gathered-rows ks (r ∷ rs) = ap (λ b. b || (gathered a (placed a r ks).value rs).rows) (placed-rows r ks) ∙ gathered-rows (placed a r ks).value rs

  canon-rows : (r : PlainRow) → (canon a r).rows ≡ false
  canon-rows r = by_bool (is_constant r) (λ e. rw e refl) (λ e. rw e refl)

  canons-rows : (rs : PlainPiece) → (each (canon a) rs).rows ≡ false
  canons-rows [] = refl
  canons-rows (r ∷ rs) = ap (λ b. b || (each (canon a) rs).rows) (canon-rows r) ∙ canons-rows rs

  settled-rows : (rs : PlainPiece) → (settled a rs).rows ≡ false
  settled-rows [] = refl
  settled-rows (r ∷ rs) = by_bool (any_of is_false (r ∷ rs)) (λ e. rw e refl) (λ e. rw e (gathered-rows [] (filter (λ s. not (is_true s)) (r ∷ rs))))

  -- trim counts the list that it is given
  pub trim-rows : (rs : PlainPiece) → (trim a rs).rows ≡ nat_lt row_limit (length rs)
  unfolding trim
  trim-rows rs =
      let n = nat_lt row_limit (length rs) in
      ap (λ b. n || (b || (settled a (each (canon a) rs).value).rows)) (canons-rows rs) ∙ ap (λ b. n || b) (settled-rows (each (canon a) rs).value) ∙ or-false n

  module _ (k : ℕ) where
    -- ---- the pair
    opposite-rows : (r s : PlainRow) → (is_opposite a r s).rows ≡ false
    opposite-rows r s = rw (agree-rows neg (lead_size s) (lead_size r) r.coefs s.coefs) refl

    mate-rows : (r s : PlainRow) → (is_mate a k r s).rows ≡ false
    mate-rows r s = by_bool (is_candidate k s) (λ e. rw e (opposite-rows r s)) (λ e. rw e refl)

    mate_at-rows : (r : PlainRow) (j : ℕ) (ss : PlainPiece) → (mate_at a k r j ss).rows ≡ false
    mate_at-rows r j [] = refl
    mate_at-rows r j (s ∷ ss) =
        by_bool (is_mate a k r s).value
        (λ e. rw e (ap (λ b. b || false) (mate-rows r s)))
        (λ e. rw e (ap (λ b. b || (mate_at a k r (j + 1) ss).rows) (mate-rows r s) ∙ mate_at-rows r (j + 1) ss))

    mate_of-rows : (r : PlainRow) (j : ℕ) (ss : PlainPiece) → (mate_of a k r j ss).rows ≡ false
    mate_of-rows r j ss = by_bool (is_candidate k r) (λ e. rw e (mate_at-rows r j ss)) (λ e. rw e refl)

    or_else-rows : (i : ℕ) (o : Option ℕ) (m : Marked (Option (ℕ × ℕ))) → m.rows ≡ false → (or_else i o m).rows ≡ false
    or_else-rows i None m h = h
    or_else-rows i (Some j) m h = refl

    pair-rows : (i : ℕ) (rs : PlainPiece) → (pair_at a k i rs).rows ≡ false
    pair-rows i [] = refl
    pair-rows i (r ∷ rs) =
        let o = (mate_of a k r (i + 1) rs).value in
        ap (λ b. b || (or_else i o (pair_at a k (i + 1) rs)).rows) (mate_of-rows r (i + 1) rs) ∙ or_else-rows i o (pair_at a k (i + 1) rs) (pair-rows (i + 1) rs)

    -- ---- combinations
    entries-rows : (f g : Number) (cs ds : List Number) → (entries a f g cs ds).rows ≡ false
    entries-rows f g [] ds = refl
    entries-rows f g (c ∷ cs) [] = refl
    entries-rows f g (c ∷ cs) (d ∷ ds) = entries-rows f g cs ds

    comb-rows : (r s : PlainRow) → (comb a r s k).rows ≡ false
    comb-rows r s = ap (λ b. b || false) (entries-rows (coef_size k s) (coef_size k r) r.coefs s.coefs)

    each-rows : (f : PlainRow → Marked PlainRow) → ((r : PlainRow) → (f r).rows ≡ false) → (rs : PlainPiece) → (each f rs).rows ≡ false
    each-rows f h [] = refl
    each-rows f h (r ∷ rs) = ap (λ b. b || (each f rs).rows) (h r) ∙ each-rows f h rs

    uppers-rows : (rs us : PlainPiece) → (each_joined (with_lowers a k rs) us).rows ≡ false
    uppers-rows rs [] = refl
    uppers-rows rs (u ∷ us) =
        ap (λ b. b || (each_joined (with_lowers a k rs) us).rows) (each-rows (λ l. comb a u l k) (λ l. comb-rows u l) (filter (lower_at k) rs)) ∙ uppers-rows rs us

    combinations-rows : (rs : PlainPiece) (o : Option (ℕ × ℕ)) → (combinations a k rs o).rows ≡ false
    combinations-rows rs None = uppers-rows rs (filter (upper_at k) rs)
    combinations-rows rs (Some p) =
        each-rows (λ r. comb a r (partner k (row_at rs p.0) (row_at rs p.1) r) k) (λ r. comb-rows r (partner k (row_at rs p.0) (row_at rs p.1) r)) (filter (λ r. not (level_at k r)) (beside rs p.0 p.1))

    -- ---- eliminate
    -- what is left of the rows, before it is trimmed
    abbrev pub left_of : PlainPiece → PlainPiece
    left_of rs = (without a k rs (pair_at a k 0 rs).value).value

    -- elimination counts what is left of the rows
    pub eliminate-rows : (rs : PlainPiece) → (eliminate a k rs).rows ≡ cond (is_nothing rs) false (nat_lt row_limit (length (left_of rs)))
    unfolding eliminate
    eliminate-rows rs =
        let o = (pair_at a k 0 rs).value in
        let t = (trim a (left_of rs)).rows in
        by_bool (is_nothing rs) (λ e. rw e refl)
        (λ e. rw e (ap (λ b. b || ((combinations a k rs o).rows || t)) (pair-rows 0 rs) ∙ ap (λ b. b || t) (combinations-rows rs o) ∙ trim-rows (left_of rs)))

-- over two number types, elimination of alike lists has its lists past the limit together
pub eliminate-counts : (a w : Arithmetic) (k : ℕ) → IsLawful a → (rs ss : PlainPiece) → AllAlike a rs ss → (eliminate w k ss).rows ≡ (eliminate a k rs).rows
eliminate-counts a w k laws rs ss h =
    let n : length (left_of w k ss) ≡ length (left_of a k rs) =
    ap (λ o. length (without w k ss o).value) (pair-alike a laws w k 0 rs ss h) ∙ beside-length (IsAlike a) (left_of a k rs) (without w k ss (pair_at a k 0 rs).value).value (without-alike a laws w k (pair_at a k 0 rs).value rs ss h) in
    eliminate-rows w k ss ∙ ap (λ b. cond b false (nat_lt row_limit (length (left_of w k ss)))) (nothing-alike a w rs ss h) ∙ ap (λ m. cond (is_nothing rs) false (nat_lt row_limit m)) n ∙ sym (eliminate-rows a k rs)

-- and so has elimination of all later variables
pub eliminate_last-counts : (a w : Arithmetic) (kept count : ℕ) → IsLawful a → IsLawful w → (rs ss : PlainPiece) → AllAlike a rs ss → (eliminate_last w kept count ss).rows ≡ (eliminate_last a kept count rs).rows
eliminate_last-counts a w kept zero laws lawful rs ss h = refl
eliminate_last-counts a w kept (suc count) laws lawful rs ss h =
    let k = kept + count in
    let one = (eliminate a k rs).value in
    let other = (eliminate w k ss).value in
    ap (λ b. b || (eliminate_last w kept count other).rows) (eliminate-counts a w k laws rs ss h)
    ∙ ap (λ b. (eliminate a k rs).rows || b) (eliminate_last-counts a w kept count laws lawful one other (eliminate-alike a w k laws lawful rs ss h))
