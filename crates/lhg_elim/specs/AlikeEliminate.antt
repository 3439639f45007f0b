-- Why does elimination, over two number types, make alike lists of alike lists?
use Rattle.std.specs.Prelude.{◌≡◌, ℕ, zero, suc, ◌+◌, true, not, List, [], ◌∷◌, ◌++◌, map, filter, get_or, remove, Option, Some, None}
use Rattle.std.proofs.Common.{refl, sym, ap, ◌∙◌, subst}
use Rattle.lhg_math.specs.Number.{Number, mul, lt, nought}
use Rattle.lhg_math.specs.NumberOrder.{mul_positive}
use Rattle.lhg_math.specs.Signs.{size_of}
use Rattle.lhg_math.specs.Tests.{Every, AllOf, by_bool}
use Rattle.lhg_num.specs.Arithmetic.{Arithmetic, IsLawful}
use Rattle.lhg_num.specs.Marked.{Marked, each}
use Rattle.lhg_row.specs.Row.{PlainRow}
use Rattle.lhg_row.specs.Piece.{PlainPiece}
use Rattle.lhg_row.specs.Column.{coef_at, upper_at, lower_at, level_at, drop_column}
use Rattle.lhg_row.specs.Constant.{is_never, is_nothing}
use Rattle.lhg_row.specs.ValueLaws.{scaled_row}
use Rattle.lhg_row.specs.Combine.{entry, entries, comb}
use Rattle.lhg_row.specs.Eliminate.{is_opposite, is_candidate, is_mate, mate_at, mate_of, or_else, pair_at, same_side, partner, row_at, beside, with_pair, with_lowers, each_joined, combinations, without, eliminate, eliminate_last}
use Rattle.lhg_elim.specs.Alike.{IsAlike, AllAlike}
use Rattle.lhg_elim.specs.AlikeRows.{never-scaled, upper-scaled, lower-scaled, level-scaled, candidate-scaled, opposite-scaled, side-scaled, comb-scaled}
use Rattle.lhg_elim.specs.AlikeTrim.{never-alike, alike-test, alike-tests, filter-alike, trim-alike}

-- ---- numbers that a type holds
-- what holds of all members holds of all but one
all_others : {A : Type 0} (P : A → Type 0) (xs : List A) (k : ℕ) → AllOf P xs → AllOf P (remove xs k)
all_others P [] zero h = tt
all_others P [] (suc k) h = tt
all_others P (x ∷ xs) zero h = h.1
all_others P (x ∷ xs) (suc k) h = (h.0, all_others P xs k h.1)

module _ (a : Arithmetic) (laws : IsLawful a) where
  -- a size is held
  size_held : (x : Number) → a.holds x ≡ true → a.holds (size_of x) ≡ true
  size_held x h = by_bool (lt x nought) (λ e. rw e (laws.neg_held x h)) (λ e. rw e h)

  -- a coefficient is held
  coef_held : (cs : List Number) (k : ℕ) → Every a.holds cs → a.holds (get_or cs k nought) ≡ true
  coef_held [] k h = laws.nought_held
  coef_held (c ∷ cs) zero h = h.0
  coef_held (c ∷ cs) (suc k) h = coef_held cs k h.1

  -- a combined entry is held
  entry_held : (f g c d : Number) → a.holds f ≡ true → a.holds g ≡ true → a.holds c ≡ true → a.holds d ≡ true → a.holds (entry a f g c d).value ≡ true
  entry_held f g c d hf hg hc hd = laws.add_held (mul f c) (mul g d) (laws.mul_held f c hf hc) (laws.mul_held g d hg hd)

  -- and so are all
  entries_held : (f g : Number) (cs ds : List Number) → a.holds f ≡ true → a.holds g ≡ true → Every a.holds cs → Every a.holds ds → Every a.holds (entries a f g cs ds).value
  entries_held f g [] ds hf hg hc hd = tt
  entries_held f g (c ∷ cs) [] hf hg hc hd = tt
  entries_held f g (c ∷ cs) (d ∷ ds) hf hg hc hd = (entry_held f g c d hf hg hc.0 hd.0, entries_held f g cs ds hf hg hc.1 hd.1)

  -- ---- combinations
  module _ (w : Arithmetic) (k : ℕ) where
    -- alike rows have alike combinations
    comb-alike : (r r' s s' : PlainRow) → IsAlike a r r' → IsAlike a s s' → IsAlike a (comb a r s k).value (comb w r' s' k).value
    comb-alike r r' s s' h i =
        let f = size_held (coef_at k s) (coef_held s.coefs k i.coefs_held) in
        let g = size_held (coef_at k r) (coef_held r.coefs k h.coefs_held) in
        record {
          factor = mul h.factor i.factor;
          positive = mul_positive h.factor i.factor h.positive i.positive;
          is = ap (λ (t : PlainRow). (comb w t s' k).value) h.is ∙ ap (λ (t : PlainRow). (comb w (scaled_row h.factor r) t k).value) i.is ∙ comb-scaled a w h.factor i.factor h.positive i.positive r s k;
          coefs_held = entries_held (size_of (coef_at k s)) (size_of (coef_at k r)) r.coefs s.coefs f g h.coefs_held i.coefs_held;
          bound_held = entry_held (size_of (coef_at k s)) (size_of (coef_at k r)) r.bound s.bound f g h.bound_held i.bound_held;
        }

    -- and alike rows without a column
    drop-alike : (r s : PlainRow) → IsAlike a r s → IsAlike a (drop_column k r) (drop_column k s)
    drop-alike r s h = record {
      factor = h.factor;
      positive = h.positive;
      is = ap (drop_column k) h.is ∙ out_of h.factor r;
      coefs_held = all_others (λ x. a.holds x ≡ true) r.coefs k h.coefs_held;
      bound_held = h.bound_held;
    }
      where
        times-remove : (m : Number) (cs : List Number) (k : ℕ) → remove (map (λ c. mul m c) cs) k ≡ map (λ c. mul m c) (remove cs k)
        times-remove m [] zero = refl
        times-remove m [] (suc k) = refl
        times-remove m (c ∷ cs) zero = refl
        times-remove m (c ∷ cs) (suc k) = ap (λ xs. mul m c ∷ xs) (times-remove m cs k)

        out_of : (m : Number) (r : PlainRow) → drop_column k (scaled_row m r) ≡ scaled_row m (drop_column k r)
        out_of m r = λ i. record { coefs = times-remove m r.coefs k i; strict = r.strict; bound = mul m r.bound }

    drops-alike : (rs ss : PlainPiece) → AllAlike a rs ss → AllAlike a (map (drop_column k) rs) (map (drop_column k) ss)
    drops-alike [] [] h = tt
    drops-alike [] (s ∷ ss) h = absurd h
    drops-alike (r ∷ rs) [] h = absurd h
    drops-alike (r ∷ rs) (s ∷ ss) h = (drop-alike r s h.0, drops-alike rs ss h.1)

    append-alike : (rs ss ts us : PlainPiece) → AllAlike a rs ss → AllAlike a ts us → AllAlike a (rs ++ ts) (ss ++ us)
    append-alike [] [] ts us h i = i
    append-alike [] (s ∷ ss) ts us h i = absurd h
    append-alike (r ∷ rs) [] ts us h i = absurd h
    append-alike (r ∷ rs) (s ∷ ss) ts us h i = (h.0, append-alike rs ss ts us h.1 i)

    -- what is made row by row of alike rows is alike where it is of each two
    each-alike : (f g : PlainRow → Marked PlainRow) → ((r s : PlainRow) → IsAlike a r s → IsAlike a (f r).value (g s).value)
        → (rs ss : PlainPiece) → AllAlike a rs ss → AllAlike a (each f rs).value (each g ss).value
    each-alike f g made [] [] h = tt
    each-alike f g made [] (s ∷ ss) h = absurd h
    each-alike f g made (r ∷ rs) [] h = absurd h
    each-alike f g made (r ∷ rs) (s ∷ ss) h = (made r s h.0, each-alike f g made rs ss h.1)

    -- the combinations of an upper row with the lower ones
    lowers-alike : (rs ss : PlainPiece) (u v : PlainRow) → AllAlike a rs ss → IsAlike a u v → AllAlike a (with_lowers a k rs u).value (with_lowers w k ss v).value
    lowers-alike rs ss u v h i =
        each-alike (λ l. comb a u l k) (λ l. comb w v l k) (λ l m j. comb-alike u v l m i j) (filter (lower_at k) rs) (filter (lower_at k) ss)
        (filter-alike a w (lower_at k) (λ m p r. lower-scaled m p k r) rs ss h)

    -- and of all upper ones
    uppers-alike : (rs ss us vs : PlainPiece) → AllAlike a rs ss → AllAlike a us vs → AllAlike a (each_joined (with_lowers a k rs) us).value (each_joined (with_lowers w k ss) vs).value
    uppers-alike rs ss [] [] h i = tt
    uppers-alike rs ss [] (v ∷ vs) h i = absurd i
    uppers-alike rs ss (u ∷ us) [] h i = absurd i
    uppers-alike rs ss (u ∷ us) (v ∷ vs) h i =
        append-alike (with_lowers a k rs u).value (with_lowers w k ss v).value (each_joined (with_lowers a k rs) us).value (each_joined (with_lowers w k ss) vs).value (lowers-alike rs ss u v h i.0) (uppers-alike rs ss us vs h i.1)

    -- the row at a place
    at-alike : (rs ss : PlainPiece) (i : ℕ) → AllAlike a rs ss → IsAlike a (row_at rs i) (row_at ss i)
    at-alike [] [] i h = never-alike a 0 laws
    at-alike [] (s ∷ ss) i h = absurd h
    at-alike (r ∷ rs) [] i h = absurd h
    at-alike (r ∷ rs) (s ∷ ss) zero h = h.0
    at-alike (r ∷ rs) (s ∷ ss) (suc i) h = at-alike rs ss i h.1

    -- the rows without one
    remove-alike : (rs ss : PlainPiece) (i : ℕ) → AllAlike a rs ss → AllAlike a (remove rs i) (remove ss i)
    remove-alike [] [] zero h = tt
    remove-alike [] [] (suc i) h = tt
    remove-alike [] (s ∷ ss) i h = absurd h
    remove-alike (r ∷ rs) [] i h = absurd h
    remove-alike (r ∷ rs) (s ∷ ss) zero h = h.1
    remove-alike (r ∷ rs) (s ∷ ss) (suc i) h = (h.0, remove-alike rs ss i h.1)

    -- the partner of a row
    partner-alike : (one one' other other' r r' : PlainRow) → IsAlike a one one' → IsAlike a other other' → IsAlike a r r' → IsAlike a (partner k one other r) (partner k one' other' r')
    partner-alike one one' other other' r r' h i j =
        let same = alike-tests a w (same_side k) (same_side k) (λ p q h i r s. side-scaled a w p q h i r s k) r r' one one' j h in
        by_bool (same_side k r one)
        (λ e. let f = same ∙ e in rw (e, f) i)
        (λ e. let f = same ∙ e in rw (e, f) h)

    -- the combinations with a pair
    with_pair-alike : (one one' other other' : PlainRow) (rs ss : PlainPiece) → IsAlike a one one' → IsAlike a other other' → AllAlike a rs ss
        → AllAlike a (with_pair a k one other rs).value (with_pair w k one' other' ss).value
    with_pair-alike one one' other other' rs ss h i j =
        each-alike (λ r. comb a r (partner k one other r) k) (λ r. comb w r (partner k one' other' r) k)
        (λ r r' p. comb-alike r r' (partner k one other r) (partner k one' other' r') p (partner-alike one one' other other' r r' h i p))
        (filter (λ r. not (level_at k r)) rs) (filter (λ r. not (level_at k r)) ss)
        (filter-alike a w (λ r. not (level_at k r)) (λ m p r. ap not (level-scaled m p k r)) rs ss j)

    -- all combinations
    combinations-alike : (o : Option (ℕ × ℕ)) (rs ss : PlainPiece) → AllAlike a rs ss → AllAlike a (combinations a k rs o).value (combinations w k ss o).value
    combinations-alike None rs ss h =
        uppers-alike rs ss (filter (upper_at k) rs) (filter (upper_at k) ss) h (filter-alike a w (upper_at k) (λ m p r. upper-scaled m p k r) rs ss h)
    combinations-alike (Some p) rs ss h =
        with_pair-alike (row_at rs p.0) (row_at ss p.0) (row_at rs p.1) (row_at ss p.1) (beside rs p.0 p.1) (beside ss p.0 p.1) (at-alike rs ss p.0 h) (at-alike rs ss p.1 h)
        (remove-alike (remove rs p.1) (remove ss p.1) p.0 (remove-alike rs ss p.1 h))

    -- with the rows without the variable
    pub without-alike : (o : Option (ℕ × ℕ)) (rs ss : PlainPiece) → AllAlike a rs ss → AllAlike a (without a k rs o).value (without w k ss o).value
    without-alike o rs ss h =
        drops-alike (filter (level_at k) rs ++ (combinations a k rs o).value) (filter (level_at k) ss ++ (combinations w k ss o).value)
        (append-alike (filter (level_at k) rs) (filter (level_at k) ss) (combinations a k rs o).value (combinations w k ss o).value
        (filter-alike a w (level_at k) (λ m p r. level-scaled m p k r) rs ss h) (combinations-alike o rs ss h))

    -- ---- the pair
    candidate-alike : (r s : PlainRow) → IsAlike a r s → is_candidate k s ≡ is_candidate k r
    candidate-alike = alike-test a w (is_candidate k) (λ m p r. candidate-scaled m p k r)

    -- whether a row is the mate of another
    mate-alike : (r r' s s' : PlainRow) → IsAlike a r r' → IsAlike a s s' → (is_mate w k r' s').value ≡ (is_mate a k r s).value
    mate-alike r r' s s' h i =
        let same = candidate-alike s s' i in
        by_bool (is_candidate k s)
        (λ e. let f = same ∙ e in rw (e, f) (alike-tests a w (λ r s. (is_opposite w r s).value) (λ r s. (is_opposite a r s).value) (opposite-scaled a w) r r' s s' h i))
        (λ e. let f = same ∙ e in rw (e, f) refl)

    -- the first mate of a row
    mate_at-alike : (r r' : PlainRow) (j : ℕ) (ss ss' : PlainPiece) → IsAlike a r r' → AllAlike a ss ss' → (mate_at w k r' j ss').value ≡ (mate_at a k r j ss).value
    mate_at-alike r r' j [] [] h i = refl
    mate_at-alike r r' j [] (s' ∷ ss') h i = absurd i
    mate_at-alike r r' j (s ∷ ss) [] h i = absurd i
    mate_at-alike r r' j (s ∷ ss) (s' ∷ ss') h i =
        let same = mate-alike r r' s s' h i.0 in
        by_bool (is_mate a k r s).value
        (λ e. let f = same ∙ e in rw (e, f) refl)
        (λ e. let f = same ∙ e in rw (e, f) (mate_at-alike r r' (j + 1) ss ss' h i.1))

    mate_of-alike : (r r' : PlainRow) (j : ℕ) (ss ss' : PlainPiece) → IsAlike a r r' → AllAlike a ss ss' → (mate_of w k r' j ss').value ≡ (mate_of a k r j ss).value
    mate_of-alike r r' j ss ss' h i =
        let same = candidate-alike r r' h in
        by_bool (is_candidate k r)
        (λ e. let f = same ∙ e in rw (e, f) (mate_at-alike r r' j ss ss' h i))
        (λ e. let f = same ∙ e in rw (e, f) refl)

    -- a mate, or else what is found later
    or_else-same : (i : ℕ) (o p : Option ℕ) (m n : Marked (Option (ℕ × ℕ))) → o ≡ p → m.value ≡ n.value → (or_else i o m).value ≡ (or_else i p n).value
    or_else-same i o p m n e f = subst (λ q. (or_else i o m).value ≡ (or_else i q n).value) e (found o)
      where
        found : (o : Option ℕ) → (or_else i o m).value ≡ (or_else i o n).value
        found None = f
        found (Some j) = refl

    -- the pair
    pub pair-alike : (i : ℕ) (rs ss : PlainPiece) → AllAlike a rs ss → (pair_at w k i ss).value ≡ (pair_at a k i rs).value
    pair-alike i [] [] h = refl
    pair-alike i [] (s ∷ ss) h = absurd h
    pair-alike i (r ∷ rs) [] h = absurd h
    pair-alike i (r ∷ rs) (s ∷ ss) h =
        or_else-same i (mate_of w k s (i + 1) ss).value (mate_of a k r (i + 1) rs).value (pair_at w k (i + 1) ss) (pair_at a k (i + 1) rs) (mate_of-alike r s (i + 1) rs ss h.0 h.1) (pair-alike (i + 1) rs ss h.1)

-- ---- eliminate
-- whether a list is 0 < 0 alone
pub nothing-alike : (a w : Arithmetic) (rs ss : PlainPiece) → AllAlike a rs ss → is_nothing ss ≡ is_nothing rs
nothing-alike a w [] [] h = refl
nothing-alike a w [] (s ∷ ss) h = absurd h
nothing-alike a w (r ∷ rs) [] h = absurd h
nothing-alike a w (r ∷ []) (s ∷ []) h = alike-test a w is_never never-scaled r s h.0
nothing-alike a w (r ∷ []) (s ∷ t ∷ ss) h = absurd h.1
nothing-alike a w (r ∷ q ∷ rs) (s ∷ []) h = absurd h.1
nothing-alike a w (r ∷ q ∷ rs) (s ∷ t ∷ ss) h = refl

-- elimination of a variable makes alike lists of alike lists
pub eliminate-alike : (a w : Arithmetic) (k : ℕ) → IsLawful a → IsLawful w → (rs ss : PlainPiece) → AllAlike a rs ss → AllAlike a (eliminate a k rs).value (eliminate w k ss).value
unfolding eliminate
eliminate-alike a w k laws lawful rs ss h =
    let same = nothing-alike a w rs ss h in
    let o = (pair_at a k 0 rs).value in
    let rest : AllAlike a (without a k rs o).value (without w k ss (pair_at w k 0 ss).value).value =
    subst (λ p. AllAlike a (without a k rs o).value (without w k ss p).value) (sym (pair-alike a laws w k 0 rs ss h)) (without-alike a laws w k o rs ss h) in
    by_bool (is_nothing rs)
    (λ e. let f = same ∙ e in rw (e, f) (drops-alike a laws w k rs ss h))
    (λ e. let f = same ∙ e in rw (e, f) (trim-alike a w laws lawful (without a k rs o).value (without w k ss (pair_at w k 0 ss).value).value rest))

-- and of all later variables
pub eliminate_last-alike : (a w : Arithmetic) (kept count : ℕ) → IsLawful a → IsLawful w → (rs ss : PlainPiece) → AllAlike a rs ss
    → AllAlike a (eliminate_last a kept count rs).value (eliminate_last w kept count ss).value
eliminate_last-alike a w kept zero laws lawful rs ss h = h
eliminate_last-alike a w kept (suc count) laws lawful rs ss h =
    eliminate_last-alike a w kept count laws lawful (eliminate a (kept + count) rs).value (eliminate w (kept + count) ss).value (eliminate-alike a w (kept + count) laws lawful rs ss h)
