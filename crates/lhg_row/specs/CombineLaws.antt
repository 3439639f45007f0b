-- Why does a combination say what some value of the variable that cancels would say?
use Rattle.std.specs.Prelude.{◌≡◌, ℕ, zero, suc, ◌<◌, true, List, [], ◌∷◌, ◌++◌, length, map, filter, flat_map, get_or}
use Rattle.std.proofs.Common.{refl, sym, ap, ◌∙◌, arith, subst}
use Rattle.lhg_math.specs.Number.{Number, add, mul, neg, lt, nought}
use Rattle.lhg_math.specs.NumberRing.{mul_comm, add-neg, neg-mul, neg-add_cancel}
use Rattle.lhg_math.specs.NumberOrder.{lt_asym}
use Rattle.lhg_math.specs.Signs.{size_of}
use Rattle.lhg_num.specs.Arithmetic.{Arithmetic}
use Rattle.lhg_row.specs.Row.{PlainRow}
use Rattle.lhg_row.specs.Piece.{PlainPiece, InPiece}
use Rattle.lhg_row.specs.Column.{coef_at, upper_at, lower_at, level_at, drop_column}
use Rattle.lhg_row.specs.Width.{AllWide}
use Rattle.lhg_row.specs.Combine.{entries, comb}
use Rattle.lhg_row.specs.Combination.{AreOpposed, up_down, down_up, IsCombination}
use Rattle.lhg_row.specs.WithoutLaws.{paired, paired_has_value, has_value_paired}
use Rattle.lhg_row.specs.EliminateLaws.{comb_comm}

-- ---- the variable cancels
entries-get_or : (a : Arithmetic) (f g : Number) (k : ℕ) (cs ds : List Number) → length cs ≡ length ds → k < length cs
    → get_or (entries a f g cs ds).value k nought ≡ add (mul f (get_or cs k nought)) (mul g (get_or ds k nought))
entries-get_or a f g k [] ds e h = absurd (omega arith)
entries-get_or a f g k (c ∷ cs) [] e h = absurd (omega arith)
entries-get_or a f g zero (c ∷ cs) (d ∷ ds) e h = refl
entries-get_or a f g (suc k) (c ∷ cs) (d ∷ ds) e h = entries-get_or a f g k cs ds (omega arith) (omega arith)

-- numbers of opposite signs cancel, each times the size of the other
opposed_cancel : (c d : Number) → AreOpposed c d → add (mul (size_of d) c) (mul (size_of c) d) ≡ nought
opposed_cancel c d (up_down h k) =
    let x : size_of d ≡ neg d = rw k refl in
    let y : size_of c ≡ c = rw (lt_asym nought c h) refl in
    ap (λ w. add (mul w c) (mul (size_of c) d)) x ∙ ap (λ w. add (mul (neg d) c) (mul w d)) y
    ∙ ap (λ w. add w (mul c d)) (neg-mul d c ∙ ap neg (mul_comm d c)) ∙ neg-add_cancel (mul c d)
opposed_cancel c d (down_up h k) =
    let x : size_of d ≡ d = rw (lt_asym nought d k) refl in
    let y : size_of c ≡ neg c = rw h refl in
    ap (λ w. add (mul w c) (mul (size_of c) d)) x ∙ ap (λ w. add (mul d c) (mul w d)) y
    ∙ ap (λ w. add (mul d c) w) (neg-mul c d ∙ ap neg (mul_comm c d)) ∙ add-neg (mul d c)

-- the combination does not speak of the variable
comb_cancels : (a : Arithmetic) (k : ℕ) (r s : PlainRow) → length r.coefs ≡ length s.coefs → k < length r.coefs → AreOpposed (coef_at k r) (coef_at k s)
    → coef_at k (comb a r s k).value ≡ nought
comb_cancels a k r s e h o = entries-get_or a (size_of (coef_at k s)) (size_of (coef_at k r)) k r.coefs s.coefs e h ∙ opposed_cancel (coef_at k r) (coef_at k s) o

-- ---- the points
-- the rows of three kinds among some rows tell what is left of them
left_by : (a : Arithmetic) (k : ℕ) (rows levels ups lows : PlainPiece) → filter (level_at k) rows ≡ levels → filter (upper_at k) rows ≡ ups → filter (lower_at k) rows ≡ lows
    → paired a k rows ≡ map (drop_column k) (levels ++ flat_map (λ u. map (λ l. (comb a u l k).value) lows) ups)
left_by a k rows levels ups lows e f g =
    ap (λ ls. map (drop_column k) (ls ++ flat_map (λ u. map (λ l. (comb a u l k).value) (filter (lower_at k) rows)) (filter (upper_at k) rows))) e
    ∙ ap (λ us. map (drop_column k) (levels ++ flat_map (λ u. map (λ l. (comb a u l k).value) (filter (lower_at k) rows)) us)) f
    ∙ ap (λ ls. map (drop_column k) (levels ++ flat_map (λ u. map (λ l. (comb a u l k).value) ls) ups)) g

-- the combination of an upper and a lower row is all that is left of the two
upper_lower : (a : Arithmetic) (k : ℕ) (u l : PlainRow) → lt nought (coef_at k u) ≡ true → lt (coef_at k l) nought ≡ true
    → paired a k (u ∷ l ∷ []) ≡ drop_column k (comb a u l k).value ∷ []
upper_lower a k u l h j =
    let m = lt_asym nought (coef_at k u) h in
    let n = lt_asym (coef_at k l) nought j in
    left_by a k (u ∷ l ∷ []) [] (u ∷ []) (l ∷ []) (rw (h, m, j) refl) (rw (h, n) refl) (rw (m, j) refl)

-- the same of a lower and an upper row
lower_upper : (a : Arithmetic) (k : ℕ) (l u : PlainRow) → lt (coef_at k l) nought ≡ true → lt nought (coef_at k u) ≡ true
    → paired a k (l ∷ u ∷ []) ≡ drop_column k (comb a u l k).value ∷ []
lower_upper a k l u j h =
    let m = lt_asym nought (coef_at k u) h in
    let n = lt_asym (coef_at k l) nought j in
    left_by a k (l ∷ u ∷ []) [] (u ∷ []) (l ∷ []) (rw (h, m, j) refl) (rw (h, n) refl) (rw (m, j) refl)

-- the combination is all that is left of two rows of opposite signs
all_left : (a : Arithmetic) (k : ℕ) (r s : PlainRow) → AreOpposed (coef_at k r) (coef_at k s) → paired a k (r ∷ s ∷ []) ≡ drop_column k (comb a r s k).value ∷ []
all_left a k r s (up_down h j) = upper_lower a k r s h j
all_left a k r s (down_up j h) = lower_upper a k r s j h ∙ ap (λ (q : PlainRow). drop_column k q ∷ []) (comb_comm a s r k)

-- the combination of two rows of opposite signs is one, as the fact of Fourier and Motzkin says
pub comb-exact : (a : Arithmetic) (k : ℕ) (r s : PlainRow) → length r.coefs ≡ length s.coefs → k < length r.coefs → AreOpposed (coef_at k r) (coef_at k s)
    → IsCombination k r s (comb a r s k).value
comb-exact a k r s e h o = record {
  cancels = comb_cancels a k r s e h o;
  holds = λ x l.
      let left = all_left a k r s o in
      let w : AllWide (length r.coefs) (r ∷ s ∷ []) = (refl, (sym e, tt)) in (
        λ q. paired_has_value a k (length r.coefs) x h (sym l) (r ∷ s ∷ []) w (subst (λ rows. InPiece rows x) (sym left) (q, tt)),
        λ v. let q : InPiece (drop_column k (comb a r s k).value ∷ []) x = subst (λ rows. InPiece rows x) left (has_value_paired a k (length r.coefs) x h (sym l) (r ∷ s ∷ []) w v) in q.0,
      );
}
