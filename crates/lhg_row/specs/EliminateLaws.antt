-- Why does the list without a variable hold exactly where some value of the variable satisfies the rows?
use Rattle.std.specs.Prelude.{◌≡◌, ◌↔◌, ℕ, suc, ◌<◌, true, false, not, cond, ◌||◌, ◌&&◌, List, [], ◌∷◌, ◌++◌, map, length, filter, insert, flat_map, Option, Some, None}
use Rattle.std.proofs.Common.{refl, sym, ap, ◌∙◌, arith, subst}
use Rattle.std.proofs.Math.Bool.{or_comm, and_assoc}
use Rattle.std.proofs.lemmas.Bool.{and_parts, not-true}
use Rattle.std.proofs.lemmas.List.{map-append}
use Rattle.lhg_math.specs.Number.{Number, add, mul, lt, nought, quot}
use Rattle.lhg_math.specs.NumberRing.{add_comm}
use Rattle.lhg_math.specs.NumberOrder.{lt_antisymm, lt_irrefl, lt_asym, lt-mul, lt-mul_negative, mul_cancel, mul_cancel_negative}
use Rattle.lhg_math.specs.Quotients.{mul-quot, abs_pos_of_lt, abs_pos_of_gt}
use Rattle.lhg_math.specs.Signs.{size_of}
use Rattle.lhg_math.specs.Tests.{by_bool, false_true, every_from_all, all_from_every}
use Rattle.lhg_num.specs.Arithmetic.{Arithmetic, IsLawful}
use Rattle.lhg_num.specs.MarkedLaws.{each-value}
use Rattle.lhg_row.specs.Conjunctions.{and_left_comm}
use Rattle.lhg_row.specs.Row.{PlainRow, PlainPoint, holds_at, row_with}
use Rattle.lhg_row.specs.Piece.{PlainPiece, InPiece, in_piece}
use Rattle.lhg_row.specs.Column.{upper_at, lower_at, level_at, drop_column, coef_at}
use Rattle.lhg_row.specs.Constant.{never, is_nothing}
use Rattle.lhg_row.specs.ConstantLaws.{is_never-is, never-holds, never-dropped, nothing-fails}
use Rattle.lhg_row.specs.Combine.{comb, entries}
use Rattle.lhg_row.specs.Width.{AllWide}
use Rattle.lhg_row.specs.HasValue.{HasValue}
use Rattle.lhg_row.specs.Trim.{trim}
use Rattle.lhg_row.specs.TrimLaws.{trim-holds}
use Rattle.lhg_row.specs.Eliminate.{row_at, beside, partner, with_lowers, each_joined, combinations, without, pair_at, eliminate}
use Rattle.lhg_row.specs.Bars.{Bar, meets, stands, comb_bar, meets_upper, meets_lower, stands_comb, level_meets}
use Rattle.lhg_row.specs.ColumnLaws.{bar_at, holds-insert, holds-drop_column, holds-comb}
use Rattle.lhg_row.specs.WithoutLaws.{paired, paired_has_value, has_value_paired}
use Rattle.lhg_row.specs.Combination.{up_down, down_up}
use Rattle.lhg_row.specs.PairLaws.{IsPair, HasPair, pair_at-is, in_piece-beside, levels-beside, beside-wide}
use Rattle.lhg_row.specs.PairPoints.{ArePair, are_pair}

-- ---- the order of two rows in a combination
entries_comm : (a : Arithmetic) (f g : Number) (cs ds : List Number) → (entries a f g cs ds).value ≡ (entries a g f ds cs).value
entries_comm a f g [] [] = refl
entries_comm a f g [] (d ∷ ds) = refl
entries_comm a f g (c ∷ cs) [] = refl
entries_comm a f g (c ∷ cs) (d ∷ ds) = ap (λ x. x ∷ (entries a f g cs ds).value) (add_comm (mul f c) (mul g d)) ∙ ap (λ xs. add (mul g d) (mul f c) ∷ xs) (entries_comm a f g cs ds)

-- a combination has one value in either order of its rows
pub comb_comm : (a : Arithmetic) (r s : PlainRow) (k : ℕ) → (comb a r s k).value ≡ (comb a s r k).value
comb_comm a r s k =
    let f = size_of (coef_at k s) in
    let g = size_of (coef_at k r) in
    ap (λ cs. row_with cs (r.strict || s.strict) (add (mul f r.bound) (mul g s.bound))) (entries_comm a f g r.coefs s.coefs)
    ∙ ap (λ t. row_with (entries a g f s.coefs r.coefs).value t (add (mul f r.bound) (mul g s.bound))) (or_comm r.strict s.strict)
    ∙ ap (λ b. row_with (entries a g f s.coefs r.coefs).value (s.strict || r.strict) b) (add_comm (mul f r.bound) (mul g s.bound))

-- ---- a weak constraint that v meets with equality, and another
quot_up : (c s v : Number) → lt nought c ≡ true → mul c v ≡ s → quot s c ≡ v
quot_up c s v h e = mul_cancel c (quot s c) v h (mul-quot s c (abs_pos_of_lt c h) ∙ sym e)

-- division undoes a product with a negative number
quot_down : (c s v : Number) → lt c nought ≡ true → mul c v ≡ s → quot s c ≡ v
quot_down c s v h e = mul_cancel_negative c (quot s c) v h (mul-quot s c (abs_pos_of_gt c h) ∙ sym e)

-- an upper bar is met at the value that a weak lower one fixes where their pair stands
upper_by : (u m : Bar) (v : Number) → lt nought u.coef ≡ true → lt m.coef nought ≡ true → m.strict ≡ false → mul m.coef v ≡ m.slack → stands (comb_bar u m) ≡ meets u v
upper_by u m v h k w e =
    stands_comb u m h k ∙ ap (λ x. cond (m.strict || u.strict) (lt x (quot u.slack u.coef)) (not (lt (quot u.slack u.coef) x))) (quot_down m.coef m.slack v k e)
    ∙ ap (λ t. cond (t || u.strict) (lt v (quot u.slack u.coef)) (not (lt (quot u.slack u.coef) v))) w ∙ sym (meets_upper u v h)

-- a lower bar is met at the value that a weak upper one fixes where their pair stands
lower_by : (l m : Bar) (v : Number) → lt l.coef nought ≡ true → lt nought m.coef ≡ true → m.strict ≡ false → mul m.coef v ≡ m.slack → stands (comb_bar m l) ≡ meets l v
lower_by l m v h k w e =
    stands_comb m l k h ∙ ap (λ x. cond (l.strict || m.strict) (lt (quot l.slack l.coef) x) (not (lt x (quot l.slack l.coef)))) (quot_up m.coef m.slack v k e)
    ∙ ap (λ t. cond t (lt (quot l.slack l.coef) v) (not (lt v (quot l.slack l.coef)))) (or_comm l.strict m.strict ∙ ap (λ t. t || l.strict) w) ∙ sym (meets_lower l v h)

-- ---- the value that a pair decides
module _ (x y : Bar) (p : ArePair x y) where
  -- at the value that the pair fixes, the first of it reaches its bound
  x_met : mul x.coef (quot x.slack x.coef) ≡ x.slack
  x_met = elim p.opposed [ up_down h k ↦ mul-quot x.slack x.coef (abs_pos_of_lt x.coef h) | down_up h k ↦ mul-quot x.slack x.coef (abs_pos_of_gt x.coef h) ]

  -- and so does the second
  y_met : mul y.coef (quot x.slack x.coef) ≡ y.slack
  y_met = p.met (quot x.slack x.coef) x_met

  -- a weak bar whose bound is reached is met
  weak_meets : (b : Bar) (v : Number) → b.strict ≡ false → mul b.coef v ≡ b.slack → meets b v ≡ true
  weak_meets b v w e = rw (w, e, lt_irrefl b.slack) refl

  -- the value meets the first of the pair
  x_meets : meets x (quot x.slack x.coef) ≡ true
  x_meets = weak_meets x (quot x.slack x.coef) p.weak_one x_met

  -- and the second
  y_meets : meets y (quot x.slack x.coef) ≡ true
  y_meets = weak_meets y (quot x.slack x.coef) p.weak_other y_met

  -- no value that meets a weak bar is past one that reaches its bound
  not_past : (b : Bar) (u v : Number) → b.strict ≡ false → mul b.coef u ≡ b.slack → meets b v ≡ true → lt (mul b.coef u) (mul b.coef v) ≡ false
  not_past b u v w e h = let k : not (lt b.slack (mul b.coef v)) ≡ true = rw w at h in ap (λ z. lt z (mul b.coef v)) e ∙ not-true _ k

  -- no other value meets both
  decided : (v : Number) → meets x v ≡ true → meets y v ≡ true → v ≡ quot x.slack x.coef
  decided v h k =
      let u = quot x.slack x.coef in
      let p1 = not_past x u v p.weak_one x_met h in
      let p2 = not_past y u v p.weak_other y_met k in
      elim p.opposed [
        | up_down i j ↦ lt_antisymm v u (sym (lt-mul_negative y.coef u v j) ∙ p2) (sym (lt-mul x.coef u v i) ∙ p1)
        | down_up i j ↦ lt_antisymm v u (sym (lt-mul_negative x.coef u v i) ∙ p1) (sym (lt-mul y.coef u v j) ∙ p2)
      ]

-- ---- lists
-- two lists together hold where both do
pub in_piece-append : (xs ys : PlainPiece) (x : PlainPoint) → in_piece (xs ++ ys) x ≡ (in_piece xs x && in_piece ys x)
in_piece-append [] ys x = refl
in_piece-append (r ∷ xs) ys x = ap (λ b. holds_at r x && b) (in_piece-append xs ys x) ∙ sym (and_assoc (holds_at r x) (in_piece xs x) (in_piece ys x))

module _ (a : Arithmetic) (k n : ℕ) (rows : PlainPiece) (x : PlainPoint) (in_n : k < n) (n_is : n ≡ suc (length x)) where
  -- a row holds at a value of the variable where the value meets its bar
  row_meets : (r : PlainRow) (v : Number) → length r.coefs ≡ n → holds_at r (insert x k v) ≡ meets (bar_at k x r) v
  row_meets r v w = holds-insert r k v x (omega (arith, w)) (w ∙ n_is)

  module _ (i j : ℕ) (is : IsPair a k rows i j) (wide : AllWide n rows) where
    abbrev one : PlainRow
    one = row_at rows i

    abbrev other : PlainRow
    other = row_at rows j

    pair : ArePair (bar_at k x one) (bar_at k x other)
    pair = are_pair a k one other x is.there_one is.there_other is.weak_one is.weak_other is.opposite

    -- one row beside the pair: its combination holds exactly where it holds at the value of the pair
    one_beside : (r : PlainRow) → length r.coefs ≡ n → level_at k r ≡ false
        → holds_at (drop_column k (comb a r (partner k one other r) k).value) x ≡ meets (bar_at k x r) (quot (bar_at k x one).slack (bar_at k x one).coef)
    one_beside r w e =
        let b = bar_at k x one in
        let c = bar_at k x other in
        let v = quot b.slack b.coef in
        let wp = beside-wide a k rows i j is n wide in
        let one_r : length r.coefs ≡ length one.coefs = w ∙ sym wp.0 in
        let other_r : length r.coefs ≡ length other.coefs = w ∙ sym wp.1 in
        let in_r : k < length r.coefs = omega (arith, w) in
        let in_one : k < length one.coefs = omega (arith, wp.0) in
        let in_other : k < length other.coefs = omega (arith, wp.1) in
        by_bool (upper_at k r)
        (λ u. elim pair.opposed [
          | up_down p q ↦ rw (u, p) (holds-comb a r other k x other_r in_r u q ∙ upper_by (bar_at k x r) c v u q is.weak_other (y_met b c pair))
          | down_up p q ↦ let n1 = lt_asym (coef_at k one) nought p in rw (u, n1) (holds-comb a r one k x one_r in_r u p ∙ upper_by (bar_at k x r) b v u p is.weak_one (x_met b c pair))
        ])
        (λ u.
        let d : lt (coef_at k r) nought ≡ true = by_bool (lt (coef_at k r) nought) (λ f. f) (λ f. false_true (sym (sym (rw (f, u) refl) ∙ e))) in
        elim pair.opposed [
          | up_down p q ↦ rw (u, p) (ap (λ (t : PlainRow). holds_at (drop_column k t) x) (comb_comm a r one k) ∙ holds-comb a one r k x (sym one_r) in_one p d ∙ lower_by (bar_at k x r) b v d p is.weak_one (x_met b c pair))
          | down_up p q ↦ let n1 = lt_asym (coef_at k one) nought p in
              rw (u, n1) (ap (λ (t : PlainRow). holds_at (drop_column k t) x) (comb_comm a r other k) ∙ holds-comb a other r k x (sym other_r) in_other q d ∙ lower_by (bar_at k x r) c v d q is.weak_other (y_met b c pair))
        ])

    -- all rows beside the pair
    all_beside : (rs : PlainPiece) → AllWide n rs
        → (in_piece (map (drop_column k) (filter (level_at k) rs)) x && in_piece (map (drop_column k) (map (λ r. (comb a r (partner k one other r) k).value) (filter (λ r. not (level_at k r)) rs))) x)
        ≡ in_piece rs (insert x k (quot (bar_at k x one).slack (bar_at k x one).coef))
    all_beside [] w = refl
    all_beside (r ∷ rs) w =
        let v = quot (bar_at k x one).slack (bar_at k x one).coef in
        let l = in_piece (map (drop_column k) (filter (level_at k) rs)) x in
        let c = in_piece (map (drop_column k) (map (λ s. (comb a s (partner k one other s) k).value) (filter (λ s. not (level_at k s)) rs))) x in
        by_bool (level_at k r)
        (λ e.
        let h : holds_at (drop_column k r) x ≡ holds_at r (insert x k v) = holds-drop_column r k x ∙ sym (level_meets (bar_at k x r) v e) ∙ sym (row_meets r v w.0) in
        rw e (and_assoc (holds_at (drop_column k r) x) l c ∙ ap (λ b. b && (l && c)) h ∙ ap (λ b. holds_at r (insert x k v) && b) (all_beside rs w.1)))
        (λ e.
        let h : holds_at (drop_column k (comb a r (partner k one other r) k).value) x ≡ holds_at r (insert x k v) = one_beside r w.0 e ∙ sym (row_meets r v w.0) in
        rw e (and_left_comm l (holds_at (drop_column k (comb a r (partner k one other r) k).value) x) c ∙ ap (λ b. b && (l && c)) h ∙ ap (λ b. holds_at r (insert x k v) && b) (all_beside rs w.1)))

    list_is : in_piece (without a k rows (Some (i, j))).value x ≡ in_piece (beside rows i j) (insert x k (quot (bar_at k x one).slack (bar_at k x one).coef))
    list_is =
        let c = λ (r : PlainRow). (comb a r (partner k one other r) k).value in
        let ks = filter (λ (r : PlainRow). not (level_at k r)) (beside rows i j) in
        ap (λ xs. in_piece (map (drop_column k) (xs ++ (combinations a k rows (Some (i, j))).value)) x) (levels-beside a k rows i j is)
        ∙ ap (λ ys. in_piece (map (drop_column k) (filter (level_at k) (beside rows i j) ++ ys)) x) (each-value (λ r. comb a r (partner k one other r) k) ks)
        ∙ ap (λ zs. in_piece zs x) (map-append (drop_column k) (filter (level_at k) (beside rows i j)) (map c ks))
        ∙ in_piece-append (map (drop_column k) (filter (level_at k) (beside rows i j))) (map (drop_column k) (map c ks)) x
        ∙ all_beside (beside rows i j) (beside-wide a k rows i j is n wide).2

    pair-has_value : in_piece (without a k rows (Some (i, j))).value x ≡ true → HasValue k rows x
    pair-has_value h =
        let b = bar_at k x one in
        let v = quot b.slack b.coef in
        let one_holds = row_meets one v (beside-wide a k rows i j is n wide).0 ∙ x_meets b (bar_at k x other) pair in
        let other_holds = row_meets other v (beside-wide a k rows i j is n wide).1 ∙ y_meets b (bar_at k x other) pair in
        let others_hold = sym list_is ∙ h in
        record { value = v; holds = every_from_all (λ r. holds_at r (insert x k v)) rows (in_piece-beside a k rows i j is (insert x k v) ∙ rw (one_holds, other_holds, others_hold) refl) }

    has_value-pair : HasValue k rows x → in_piece (without a k rows (Some (i, j))).value x ≡ true
    has_value-pair h =
        let b = bar_at k x one in
        let c = bar_at k x other in
        let all = sym (in_piece-beside a k rows i j is (insert x k h.value)) ∙ all_from_every (λ r. holds_at r (insert x k h.value)) rows h.holds in
        let s = and_parts (holds_at one (insert x k h.value)) _ all in
        let t = and_parts (holds_at other (insert x k h.value)) (in_piece (beside rows i j) (insert x k h.value)) s.1 in
        let e = decided b c pair h.value (sym (row_meets one h.value (beside-wide a k rows i j is n wide).0) ∙ s.0) (sym (row_meets other h.value (beside-wide a k rows i j is n wide).1) ∙ t.0) in
        list_is ∙ ap (λ v. in_piece (beside rows i j) (insert x k v)) (sym e) ∙ t.1

  -- without a pair the list is that of all combinations
  no_pair : (ups : PlainPiece) → (each_joined (with_lowers a k rows) ups).value ≡ flat_map (λ u. map (λ l. (comb a u l k).value) (filter (lower_at k) rows)) ups
  no_pair [] = refl
  no_pair (u ∷ ups) =
      ap (λ xs. xs ++ (each_joined (with_lowers a k rows) ups).value) (each-value (λ l. comb a u l k) (filter (lower_at k) rows))
      ∙ ap (λ xs. map (λ l. (comb a u l k).value) (filter (lower_at k) rows) ++ xs) (no_pair ups)

  -- what is left of the rows, by the pair or by all, is exact
  list_exact : (o : Option (ℕ × ℕ)) → HasPair a k rows o → AllWide n rows
      → (in_piece (without a k rows o).value x ≡ true → HasValue k rows x) × (HasValue k rows x → in_piece (without a k rows o).value x ≡ true)
  list_exact (Some p) is w = (pair-has_value p.0 p.1 is w, has_value-pair p.0 p.1 is w)
  list_exact None is w =
      let e : in_piece (without a k rows None).value x ≡ in_piece (paired a k rows) x =
      ap (λ xs. in_piece (map (drop_column k) (filter (level_at k) rows ++ xs)) x) (no_pair (filter (upper_at k) rows)) in (
        λ h. paired_has_value a k n x in_n n_is rows w (every_from_all (λ r. holds_at r x) (paired a k rows) (sym e ∙ h)),
        λ h. e ∙ all_from_every (λ r. holds_at r x) (paired a k rows) (has_value_paired a k n x in_n n_is rows w h),
      )

-- ---- eliminate
-- what is left of the one row 0 < 0 holds nowhere
nothing_dropped : (k : ℕ) (rows : PlainPiece) (x : PlainPoint) → k < suc (length x) → AllWide (suc (length x)) rows → is_nothing rows ≡ true
    → in_piece (map (drop_column k) rows) x ≡ false
nothing_dropped k [] x i w h = false_true h
nothing_dropped k (r ∷ []) x i w h =
    let e : drop_column k r ≡ never (length x) = ap (drop_column k) (is_never-is r h ∙ ap never w.0) ∙ never-dropped k (length x) i in
    ap (λ (q : PlainRow). holds_at q x && true) e ∙ ap (λ b. b && true) (never-holds (length x) x)
nothing_dropped k (r ∷ s ∷ rows) x i w h = false_true h

-- eliminate is exact
pub eliminate-exact : (a : Arithmetic) (k n : ℕ) (rows : PlainPiece) (x : PlainPoint) → IsLawful a → k < n → n ≡ suc (length x) → AllWide n rows
    → InPiece (eliminate a k rows).value x ↔ HasValue k rows x
unfolding eliminate
eliminate-exact a k n rows x laws i e w =
    let o = (pair_at a k 0 rows).value in
    let list = (without a k rows o).value in
    let f = list_exact a k n rows x i e o (pair_at-is a k rows) w in
    let t : in_piece (trim a list).value x ≡ in_piece list x = trim-holds a list x laws in
    by_bool (is_nothing rows)
    (λ g. rw g (
      λ h. false_true (sym (nothing_dropped k rows x (omega arith) (subst (λ m. AllWide m rows) e w) g) ∙ all_from_every (λ r. holds_at r x) (map (drop_column k) rows) h),
      λ h. false_true (sym (nothing-fails rows (insert x k h.value) g) ∙ all_from_every (λ r. holds_at r (insert x k h.value)) rows h.holds),
    ))
    (λ g. rw g (
      λ h. f.0 (sym t ∙ all_from_every (λ r. holds_at r x) (trim a list).value h),
      λ h. every_from_all (λ r. holds_at r x) (trim a list).value (t ∙ f.1 h),
    ))
