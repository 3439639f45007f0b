-- Why does trim of the rows that pass a test of directions leave the rows of the trimmed list that pass it?
use Rattle.std.specs.Prelude.{◌≡◌, Bool, true, false, not, List, [], ◌∷◌, map, filter}
use Rattle.std.proofs.Common.{refl, sym, ap, ◌∙◌}
use Rattle.std.proofs.lemmas.Bool.{or_parts}
use Rattle.std.specs.declared.cmp.Ordering.{Ordering}
use Rattle.std.specs.declared.cmp.Ordering.TheVariants.{Less, Equal, Greater}
use Rattle.lhg_math.specs.Tests.{Every, any_of, by_bool, false_true}
use Rattle.lhg_num.specs.Arithmetic.{Arithmetic, IsLawful, scaled_multiple}
use Rattle.lhg_num.specs.Marked.{each}
use Rattle.lhg_num.specs.MarkedLaws.{each-value}
use Rattle.lhg_row.specs.Row.{PlainRow, PlainPoint}
use Rattle.lhg_row.specs.Piece.{PlainPiece, in_piece}
use Rattle.lhg_row.specs.Constant.{is_constant, varies, is_true, is_false}
use Rattle.lhg_row.specs.ConstantLaws.{false-fails, filter-varies}
use Rattle.lhg_row.specs.Trim.{canon, entries_of, same_direction, bound_order, tighter, placed, gathered, settled, trim}
use Rattle.lhg_row.specs.TrimLaws.{row_of-canon, placed-varies, canons-hold}
use Rattle.lhg_prune.specs.Directions.{IsByDirection}

-- ---- filters
-- two filters are taken in either order
pub filter-filter : {A : Type 0} (p q : A → Bool) (xs : List A) → filter p (filter q xs) ≡ filter q (filter p xs)
filter-filter p q [] = refl
filter-filter p q (x ∷ xs) =
    by_bool (p x)
    (λ e. by_bool (q x) (λ f. rw (e, f, e) (ap (λ ys. x ∷ ys) (filter-filter p q xs))) (λ f. rw (e, f) (filter-filter p q xs)))
    (λ e. by_bool (q x) (λ f. rw (e, f, e) (filter-filter p q xs)) (λ f. rw (e, f) (filter-filter p q xs)))

-- a filter passes through a map that its test does not see
pub filter-map : {A : Type 0} (f : A → A) (p : A → Bool) → ((x : A) → p (f x) ≡ p x) → (xs : List A) → filter p (map f xs) ≡ map f (filter p xs)
filter-map f p h [] = refl
filter-map f p h (x ∷ xs) =
    by_bool (p x)
    (λ e. rw (h x, e) (ap (λ ys. f x ∷ ys) (filter-map f p h xs)))
    (λ e. rw (h x, e) (filter-map f p h xs))

-- no member of a part passes a test that none of all passes
none_filter : {A : Type 0} (p q : A → Bool) (xs : List A) → any_of p xs ≡ false → any_of p (filter q xs) ≡ false
none_filter p q [] h = refl
none_filter p q (x ∷ xs) h =
    let s = or_parts (p x) (any_of p xs) h in
    by_bool (q x) (λ e. rw (e, s.0) (none_filter p q xs s.1)) (λ e. rw e (none_filter p q xs s.1))

module _ (a : Arithmetic) (test : PlainRow → Bool) (by : IsByDirection a test) where
  -- ---- gathering
  -- the tighter of two rows that pass together passes with them
  test-tighter : (b : Bool) (o : Ordering) (s r : PlainRow) → test s ≡ b → test r ≡ b → test (tighter o s r) ≡ b
  test-tighter b Less s r h k = k
  test-tighter b Equal s r h k = by.coefs (tighter Equal s r) s refl ∙ h
  test-tighter b Greater s r h k = h

  -- a row that passes is put among those that pass
  placed-passing : (r : PlainRow) (ss : PlainPiece) → varies r ≡ true → Every varies ss → test r ≡ true → filter test (placed a r ss).value ≡ (placed a r (filter test ss)).value
  placed-passing r [] v w h = rw h refl
  placed-passing r (s ∷ ss) v w h =
      by_bool (same_direction a r s).value
      (λ e.
      let k : test s ≡ true = sym (by.direction r s v w.0 e) ∙ h in
      rw (e, test-tighter true (bound_order a r s).value s r k h, k, e) refl)
      (λ e. by_bool (test s)
      (λ k. rw (e, k, e) (ap (λ ts. s ∷ ts) (placed-passing r ss v w.1 h)))
      (λ k. rw (e, k) (placed-passing r ss v w.1 h)))

  -- a row that does not pass leaves those that do as they are
  placed-other : (r : PlainRow) (ss : PlainPiece) → varies r ≡ true → Every varies ss → test r ≡ false → filter test (placed a r ss).value ≡ filter test ss
  placed-other r [] v w h = rw h refl
  placed-other r (s ∷ ss) v w h =
      by_bool (same_direction a r s).value
      (λ e.
      let k : test s ≡ false = sym (by.direction r s v w.0 e) ∙ h in
      rw (e, test-tighter false (bound_order a r s).value s r k h, k) refl)
      (λ e. by_bool (test s)
      (λ k. rw (e, k) (ap (λ ts. s ∷ ts) (placed-other r ss v w.1 h)))
      (λ k. rw (e, k) (placed-other r ss v w.1 h)))

  -- gathering the rows that pass leaves the gathered rows that pass
  gathered-filter : (ks rows : PlainPiece) → Every varies ks → Every varies rows → filter test (gathered a ks rows).value ≡ (gathered a (filter test ks) (filter test rows)).value
  gathered-filter ks [] v w = refl
  gathered-filter ks (r ∷ rows) v w =
      gathered-filter (placed a r ks).value rows (placed-varies a r ks w.0 v) w.1
      ∙ by_bool (test r)
      (λ h. rw h (ap (λ ls. (gathered a ls (filter test rows)).value) (placed-passing r ks w.0 v h)))
      (λ h. rw h (ap (λ ls. (gathered a ls (filter test rows)).value) (placed-other r ks w.0 v h)))

  -- ---- trim
  abbrev pub others : PlainPiece → PlainPiece
  others rows = filter (λ s. not (is_true s)) rows

  -- without false rows the others are gathered
  pub settled-gathered : (rows : PlainPiece) → any_of is_false rows ≡ false → (settled a rows).value ≡ (gathered a [] (others rows)).value
  settled-gathered [] h = refl
  settled-gathered (r ∷ rows) h = rw h refl

  settled-filter : (rows : PlainPiece) → any_of is_false rows ≡ false → (settled a (filter test rows)).value ≡ filter test (settled a rows).value
  settled-filter rows h =
      settled-gathered (filter test rows) (none_filter is_false test rows h)
      ∙ ap (λ rs. (gathered a [] rs).value) (filter-filter (λ s. not (is_true s)) test rows)
      ∙ sym (gathered-filter [] (others rows) tt (filter-varies rows h))
      ∙ ap (filter test) (sym (settled-gathered rows h))

  module _ (laws : IsLawful a) where
    -- a scaled row passes with the row
    pub test-canon : (r : PlainRow) → test (canon a r).value ≡ test r
    test-canon r =
        by_bool (is_constant r) (λ e. rw e refl)
        (λ e. let m = scaled_multiple a (entries_of r) laws in rw e (ap test (row_of-canon a r laws) ∙ by.multiple m.factor r m.positive))

    -- no scaled row of rows with a point is false
    pub no_false : (rows : PlainPiece) (x : PlainPoint) → in_piece rows x ≡ true → any_of is_false (each (canon a) rows).value ≡ false
    no_false rows x i =
        let all = (each (canon a) rows).value in
        by_bool (any_of is_false all) (λ f. false_true (sym (false-fails all x f) ∙ canons-hold a rows x laws ∙ i)) (λ f. f)

    -- trim of the rows that pass
    pub trim-filter : (rows : PlainPiece) (x : PlainPoint) → in_piece rows x ≡ true → (trim a (filter test rows)).value ≡ filter test (trim a rows).value
    unfolding trim
    trim-filter rows x i =
        let c = λ (r : PlainRow). (canon a r).value in
        let e : (each (canon a) (filter test rows)).value ≡ filter test (each (canon a) rows).value =
        each-value (canon a) (filter test rows) ∙ sym (filter-map c test test-canon rows) ∙ ap (filter test) (sym (each-value (canon a) rows)) in
        let all = (each (canon a) rows).value in
        let none : any_of is_false all ≡ false = no_false rows x i in
        ap (λ rs. (settled a rs).value) e ∙ settled-filter all none
