-- Why does trim, over two number types, make alike lists of alike lists?
use Rattle.std.specs.Prelude.{◌≡◌, ℕ, zero, suc, Bool, true, false, not, ◌||◌, [], ◌∷◌, map, length, replicate, filter}
use Rattle.std.proofs.Common.{refl, sym, ap, ◌∙◌, subst}
use Rattle.std.proofs.lemmas.List.{map-append, length-map}
use Rattle.std.specs.declared.cmp.Ordering.{Ordering}
use Rattle.std.specs.declared.cmp.Ordering.TheVariants.{Less, Equal, Greater}
use Rattle.lhg_math.specs.Number.{Number, mul, lt, nought, unit, inverse}
use Rattle.lhg_math.specs.NumberRing.{mul_assoc, mul_comm, mul-unit, mul-nought}
use Rattle.lhg_math.specs.NumberOrder.{lt-mul, mul_positive, nought_unit}
use Rattle.lhg_math.specs.Quotients.{mul-inverse, abs_pos_of_lt}
use Rattle.lhg_math.specs.Tests.{Every, all_of, any_of, by_bool, every_from_all, all_from_every}
use Rattle.lhg_num.specs.Arithmetic.{Arithmetic, IsLawful, scaled-held, scaled_multiple}
use Rattle.lhg_num.specs.Marked.{each}
use Rattle.lhg_row.specs.Row.{PlainRow}
use Rattle.lhg_row.specs.Piece.{PlainPiece}
use Rattle.lhg_row.specs.Members.{all-append, all_split}
use Rattle.lhg_row.specs.Constant.{is_constant, is_true, is_false, never}
use Rattle.lhg_row.specs.ValueLaws.{scaled_row}
use Rattle.lhg_row.specs.Trim.{entries_of, canon, same_direction, bound_order, tighter, placed, gathered, settled, trim}
use Rattle.lhg_row.specs.TrimLaws.{row_of-canon}
use Rattle.lhg_elim.specs.Alike.{IsAlike, AllAlike}
use Rattle.lhg_elim.specs.AlikeRows.{scaled_row-scaled, constant-scaled, true-scaled, false-scaled, direction-scaled, order-scaled}

-- ---- 0 < 0
-- zeros stay under a factor
pub noughts-scaled : (k : Number) (n : ℕ) → map (λ x. mul k x) (replicate n nought) ≡ replicate n nought
noughts-scaled k zero = refl
noughts-scaled k (suc n) = ap (λ x. x ∷ map (λ x. mul k x) (replicate n nought)) (mul-nought k) ∙ ap (λ xs. nought ∷ xs) (noughts-scaled k n)

-- 0 < 0 stays under a factor
pub never-multiple : (k : Number) (n : ℕ) → scaled_row k (never n) ≡ never n
never-multiple k n = λ i. record { coefs = noughts-scaled k n i; strict = true; bound = mul-nought k i }

-- 0 < 0 is alike itself
pub never-alike : (a : Arithmetic) (n : ℕ) → IsLawful a → IsAlike a (never n) (never n)
never-alike a n laws = record {
  factor = unit;
  positive = nought_unit;
  is = sym (never-multiple unit n);
  coefs_held = zeros n;
  bound_held = laws.nought_held;
}
  where
    zeros : (n : ℕ) → Every a.holds (replicate n nought)
    zeros zero = tt
    zeros (suc n) = (laws.nought_held, zeros n)

module _ (a w : Arithmetic) where
  -- alike rows have one width
  pub alike-length : (r s : PlainRow) → IsAlike a r s → length s.coefs ≡ length r.coefs
  alike-length r s h = ap (λ (q : PlainRow). length q.coefs) h.is ∙ length-map r.coefs (λ c. mul h.factor c)

  -- a test that does not see a factor does not tell alike rows apart
  pub alike-test : {A : Type 0} (t : PlainRow → A) → ((k : Number) → lt nought k ≡ true → (r : PlainRow) → t (scaled_row k r) ≡ t r) → (r s : PlainRow) → IsAlike a r s → t s ≡ t r
  alike-test t same r s h = ap t h.is ∙ same h.factor h.positive r

  -- ---- canon
  -- the entries of a row are held where its coefficients and its bound are
  pub held_entries : (r s : PlainRow) → IsAlike a r s → all_of a.holds (entries_of r) ≡ true
  held_entries r s h = all_from_every a.holds (entries_of r) (all-append (λ x. a.holds x ≡ true) r.coefs (r.bound ∷ []) h.coefs_held (h.bound_held, tt))

  -- the quotient of two factors
  quotient : (m k : Number) → lt nought m ≡ true → mul (mul k (inverse m)) m ≡ k
  quotient m k h = mul_assoc k (inverse m) m ∙ ap (mul k) (mul_comm (inverse m) m ∙ mul-inverse m (abs_pos_of_lt m h)) ∙ mul-unit k

  -- it is positive where both are
  quotient_positive : (m k : Number) → lt nought m ≡ true → lt nought k ≡ true → lt nought (mul k (inverse m)) ≡ true
  quotient_positive m k h p =
      let q = mul k (inverse m) in
      sym (lt-mul m nought q h) ∙ ap (λ x. lt x (mul m q)) (mul-nought m) ∙ ap (lt nought) (mul_comm m q ∙ quotient m k h) ∙ p

  -- alike rows are scaled to alike rows
  pub canon-alike : IsLawful a → IsLawful w → (r s : PlainRow) → IsAlike a r s → IsAlike a (canon a r).value (canon w s).value
  canon-alike laws lawful r s h =
      by_bool (is_constant r)
      (λ e. let f : is_constant s ≡ true = alike-test is_constant constant-scaled r s h ∙ e in rw (e, f) h)
      (λ e.
      let f : is_constant s ≡ false = alike-test is_constant constant-scaled r s h ∙ e in
      let m = scaled_multiple a (entries_of r) laws in
      let n = scaled_multiple w (entries_of s) lawful in
      let k = mul n.factor h.factor in
      let q = scaled_row m.factor r in
      let left : (canon a r).value ≡ q = rw e (row_of-canon a r laws) in
      let right : (canon w s).value ≡ scaled_row n.factor s = rw f (row_of-canon w s lawful) in
      let held = held_entries r s h in
      let now : all_of a.holds (entries_of q) ≡ true =
      ap (all_of a.holds) (sym (map-append (λ x. mul m.factor x) r.coefs (r.bound ∷ [])) ∙ sym m.entries ∙ scaled-held a (entries_of r) held) ∙ laws.canon_held (entries_of r) held in
      let parts = all_split (λ x. a.holds x ≡ true) q.coefs (q.bound ∷ []) (every_from_all a.holds (entries_of q) now) in
      let to = mul k (inverse m.factor) in
      let is : scaled_row n.factor s ≡ scaled_row to q =
      ap (scaled_row n.factor) h.is ∙ scaled_row-scaled n.factor h.factor r ∙ ap (λ x. scaled_row x r) (sym (quotient m.factor k m.positive)) ∙ sym (scaled_row-scaled to m.factor r) in
      let done : IsAlike a q (scaled_row n.factor s) = record {
        factor = to;
        positive = quotient_positive m.factor k m.positive (mul_positive n.factor h.factor n.positive h.positive);
        is = is;
        coefs_held = parts.0;
        bound_held = parts.1.0;
      } in
      subst (λ u. IsAlike a u (canon w s).value) (sym left) (subst (IsAlike a q) (sym right) done))

  -- and so row by row
  canons-alike : IsLawful a → IsLawful w → (rs ss : PlainPiece) → AllAlike a rs ss → AllAlike a (each (canon a) rs).value (each (canon w) ss).value
  canons-alike laws lawful [] [] h = tt
  canons-alike laws lawful [] (s ∷ ss) h = absurd h
  canons-alike laws lawful (r ∷ rs) [] h = absurd h
  canons-alike laws lawful (r ∷ rs) (s ∷ ss) h = (canon-alike laws lawful r s h.0, canons-alike laws lawful rs ss h.1)

  -- ---- rows put among others
  -- the tighter of two rows is alike the tighter of alike ones
  tighter-alike : (o : Ordering) (s t r u : PlainRow) → IsAlike a s t → IsAlike a r u → IsAlike a (tighter o s r) (tighter o t u)
  tighter-alike Less s t r u h k = k
  tighter-alike Equal s t r u h k = record {
    factor = h.factor;
    positive = h.positive;
    is = λ i. record { coefs = (h.is i).coefs; strict = (h.is i).strict || (k.is i).strict; bound = (h.is i).bound };
    coefs_held = h.coefs_held;
    bound_held = h.bound_held;
  }
  tighter-alike Greater s t r u h k = h

  -- a test of two rows that does not see factors does not tell alike rows apart
  pub alike-tests : {A : Type 0} (t u : PlainRow → PlainRow → A) → ((p q : Number) → lt nought p ≡ true → lt nought q ≡ true → (r s : PlainRow) → t (scaled_row p r) (scaled_row q s) ≡ u r s)
      → (r r' s s' : PlainRow) → IsAlike a r r' → IsAlike a s s' → t r' s' ≡ u r s
  alike-tests t u same r r' s s' h k = ap (λ x. t x s') h.is ∙ ap (t (scaled_row h.factor r)) k.is ∙ same h.factor k.factor h.positive k.positive r s

  -- alike rows have one direction together
  direction-alike : (r r' s s' : PlainRow) → IsAlike a r r' → IsAlike a s s' → (same_direction w r' s').value ≡ (same_direction a r s).value
  direction-alike = alike-tests (λ r s. (same_direction w r s).value) (λ r s. (same_direction a r s).value) (direction-scaled a w)

  -- and one order of bounds
  order-alike : (r r' s s' : PlainRow) → IsAlike a r r' → IsAlike a s s' → (bound_order w r' s').value ≡ (bound_order a r s).value
  order-alike = alike-tests (λ r s. (bound_order w r s).value) (λ r s. (bound_order a r s).value) (order-scaled a w)

  -- a row put among others
  placed-alike : (r r' : PlainRow) (ss ss' : PlainPiece) → IsAlike a r r' → AllAlike a ss ss' → AllAlike a (placed a r ss).value (placed w r' ss').value
  placed-alike r r' [] [] h k = (h, tt)
  placed-alike r r' [] (s' ∷ ss') h k = absurd k
  placed-alike r r' (s ∷ ss) [] h k = absurd k
  placed-alike r r' (s ∷ ss) (s' ∷ ss') h k =
      let same = direction-alike r r' s s' h k.0 in
      let o = (bound_order a r s).value in
      by_bool (same_direction a r s).value
      (λ e. let f = same ∙ e in
      let here = subst (λ p. IsAlike a (tighter o s r) (tighter p s' r')) (sym (order-alike r r' s s' h k.0)) (tighter-alike o s s' r r' k.0 h) in rw (e, f) (here, k.1))
      (λ e. let f = same ∙ e in rw (e, f) (k.0, placed-alike r r' ss ss' h k.1))

  -- rows gathered
  gathered-alike : (ks ks' rs rs' : PlainPiece) → AllAlike a ks ks' → AllAlike a rs rs' → AllAlike a (gathered a ks rs).value (gathered w ks' rs').value
  gathered-alike ks ks' [] [] h k = h
  gathered-alike ks ks' [] (r' ∷ rs') h k = absurd k
  gathered-alike ks ks' (r ∷ rs) [] h k = absurd k
  gathered-alike ks ks' (r ∷ rs) (r' ∷ rs') h k = gathered-alike (placed a r ks).value (placed w r' ks').value rs rs' (placed-alike r r' ks ks' k.0 h) k.1

  -- ---- lists
  -- rows that pass a test
  pub filter-alike : (p : PlainRow → Bool) → ((k : Number) → lt nought k ≡ true → (r : PlainRow) → p (scaled_row k r) ≡ p r)
      → (rs ss : PlainPiece) → AllAlike a rs ss → AllAlike a (filter p rs) (filter p ss)
  filter-alike p same [] [] h = tt
  filter-alike p same [] (s ∷ ss) h = absurd h
  filter-alike p same (r ∷ rs) [] h = absurd h
  filter-alike p same (r ∷ rs) (s ∷ ss) h =
      by_bool (p r)
      (λ e. let f = alike-test p same r s h.0 ∙ e in rw (e, f) (h.0, filter-alike p same rs ss h.1))
      (λ e. let f = alike-test p same r s h.0 ∙ e in rw (e, f) (filter-alike p same rs ss h.1))

  -- whether some row passes a test
  any-alike : (p : PlainRow → Bool) → ((k : Number) → lt nought k ≡ true → (r : PlainRow) → p (scaled_row k r) ≡ p r)
      → (rs ss : PlainPiece) → AllAlike a rs ss → any_of p ss ≡ any_of p rs
  any-alike p same [] [] h = refl
  any-alike p same [] (s ∷ ss) h = absurd h
  any-alike p same (r ∷ rs) [] h = absurd h
  any-alike p same (r ∷ rs) (s ∷ ss) h = ap (λ b. b || any_of p ss) (alike-test p same r s h.0) ∙ ap (λ b. p r || b) (any-alike p same rs ss h.1)

  -- ---- trim
  settled-alike : IsLawful a → (rs ss : PlainPiece) → AllAlike a rs ss → AllAlike a (settled a rs).value (settled w ss).value
  settled-alike laws [] [] h = tt
  settled-alike laws [] (s ∷ ss) h = absurd h
  settled-alike laws (r ∷ rs) [] h = absurd h
  settled-alike laws (r ∷ rs) (s ∷ ss) h =
      let false_too = any-alike is_false false-scaled (r ∷ rs) (s ∷ ss) h in
      let p = λ (t : PlainRow). not (is_true t) in
      let kept = filter-alike p (λ k i t. ap not (true-scaled k i t)) (r ∷ rs) (s ∷ ss) h in
      let nothing : IsAlike a (never (length r.coefs)) (never (length s.coefs)) = subst (λ n. IsAlike a (never (length r.coefs)) (never n)) (sym (alike-length r s h.0)) (never-alike a (length r.coefs) laws) in
      by_bool (any_of is_false (r ∷ rs))
      (λ e. let f = false_too ∙ e in rw (e, f) (nothing, tt))
      (λ e. let f = false_too ∙ e in rw (e, f) (gathered-alike [] [] (filter p (r ∷ rs)) (filter p (s ∷ ss)) tt kept))

  -- trim makes alike lists of alike lists
  pub trim-alike : IsLawful a → IsLawful w → (rs ss : PlainPiece) → AllAlike a rs ss → AllAlike a (trim a rs).value (trim w ss).value
  unfolding trim
  trim-alike laws lawful rs ss h = settled-alike laws (each (canon a) rs).value (each (canon w) ss).value (canons-alike laws lawful rs ss h)
