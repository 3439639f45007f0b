-- Why does division by the content make one row of all positive multiples of a row of whole numbers?
use Rattle.std.proofs.Common.{◌≡◌, ℕ, zero, suc, ◌*◌, ◌<◌, ◌≤◌, true, false, cond, List, [], ◌∷◌, map, nat_eq, refl, sym, ap, ◌∙◌, arith, subst}
use Rattle.std.proofs.Math.IntN.{ℤ, pos, negsuc, ◌+ℤ◌, ◌*ℤ◌}
use Rattle.std.proofs.Math.Nat.{mul_comm as mul_comm_ℕ, mul-pos, zero-mul, div-mul_cancel, eq-zero_of_zero-dvd}
use Rattle.std.proofs.lemmas.Nat.Gcd.{dvd_trans, dvd_refl}
use Rattle.std.specs.Int.RustNames.{unsigned_abs, int_div, int_lt}
use Rattle.std.proofs.lemmas.Int.{ints, unsigned_abs-mul}
use Rattle.std.proofs.lemmas.Bool.{and_parts, eqb-true, eq-eqb}
use Rattle.std.proofs.Math.Dec.{eqb-suc-zero}
use Prim.Native.Nat.{◌∣◌}
use Rattle.lhg_math.specs.Gcd.{gcd}
use Rattle.lhg_math.specs.GcdLemmas.{gcd_is, gcd-scaled}
use Rattle.lhg_math.specs.Integers.{ring, int_lt-yes}
use Rattle.lhg_math.specs.Number.{Number, add, mul, neg, lt, nought, unit, whole, inverse, quot}
use Rattle.lhg_math.specs.NumberRing.{mul_comm, mul_assoc, mul-unit, mul-nought, mul_one_ℤ}
use Rattle.lhg_math.specs.NumberOrder.{rep_lt, mul_cancel, positive_top, lt-mul, nought_unit, mul_positive}
use Rattle.lhg_math.specs.Represents.{number_ext, rep_self, rep_eq, rep_add, rep_mul, rep_whole, rep_nought, quot_times}
use Rattle.lhg_math.specs.Inverses.{whole_parts}
use Rattle.lhg_math.specs.Quotients.{mul-inverse, mul-quot, quot-is, abs_pos_of_lt}
use Rattle.lhg_math.specs.Tests.{all_of, by_bool, false_true}
use Rattle.lhg_num.specs.Arithmetic.{IsMultiple, multiple_self}
use Rattle.lhg_whole.specs.Content.{is_whole, content, canon_whole}
use Rattle.lhg_math.specs.Quotients.{map-quot, inverse_positive, inverse_scaled, map_mul}

-- ---- whole numbers
-- a whole number is its numerator
pub whole-top : (x : Number) → is_whole x ≡ true → x ≡ whole x.top
whole-top x h = let w = whole_parts x.top in number_ext x (whole x.top) (sym w.0) (eqb-true x.bottom 1 h ∙ sym w.1)

-- and each numerator makes one
pub whole-is_whole : (n : ℤ) → is_whole (whole n) ≡ true
whole-is_whole n = eq-eqb (whole n).bottom 1 ((whole_parts n).1)

-- sums of whole numbers
pub add-whole : (a b : ℤ) → add (whole a) (whole b) ≡ whole (a +ℤ b)
add-whole a b = rep_eq (rep_add (rep_whole a) (rep_whole b)) (rep_whole (a +ℤ b)) (ap (λ w. (w +ℤ b *ℤ pos 1) *ℤ pos 1) (mul_one_ℤ a) ∙ ap (λ w. (a +ℤ w) *ℤ pos 1) (mul_one_ℤ b))

-- products of whole numbers
pub mul-whole : (a b : ℤ) → mul (whole a) (whole b) ≡ whole (a *ℤ b)
mul-whole a b = rep_eq (rep_mul (rep_whole a) (rep_whole b)) (rep_whole (a *ℤ b)) refl

-- 0 is whole
pub nought_whole : is_whole nought ≡ true
unfolding nought
nought_whole = whole-is_whole (pos 0)

-- 1 is whole
pub unit_whole : is_whole unit ≡ true
unfolding unit
unit_whole = whole-is_whole (pos 1)

-- sums are whole
pub add_whole : (x y : Number) → is_whole x ≡ true → is_whole y ≡ true → is_whole (add x y) ≡ true
add_whole x y h k = ap (λ u. is_whole (add u y)) (whole-top x h) ∙ ap (λ v. is_whole (add (whole x.top) v)) (whole-top y k) ∙ ap is_whole (add-whole x.top y.top) ∙ whole-is_whole (x.top +ℤ y.top)

-- products are whole
pub mul_whole : (x y : Number) → is_whole x ≡ true → is_whole y ≡ true → is_whole (mul x y) ≡ true
mul_whole x y h k = ap (λ u. is_whole (mul u y)) (whole-top x h) ∙ ap (λ v. is_whole (mul (whole x.top) v)) (whole-top y k) ∙ ap is_whole (mul-whole x.top y.top) ∙ whole-is_whole (x.top *ℤ y.top)

-- negatives are whole
pub neg_whole : (x : Number) → is_whole x ≡ true → is_whole (neg x) ≡ true
unfolding neg
neg_whole x h = h

-- a positive number is above 0
pub whole_positive : (n : ℕ) → 0 < n → lt nought (whole (pos n)) ≡ true
whole_positive zero h = absurd (omega arith)
whole_positive (suc n) h =
    rep_lt rep_nought (rep_whole (pos (suc n))) ∙ ap (λ w. int_lt w (pos (suc n) *ℤ pos 1)) (mul_one_ℤ (pos 0)) ∙ ap (int_lt (pos 0)) (mul_one_ℤ (pos (suc n)))
    ∙ int_lt-yes (pos 0) (pos (suc n)) (omega (arith, ints))

-- ---- the content
-- a factor comes out of the content
pub content-scaled : (k : ℕ) (xs : List Number) → 0 < k → all_of is_whole xs ≡ true → content (map (λ x. mul (whole (pos k)) x) xs) ≡ content xs * k
content-scaled k [] h w = sym (zero-mul k)
content-scaled k (x ∷ xs) h w =
    let p = and_parts (is_whole x) (all_of is_whole xs) w in
    let m : mul (whole (pos k)) x ≡ whole (pos k *ℤ x.top) = ap (λ u. mul (whole (pos k)) u) (whole-top x p.0) ∙ mul-whole (pos k) x.top in
    let t : (mul (whole (pos k)) x).top ≡ pos k *ℤ x.top = ap (λ (u : Number). u.top) m ∙ (whole_parts (pos k *ℤ x.top)).0 in
    let a : unsigned_abs (mul (whole (pos k)) x).top ≡ unsigned_abs x.top * k = ap unsigned_abs t ∙ unsigned_abs-mul (pos k) x.top ∙ mul_comm_ℕ k (unsigned_abs x.top) in
    ap (λ (u : ℕ). gcd u (content (map (λ y. mul (whole (pos k)) y) xs))) a ∙ ap (λ (v : ℕ). gcd (unsigned_abs x.top * k) v) (content-scaled k xs h p.1) ∙ gcd-scaled (unsigned_abs x.top) (content xs) k h

-- 0 as a whole number
pub zero_is : whole (pos 0) ≡ nought
unfolding nought
zero_is = refl

-- where the content is 0 all entries are
content_nothing : (f : Number) (xs : List Number) → all_of is_whole xs ≡ true → content xs ≡ 0 → map (λ x. mul f x) xs ≡ xs
content_nothing f [] w z = refl
content_nothing f (x ∷ xs) w z =
    let p = and_parts (is_whole x) (all_of is_whole xs) w in
    let g = gcd_is (unsigned_abs x.top) (content xs) in
    let a : unsigned_abs x.top ≡ 0 = eq-zero_of_zero-dvd (subst (λ (u : ℕ). u ∣ unsigned_abs x.top) z g.0) in
    let b : content xs ≡ 0 = eq-zero_of_zero-dvd (subst (λ (u : ℕ). u ∣ content xs) z g.1) in
    let is : x ≡ nought = whole-top x p.0 ∙ ap whole (no_size x.top a) ∙ zero_is in
    ap (λ u. mul f u ∷ map (λ y. mul f y) xs) is ∙ ap (λ u. u ∷ map (λ y. mul f y) xs) (mul-nought f ∙ sym is) ∙ ap (λ ys. x ∷ ys) (content_nothing f xs p.1 b)
  where
    no_size : (n : ℤ) → unsigned_abs n ≡ 0 → n ≡ pos 0
    no_size (pos a) h = ap pos h
    no_size (negsuc a) h = absurd (omega arith)

-- a number other than 0 is positive
pub some_of : (n : ℕ) → nat_eq n 0 ≡ false → 0 < n
some_of zero h = false_true (sym h)
some_of (suc n) h = omega arith

-- an exact quotient of whole numbers
pub quot-whole_is : (g : ℕ) (x : Number) → 0 < g → is_whole x ≡ true → g ∣ unsigned_abs x.top → quot x (whole (pos g)) ≡ whole (int_div x.top (pos g))
quot-whole_is g x h w d =
    let t = int_div x.top (pos g) in
    let e : t *ℤ pos g ≡ x.top = quot_times x.top g (div-mul_cancel g d) in
    let up = whole_positive g h in
    let m : mul (whole (pos g)) (quot x (whole (pos g))) ≡ mul (whole (pos g)) (whole t) =
    mul-quot x (whole (pos g)) (abs_pos_of_lt (whole (pos g)) up) ∙ whole-top x w ∙ ap whole (sym e) ∙ sym (mul-whole t (pos g)) ∙ mul_comm (whole t) (whole (pos g)) in
    mul_cancel (whole (pos g)) (quot x (whole (pos g))) (whole t) up m

-- a divisor of the content leaves whole entries
pub quotients_whole : (g : ℕ) (xs : List Number) → 0 < g → all_of is_whole xs ≡ true → g ∣ content xs → all_of is_whole (map (λ x. quot x (whole (pos g))) xs) ≡ true
quotients_whole g [] h w d = refl
quotients_whole g (x ∷ xs) h w d =
    let p = and_parts (is_whole x) (all_of is_whole xs) w in
    let c = gcd_is (unsigned_abs x.top) (content xs) in
    let left : g ∣ unsigned_abs x.top = dvd_trans g d c.0 in
    let here : is_whole (quot x (whole (pos g))) ≡ true = ap is_whole (quot-whole_is g x h p.0 left) ∙ whole-is_whole (int_div x.top (pos g)) in
    rw (here, quotients_whole g xs h p.1 (dvd_trans g d c.1)) refl

-- the quotients of a row of whole numbers by a divisor of its content
pub quotients-are : (g : ℕ) (zs : List ℤ) → 0 < g → g ∣ content (map whole zs) → map whole (map (λ z. int_div z (pos g)) zs) ≡ map (λ x. quot x (whole (pos g))) (map whole zs)
quotients-are g [] h d = refl
quotients-are g (z ∷ zs) h d =
    let c = gcd_is (unsigned_abs (whole z).top) (content (map whole zs)) in
    let q = quot-whole_is g (whole z) h (whole-is_whole z) (dvd_trans g d c.0) in
    ap (λ y. y ∷ map whole (map (λ w. int_div w (pos g)) zs)) (ap (λ t. whole (int_div t (pos g))) (sym ((whole_parts z).0)) ∙ sym q)
    ∙ ap (λ ys. quot (whole z) (whole (pos g)) ∷ ys) (quotients-are g zs h (dvd_trans g d c.1))

-- 1 as a whole number
pub one_is : whole (pos 1) ≡ unit
unfolding unit
one_is = refl

-- a quotient by 1
pub quot-one : (x : Number) → quot x (whole (pos 1)) ≡ x
quot-one x =
    let up = whole_positive 1 (omega arith) in
    let m : mul (whole (pos 1)) (quot x (whole (pos 1))) ≡ x = mul-quot x (whole (pos 1)) (abs_pos_of_lt (whole (pos 1)) up) in
    sym (mul-unit (quot x (whole (pos 1)))) ∙ mul_comm (quot x (whole (pos 1))) unit ∙ ap (λ u. mul u (quot x (whole (pos 1)))) (sym one_is) ∙ m

-- quotients by 1
pub quots-one : (xs : List Number) → map (λ x. quot x (whole (pos 1))) xs ≡ xs
quots-one [] = refl
quots-one (x ∷ xs) = ap (λ y. y ∷ map (λ z. quot z (whole (pos 1))) xs) (quot-one x) ∙ ap (λ ys. x ∷ ys) (quots-one xs)

-- a row divided by its content is scaled
pub scaled_by : (zs : List ℤ) (g : ℕ) → g ≡ content (map whole zs) → 0 < g → map whole (map (λ z. int_div z (pos g)) zs) ≡ canon_whole (map whole zs)
scaled_by zs g e h =
    let n : nat_eq (content (map whole zs)) 0 ≡ false = not_zero (content (map whole zs)) (subst (λ (k : ℕ). 0 < k) e h) in
    quotients-are g zs h (subst (λ (k : ℕ). g ∣ k) e (dvd_refl g)) ∙ ap (λ (k : ℕ). map (λ x. quot x (whole (pos k))) (map whole zs)) e
    ∙ rw n refl
  where
    not_zero : (k : ℕ) → 0 < k → nat_eq k 0 ≡ false
    not_zero zero h = absurd (omega arith)
    not_zero (suc k) h = eqb-suc-zero k

-- a row whose content is at most 1 is scaled
pub scaled_already : (zs : List ℤ) (g : ℕ) → g ≡ content (map whole zs) → g ≤ 1 → map whole zs ≡ canon_whole (map whole zs)
scaled_already zs g e h =
    by_bool (nat_eq (content (map whole zs)) 0)
    (λ n. rw n refl)
    (λ n.
    let one : content (map whole zs) ≡ 1 = (let k = some_of (content (map whole zs)) n in omega arith) in
    rw n (sym (ap (λ (k : ℕ). map (λ x. quot x (whole (pos k))) (map whole zs)) one ∙ quots-one (map whole zs))))

-- ---- the laws of scaling
-- a scaled row is a positive multiple
pub canon_multiple : (row : List Number) → all_of is_whole row ≡ true → IsMultiple row (canon_whole row)
canon_multiple row w =
    by_bool (nat_eq (content row) 0)
    (λ e. rw e (multiple_self row))
    (λ e. record { factor = inverse (whole (pos (content row))); positive = inverse_positive (whole (pos (content row))) (whole_positive (content row) (some_of (content row) e)); entries = rw e (map-quot (whole (pos (content row))) row) })

-- a scaled row is whole
pub canon_held : (row : List Number) → all_of is_whole row ≡ true → all_of is_whole (canon_whole row) ≡ true
canon_held row w =
    by_bool (nat_eq (content row) 0)
    (λ e. rw e w)
    (λ e. rw e (quotients_whole (content row) row (some_of (content row) e) w (dvd_refl (content row))))

-- a factor is the quotient of the contents: over the whole numbers q and p that it is a quotient of
record IsQuotient (f : Number) : Type 0 where
  top : ℕ
  bottom : ℕ
  some : 0 < bottom
  above : 0 < top
  is : mul (whole (pos bottom)) f ≡ whole (pos top)

quotient_of : (f : Number) → lt nought f ≡ true → IsQuotient f
quotient_of f h =
    let k = positive_top f h in
    record {
      top = suc k.0;
      bottom = f.bottom;
      some = f.lowest.positive;
      above = omega arith;
      is = rep_eq (rep_mul (rep_whole (pos f.bottom)) (rep_self f)) (rep_whole (pos (suc k.0))) (ap (λ w. (pos f.bottom *ℤ w) *ℤ pos 1) k.1 ∙ turned f.bottom (pos (suc k.0)));
    }
  where
    turned : (b : ℕ) (t : ℤ) → (pos b *ℤ t) *ℤ pos 1 ≡ t *ℤ (pos 1 *ℤ pos b)
    turned b t = simp ring

-- the contents of a row and of its multiple
contents : (f : Number) (q : IsQuotient f) (old : List Number) → all_of is_whole old ≡ true → all_of is_whole (map (λ x. mul f x) old) ≡ true
    → content (map (λ x. mul f x) old) * q.bottom ≡ content old * q.top
contents f q old w v =
    sym (content-scaled q.bottom (map (λ x. mul f x) old) q.some v) ∙ ap content (map_mul (whole (pos q.bottom)) f (whole (pos q.top)) old q.is) ∙ content-scaled q.top old q.above w

-- so the content of the multiple is the multiple of the content
content-multiple : (f : Number) → lt nought f ≡ true → (old : List Number) → all_of is_whole old ≡ true → all_of is_whole (map (λ x. mul f x) old) ≡ true
    → whole (pos (content (map (λ x. mul f x) old))) ≡ mul f (whole (pos (content old)))
content-multiple f h old w v =
    let q = quotient_of f h in
    let c = content old in
    let d = content (map (λ x. mul f x) old) in
    let b = whole (pos q.bottom) in
    let left : mul b (whole (pos d)) ≡ whole (pos (d * q.bottom)) = mul-whole (pos q.bottom) (pos d) ∙ ap (λ (n : ℕ). whole (pos n)) (mul_comm_ℕ q.bottom d) in
    let right : mul b (mul f (whole (pos c))) ≡ whole (pos (c * q.top)) = sym (mul_assoc b f (whole (pos c))) ∙ ap (λ u. mul u (whole (pos c))) q.is ∙ mul-whole (pos q.top) (pos c) ∙ ap (λ (n : ℕ). whole (pos n)) (mul_comm_ℕ q.top c) in
    mul_cancel b (whole (pos d)) (mul f (whole (pos c))) (whole_positive q.bottom q.some) (left ∙ ap (λ (n : ℕ). whole (pos n)) (contents f q old w v) ∙ sym right)

-- the content of a multiple is 0 where the content is
content_zero : (f : Number) → lt nought f ≡ true → (old : List Number) → all_of is_whole old ≡ true → all_of is_whole (map (λ x. mul f x) old) ≡ true
    → nat_eq (content (map (λ x. mul f x) old)) 0 ≡ nat_eq (content old) 0
content_zero f h old w v =
    let q = quotient_of f h in
    same_zero (content (map (λ x. mul f x) old)) (content old) q.bottom q.top q.some q.above (contents f q old w v)
  where
    same_zero : (d c b t : ℕ) → 0 < b → 0 < t → d * b ≡ c * t → nat_eq d 0 ≡ nat_eq c 0
    same_zero zero zero b t h k e = refl
    same_zero zero (suc c) b t h k e = let m = mul-pos {m = suc c} {n = t} (omega arith) k in absurd (omega (arith, zero-mul b))
    same_zero (suc d) zero b t h k e = let m = mul-pos {m = suc d} {n = b} (omega arith) h in absurd (omega (arith, zero-mul t))
    same_zero (suc d) (suc c) b t h k e = eqb-suc-zero d ∙ sym (eqb-suc-zero c)

-- all positive multiples of a row are scaled to the same row
pub canon_same : (old new : List Number) → all_of is_whole old ≡ true → all_of is_whole new ≡ true → IsMultiple old new → canon_whole new ≡ canon_whole old
canon_same old new w v m =
    let f = m.factor in
    let row = map (λ x. mul f x) old in
    let u : all_of is_whole row ≡ true = subst (λ (r : List Number). all_of is_whole r ≡ true) m.entries v in
    ap canon_whole m.entries
    ∙ ap (λ z. cond z row (map (λ x. quot x (whole (pos (content row)))) row)) (content_zero f m.positive old w u)
    ∙ by_bool (nat_eq (content old) 0)
    (λ e. rw e (content_nothing f old w (eqb-true (content old) 0 e)))
    (λ e. rw e (
    let s = whole (pos (content old)) in
    let up : lt nought s ≡ true = whole_positive (content old) (some_of (content old) e) in
    ap (λ d. map (λ x. quot x d) row) (content-multiple f m.positive old w u) ∙ map-quot (mul f s) row ∙ map_mul (inverse (mul f s)) f (inverse s) old (inverse_scaled f s m.positive up) ∙ sym (map-quot s old)))
