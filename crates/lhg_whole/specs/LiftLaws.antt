-- Why is a lifted row a positive multiple of the row, with whole and coprime entries?
use Rattle.std.proofs.Common.{◌≡◌, ℕ, ◌*◌, ◌/◌, ◌<◌, true, List, [], ◌∷◌, map, length, nat_eq, refl, sym, ap, ◌∙◌, arith, subst}
use Rattle.std.proofs.Math.IntN.{ℤ, pos, ◌*ℤ◌}
use Rattle.std.proofs.Math.Nat.{mul_comm as mul_comm_ℕ, mul_assoc as mul_assoc_ℕ, mul-pos, one-mul, dvd-mul_left, div-mul_cancel, eq_of_mul-eq-mul_right}
use Rattle.std.proofs.lemmas.Bool.{eqb-true}
use Rattle.std.proofs.lemmas.List.{length-map}
use Rattle.std.proofs.lemmas.Nat.Gcd.{dvd_trans, dvd_refl}
use Prim.Native.Nat.{◌∣◌}
use Rattle.lhg_math.specs.Gcd.{gcd}
use Rattle.lhg_math.specs.GcdLemmas.{gcd-left, gcd-right, gcd_comm, right-pos}
use Rattle.lhg_math.specs.Integers.{ring}
use Rattle.lhg_math.specs.Number.{Number, mul, lt, nought, whole, quot}
use Rattle.lhg_math.specs.NumberOrder.{mul_positive}
use Rattle.lhg_math.specs.Quotients.{mul-quot, abs_pos_of_lt, map_mul}
use Rattle.lhg_math.specs.Represents.{rep_self, rep_eq, rep_mul, rep_whole}
use Rattle.lhg_math.specs.Tests.{AllOf, all_of, by_bool}
use Rattle.lhg_num.specs.Arithmetic.{IsMultiple}
use Rattle.lhg_num.specs.FracCanon.{canon_frac}
use Rattle.lhg_num.specs.FracCanon as fractions
use Rattle.lhg_whole.specs.Content.{is_whole, content, canon_whole}
use Rattle.lhg_whole.specs.ContentLaws.{whole-is_whole, content-scaled, some_of, whole_positive, quotients_whole, canon_multiple, canon_held, canon_same}
use Rattle.lhg_whole.specs.Lifting.{lcm, multiple_from, common_multiple, lifted, IsCoprime}

-- ---- the least common multiple
-- the second divides it
pub divides-lcm : (a b : ℕ) → b ∣ lcm a b
divides-lcm a b = dvd-mul_left b (a / gcd a b)

-- the first divides it
pub divides_lcm : (a b : ℕ) → a ∣ lcm a b
divides_lcm a b =
    let g = gcd a b in
    let e : (b / g) * a ≡ lcm a b =
    ap (λ (w : ℕ). (b / g) * w) (sym (gcd-left a b)) ∙ turned (b / g) (a / g) g ∙ ap (λ (w : ℕ). (a / g) * w) (gcd-right a b) in
    subst (λ (w : ℕ). a ∣ w) e (dvd-mul_left a (b / g))
  where
    turned : (x y z : ℕ) → x * (y * z) ≡ y * (x * z)
    turned x y z = sym (mul_assoc_ℕ x y z) ∙ ap (λ (w : ℕ). w * z) (mul_comm_ℕ x y) ∙ mul_assoc_ℕ y x z

-- it is positive where both are
pub lcm-pos : (a b : ℕ) → 0 < a → 0 < b → 0 < lcm a b
lcm-pos a b h k = mul-pos (subst (λ (g : ℕ). 0 < a / g) (gcd_comm b a) (right-pos b a h)) k

-- a number divides each least common multiple that starts from it
pub start_divides : (m : ℕ) (xs : List Number) → m ∣ multiple_from m xs
start_divides m [] = dvd_refl m
start_divides m (x ∷ xs) = dvd_trans m (divides_lcm m x.bottom) (start_divides (lcm m x.bottom) xs)

-- so does each denominator on the way
pub all_divide : (m : ℕ) (xs : List Number) → AllOf (λ x. x.bottom ∣ multiple_from m xs) xs
all_divide m [] = tt
all_divide m (x ∷ xs) = (dvd_trans x.bottom (divides-lcm m x.bottom) (start_divides (lcm m x.bottom) xs), all_divide (lcm m x.bottom) xs)

-- it is positive
pub multiple-pos : (m : ℕ) (xs : List Number) → 0 < m → 0 < multiple_from m xs
multiple-pos m [] h = h
multiple-pos m (x ∷ xs) h = multiple-pos (lcm m x.bottom) xs (lcm-pos m x.bottom h x.lowest.positive)

-- ---- entries times a common multiple
-- a multiple of the denominator makes a whole number
pub times-whole : (m : ℕ) (x : Number) → x.bottom ∣ m → mul (whole (pos m)) x ≡ whole (x.top *ℤ pos (m / x.bottom))
times-whole m x h =
    let q = m / x.bottom in
    rep_eq (rep_mul (rep_whole (pos m)) (rep_self x)) (rep_whole (x.top *ℤ pos q))
    (ap (λ (w : ℕ). (pos w *ℤ x.top) *ℤ pos 1) (sym (div-mul_cancel x.bottom h)) ∙ turned (pos q) (pos x.bottom) x.top)
  where
    turned : (q b t : ℤ) → ((q *ℤ b) *ℤ t) *ℤ pos 1 ≡ (t *ℤ q) *ℤ (pos 1 *ℤ b)
    turned q b t = simp ring

-- a common multiple makes a row of whole numbers
times_held : (m : ℕ) (xs : List Number) → AllOf (λ x. x.bottom ∣ m) xs → all_of is_whole (map (λ x. mul (whole (pos m)) x) xs) ≡ true
times_held m [] h = refl
times_held m (x ∷ xs) h =
    let here : is_whole (mul (whole (pos m)) x) ≡ true = ap is_whole (times-whole m x h.0) ∙ whole-is_whole (x.top *ℤ pos (m / x.bottom)) in
    rw (here, times_held m xs h.1) refl

-- ---- the content of a scaled row
-- a quotient times the divisor is the dividend
times-quot : (s : Number) (xs : List Number) → lt nought s ≡ true → map (λ x. mul s x) (map (λ x. quot x s) xs) ≡ xs
times-quot s [] h = refl
times-quot s (x ∷ xs) h = ap (λ y. y ∷ map (λ z. mul s z) (map (λ z. quot z s) xs)) (mul-quot x s (abs_pos_of_lt s h)) ∙ ap (λ ys. x ∷ ys) (times-quot s xs h)

-- a row of whole numbers is coprime after it was scaled
pub scaled_coprime : (row : List Number) → all_of is_whole row ≡ true → IsCoprime (canon_whole row)
scaled_coprime row w =
    by_bool (nat_eq (content row) 0)
    (λ e. let z : content row ≡ 0 = eqb-true (content row) 0 e in rw e (omega (arith, z)))
    (λ e.
    let g = content row in
    let some = some_of g e in
    let s = whole (pos g) in
    let parts = map (λ x. quot x s) row in
    let held = quotients_whole g row some w (dvd_refl g) in
    let one : content parts ≡ 1 =
    eq_of_mul-eq-mul_right g some (content parts) 1 (sym (content-scaled g parts some held) ∙ ap content (times-quot s row (whole_positive g some)) ∙ sym (one-mul g)) in
    rw e (omega (arith, one)))

-- ---- lifted rows
-- the row before it is scaled
multiplied : List Number → List Number
multiplied row = map (λ x. mul (whole (pos (common_multiple row))) x) row

multiplied_held : (row : List Number) → all_of is_whole (multiplied row) ≡ true
unfolding multiplied
multiplied_held row = times_held (common_multiple row) row (all_divide 1 row)

-- a lifted row is whole
pub lifted_held : (row : List Number) → all_of is_whole (lifted row) ≡ true
unfolding multiplied
lifted_held row = canon_held (multiplied row) (multiplied_held row)

-- a lifted row is a positive multiple
pub lifted_multiple : (row : List Number) → IsMultiple row (lifted row)
unfolding multiplied
lifted_multiple row =
    let s = whole (pos (common_multiple row)) in
    let m = canon_multiple (multiplied row) (multiplied_held row) in
    record {
      factor = mul m.factor s;
      positive = mul_positive m.factor s m.positive (whole_positive (common_multiple row) (multiple-pos 1 row (omega arith)));
      entries = m.entries ∙ map_mul m.factor s (mul m.factor s) row refl;
    }

-- a lifted row is coprime
pub lifted_coprime : (row : List Number) → IsCoprime (lifted row)
unfolding multiplied
lifted_coprime row = scaled_coprime (multiplied row) (multiplied_held row)

-- a lifted row is scaled already
pub lifted-canon : (row : List Number) → canon_whole (lifted row) ≡ lifted row
unfolding multiplied
lifted-canon row =
    let w = multiplied_held row in
    canon_same (multiplied row) (lifted row) w (canon_held (multiplied row) w) (canon_multiple (multiplied row) w)

-- a lifted row has as many entries
pub lifted-length : (row : List Number) → length (lifted row) ≡ length row
lifted-length row = let m = lifted_multiple row in ap length m.entries ∙ length-map row (λ x. mul m.factor x)

-- as fractions it is the row scaled by the rule of fractions
pub lowered-lifted : (row : List Number) → canon_frac (lifted row) ≡ canon_frac row
lowered-lifted row = fractions.canon_same row (lifted row) (lifted_multiple row)
