-- From the parts of a number to the fraction that keeps them.
use Rattle.std.proofs.Common.{◌≡◌, ℕ, ℤ, pos, negsuc, ◌<◌, ◌^◌, ◌/◌, arith, refl, ap, sym, ◌∙◌, subst, false, to_z, of_z, FitsSigned}
use Rattle.std.proofs.lemmas.Int.{ints, to_z-of_z}
use Rattle.std.specs.Int.{w64, w128}
use Rattle.std.specs.Int.RustNames.{unsigned_abs, int_div}
use Rattle.lhg_math.specs.Gcd.{gcd}
use Rattle.lhg_math.specs.Number.{Number, ratio, whole, half, inverse, quot, flip_sign}
use Rattle.lhg_math.specs.Represents.{ratio_self}
use Rattle.std.proofs.Math.Nat.{div-le_self}
use Rattle.lhg_math.specs.Reduce.{abs-quot}
use Rattle.lhg_math.specs.Inverses.{whole_parts, half_parts, inverse_parts, abs-flip_sign, ratio_top, ratio_bottom, quot-whole}
use Rattle.std.specs.Ordering.{int_eq}
use Rattle.std.proofs.lemmas.Bool.Decides.{Decides-int_eq}
use Rattle.std.proofs.Common.{◌||◌}
use Rattle.lhg_math.specs.Tests.{by_bool}
use Rattle.lhg_num.specs.Limits.{is_past}
use Rattle.lhg_num.specs.Parts.{lowest_parts}
use Rattle.lhg_num.specs.Stored.{IsStored}
use Rattle.lhg_num.specs.FracModel.{number_of}
use Rattle.lhg_num.specs.declared.fraction.Frac.TheInside.{Inside}
use Rattle.lhg_num.proofs.Fields.{fits_abs, top_is, bottom_is, numerator_is, denominator_is}
use Rattle.lhg_math.specs.Signs.{is_nought}
use Rattle.lhg_math.specs.SignLaws.{abs_pos}

-- the two fields keep the number
pub record Keeps (q : Number) (t b : ℤ) : Type 0 where
  pub stored : IsStored t b
  pub same : number_of (record { numerator = t; denominator = b }) ≡ q

-- parts within the limit keep their number
pub made : (q : Number) → unsigned_abs q.top < 2 ^ 127 → q.bottom < 2 ^ 127 → Keeps q q.top (pos q.bottom)
made q h k = record {
  stored = record { above = let p = q.lowest.positive in omega (arith, ints); in_range = h; below = k; lowest = q.lowest };
  same = ratio_self q;
}

-- the same for fields that are equal to the parts
pub made_at : (q : Number) (t b : ℤ) → unsigned_abs q.top < 2 ^ 127 → q.bottom < 2 ^ 127 → t ≡ q.top → b ≡ pos q.bottom → Keeps q t b
made_at q t b h k e f = subst (λ w. Keeps q w b) (sym e) (subst (λ w. Keeps q q.top w) (sym f) (made q h k))

-- a number of 64 bits is within the limit
small_whole : (n : ℤ) → FitsSigned w64 n → unsigned_abs n < 2 ^ 127
small_whole (pos n) h = let k = h.sfits in omega (arith, ints)
small_whole (negsuc n) h = let k = h.sfits in omega (arith, ints)

-- a whole number of 64 bits, as the code casts it
pub whole_made : (n : ℤ) → FitsSigned w64 n → Keeps (whole n) (to_z w128 (of_z w128 (to_z w64 (of_z w64 n)))) (pos 1)
whole_made n h =
    let p = whole_parts n in
    let s = small_whole n h in
    let e : to_z w128 (of_z w128 (to_z w64 (of_z w64 n))) ≡ n = ap (λ w. to_z w128 (of_z w128 w)) (to_z-of_z w64 n h) ∙ to_z-of_z w128 n (fits_abs n s) in
    made_at (whole n) _ (pos 1) (subst (λ w. unsigned_abs w < 2 ^ 127) (sym p.0) s) (subst (λ w. w < 2 ^ 127) (sym p.1) (omega arith)) (e ∙ sym p.0) (ap (λ (w : ℕ). pos w) (sym p.1))

-- the fields 1 and 2 keep 1/2
pub half_made : Keeps half (pos 1) (pos 2)
half_made =
    let p = half_parts in
    made_at half (pos 1) (pos 2) (subst (λ w. unsigned_abs w < 2 ^ 127) (sym p.0) (omega arith)) (subst (λ w. w < 2 ^ 127) (sym p.1) (omega arith)) (sym p.0) (ap (λ (w : ℕ). pos w) (sym p.1))

-- the same, as the code reads the parts
pub keeps_coded : (q : Number) (t b : ℤ) → Keeps q t b → Keeps q (to_z w128 (of_z w128 t)) (to_z w128 (of_z w128 b))
keeps_coded q t b h =
    subst (λ w. Keeps q w (to_z w128 (of_z w128 b))) (sym (to_z-of_z w128 t (fits_abs t h.stored.in_range)))
    (subst (λ w. Keeps q t w) (sym (to_z-of_z w128 b (fits_abs b h.stored.below))) h)

-- the quotient of a number within the limit is within it
part_below : (n : ℤ) (g : ℕ) → unsigned_abs n < 2 ^ 127 → unsigned_abs (int_div n (pos g)) < 2 ^ 127
part_below n g h = let k = div-le_self (unsigned_abs n) g in subst (λ w. w < 2 ^ 127) (sym (abs-quot n g)) (omega arith)

-- a quotient of whole numbers within the limit, in lowest terms
pub quot_made : (n d : ℤ) → 0 < unsigned_abs d → unsigned_abs n < 2 ^ 127 → unsigned_abs d < 2 ^ 127 → (p : ℤ × ℤ) → p ≡ lowest_parts n d → Keeps (quot (whole n) (whole d)) p.0 p.1
quot_made n d some h k p e =
    let t = flip_sign d n in
    let b = unsigned_abs d in
    let g = gcd (unsigned_abs t) b in
    let top = ratio_top t b some in
    let bottom = ratio_bottom t b some in
    let small : unsigned_abs t < 2 ^ 127 = subst (λ w. w < 2 ^ 127) (sym (abs-flip_sign d n)) h in
    let low : b / g < 2 ^ 127 = let w = div-le_self b g in omega arith in
    subst (λ q. Keeps q p.0 p.1) (sym (quot-whole n d some))
    (made_at (ratio t b) p.0 p.1
    (subst (λ w. unsigned_abs w < 2 ^ 127) (sym top) (part_below t g small))
    (subst (λ w. w < 2 ^ 127) (sym bottom) low)
    (ap (λ (w : ℤ × ℤ). w.0) e ∙ sym top)
    (ap (λ (w : ℤ × ℤ). w.1) e ∙ ap (λ (w : ℕ). pos w) (sym bottom)))

-- the fields of a number that is not 0, the other way round, keep its inverse
pub inverse_fields : (f : Inside) → IsStored f.numerator f.denominator → (q : Number) → number_of f ≡ q → is_nought q ≡ false
    → (p : ℤ × ℤ) → p ≡ (flip_sign (to_z w128 (of_z w128 f.numerator)) (to_z w128 (of_z w128 f.denominator)), pos (unsigned_abs (to_z w128 (of_z w128 f.numerator)))) → Keeps (inverse q) (to_z w128 (of_z w128 p.0)) (to_z w128 (of_z w128 p.1))
inverse_fields f h q v z p e =
    let n = numerator_is f h q v in
    let d = denominator_is f h q v in
    let some : 0 < unsigned_abs q.top = abs_pos q z in
    let high : unsigned_abs q.top < 2 ^ 127 = subst (λ w. unsigned_abs w < 2 ^ 127) (top_is f h q v) h.in_range in
    let low : q.bottom < 2 ^ 127 = subst (λ w. unsigned_abs w < 2 ^ 127) (bottom_is f h q v) h.below in
    let w = inverse_parts q some in
    let e2 : p ≡ (flip_sign q.top (pos q.bottom), pos (unsigned_abs q.top)) = e ∙ rw (n, d) refl in
    keeps_coded (inverse q) p.0 p.1
    (made_at (inverse q) p.0 p.1
    (subst (λ w. unsigned_abs w < 2 ^ 127) (sym w.0) (subst (λ w. w < 2 ^ 127) (sym (abs-flip_sign q.top (pos q.bottom))) low))
    (subst (λ w. w < 2 ^ 127) (sym w.1) high)
    (ap (λ (w : ℤ × ℤ). w.0) e2 ∙ sym w.0) (ap (λ (w : ℤ × ℤ). w.1) e2 ∙ ap (λ (w : ℕ). pos w) (sym w.1)))

-- the same from what the code is given
pub new_keeps : (n d : ℤ) → 0 < unsigned_abs d → unsigned_abs n < 2 ^ 127 → unsigned_abs d < 2 ^ 127 → (p : ℤ × ℤ) → p ≡ lowest_parts (to_z w128 (of_z w128 n)) (to_z w128 (of_z w128 d))
    → Keeps (quot (whole n) (whole d)) (to_z w128 (of_z w128 p.0)) (to_z w128 (of_z w128 p.1))
new_keeps n d some h k p e =
    keeps_coded _ _ _ (quot_made n d some h k p
    (e ∙ ap (λ w. lowest_parts w (to_z w128 (of_z w128 d))) (to_z-of_z w128 n (fits_abs n h)) ∙ ap (lowest_parts n) (to_z-of_z w128 d (fits_abs d k))))

-- a number with a size is not 0
pub not_zero : (d : ℤ) → 0 < unsigned_abs d → int_eq d (pos 0) ≡ false
not_zero d h = by_bool (int_eq d (pos 0)) (λ e. let z : d ≡ pos 0 = (Decides-int_eq d (pos 0)).0 e in let w : 0 < 0 = subst (λ x. 0 < unsigned_abs x) z h in absurd (omega arith)) (λ e. e)

-- two numbers within the limit are not past it
pub within : (n d : ℤ) → unsigned_abs n < 2 ^ 127 → unsigned_abs d < 2 ^ 127 → (is_past n || is_past d) ≡ false
within n d h k = grind arith
