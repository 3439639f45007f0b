-- From the parts of a product and of a sum to the fraction.
use Rattle.std.proofs.Common.{◌≡◌, ℕ, ℤ, pos, ◌*ℤ◌, ◌+ℤ◌, ◌/◌, ◌*◌, ◌<◌, ◌≤◌, ◌^◌, to_z, of_z, arith, refl, ap, sym, ◌∙◌, subst, true, false, ◌||◌, Bool, Some, None}
use Rattle.std.proofs.Math.Nat.{div-le_self}
use Rattle.std.specs.Int.{w128}
use Rattle.std.specs.Int.RustNames.{unsigned_abs, int_div}
use Rattle.lhg_math.specs.Gcd.{gcd}
use Rattle.lhg_math.specs.Lowest.{IsLowest}
use Rattle.lhg_math.specs.Number.{Number, ratio, mul, add}
use Rattle.lhg_math.specs.Represents.{ratio_parts}
use Rattle.lhg_math.specs.Products.{product_lowest, product_is}
use Rattle.lhg_math.specs.Reduce.{abs-quot}
use Rattle.lhg_math.specs.Sums.{sum_lowest, sum_is}
use Rattle.lhg_math.specs.Tests.{by_bool}
use Rattle.lhg_num.specs.FracModel.{number_of}
use Rattle.lhg_num.specs.Limits.{formed, is_past, frac_refuses_mul, frac_refuses_add}
use Rattle.lhg_num.specs.Parts.{product_parts, both_of, total_parts}
use Rattle.lhg_num.specs.Stored.{IsStored}
use Rattle.lhg_num.specs.declared.fraction.Frac.TheInside.{Inside}
use Rattle.lhg_num.proofs.Fields.{numerator_is, denominator_is}
use Rattle.lhg_num.proofs.Formed.{small, both_some, both_none}
use Rattle.lhg_num.proofs.Made.{Keeps, made_at}

-- the operands were not refused, and the fields t and b, as the code reads them, keep the value
pub record IsResult (refused : Bool) (value : Number) (t b : ℤ) : Type 0 where
  pub kept : refused ≡ false
  pub keeps : Keeps value (to_z w128 (of_z w128 t)) (to_z w128 (of_z w128 b))

-- parts in lowest terms that were formed are a result
result_some : (T : ℤ) (U : ℕ) → IsLowest T U → (v : Number) → ratio T U ≡ v → (t b : ℤ) → Some (t, b) ≡ both_of (formed T) (formed (pos U)) → IsResult (is_past T || is_past (pos U)) v t b
result_some T U l v e t b o =
    let f = both_some T (pos U) t b o in
    let p = ratio_parts T U l in
    let top : T ≡ v.top = sym p.0 ∙ ap (λ q. q.top) e in
    let bottom : U ≡ v.bottom = sym p.1 ∙ ap (λ q. q.bottom) e in
    record {
      kept = rw (f.first, f.second) refl;
      keeps = made_at v _ _ (subst (λ w. unsigned_abs w < 2 ^ 127) top (small T f.first)) (subst (λ w. w < 2 ^ 127) bottom (small (pos U) f.second)) (f.left ∙ top) (f.right ∙ ap (λ (w : ℕ). pos w) bottom);
    }

-- the quotient of a number within the limit is within it
past_part : (s : ℤ) (h : ℕ) → is_past s ≡ false → is_past (int_div s (pos h)) ≡ false
past_part s h e =
    let p = small s e in
    let q : unsigned_abs (int_div s (pos h)) ≤ unsigned_abs s = subst (λ w. w ≤ unsigned_abs s) (sym (abs-quot s h)) (div-le_self (unsigned_abs s) h) in
    let r : unsigned_abs (int_div s (pos h)) < 2 ^ 127 = omega arith in
    grind arith

module _ (x y : Number) where
  -- the formed numbers of a sum
  abbrev g : ℕ
  g = gcd x.bottom y.bottom

  abbrev p : ℤ
  p = x.top *ℤ pos (y.bottom / g)

  abbrev q : ℤ
  q = y.top *ℤ pos (x.bottom / g)

  abbrev h : ℕ
  h = gcd (unsigned_abs (p +ℤ q)) g

  abbrev bottom : ℕ
  bottom = (x.bottom / g) * (y.bottom / h)

  -- the formed parts of a sum
  sum_some_at : (t b : ℤ) → Some (t, b) ≡ total_parts x.top (pos x.bottom) y.top (pos y.bottom) → IsResult (frac_refuses_add x y) (add x y) t b
  sum_some_at t b o =
      by_bool (is_past p) (λ e. let z : Some (t, b) ≡ None = rw e at o in cc)
      (λ e. by_bool (is_past q) (λ f. let z : Some (t, b) ≡ None = rw (e, f) at o in cc)
      (λ f. by_bool (is_past (p +ℤ q)) (λ s. let z : Some (t, b) ≡ None = rw (e, f, s) at o in cc)
      (λ s. let v : Some (t, b) ≡ both_of (formed (int_div (p +ℤ q) (pos h))) (formed (pos bottom)) = (rw (e, f, s) at o) ∙ rw (past_part (p +ℤ q) h s) refl in
      let r = result_some (int_div (p +ℤ q) (pos h)) bottom (sum_lowest x.top y.top x.bottom y.bottom x.lowest y.lowest) (add x y) (sum_is x.top y.top x.bottom y.bottom x.lowest y.lowest x y refl refl refl refl) t b v in
      let k : is_past (pos bottom) ≡ false = rw (past_part (p +ℤ q) h s) at r.kept in
      record { kept = rw (e, f, s, k) refl; keeps = r.keeps })))

  -- where a part of a sum was not formed, the operands are refused
  sum_none_at : None ≡ total_parts x.top (pos x.bottom) y.top (pos y.bottom) → frac_refuses_add x y ≡ true
  sum_none_at o =
      by_bool (is_past p) (λ e. rw e refl)
      (λ e. by_bool (is_past q) (λ f. rw (e, f) refl)
      (λ f. by_bool (is_past (p +ℤ q)) (λ s. rw (e, f, s) refl)
      (λ s. by_bool (is_past (pos bottom)) (λ k. rw (e, f, s, k) refl)
      (λ k. let z : None ≡ Some (int_div (p +ℤ q) (pos h), pos bottom) = rw (e, f, s, k) at o in cc))))

module _ (f g : Inside) (hf : IsStored f.numerator f.denominator) (hg : IsStored g.numerator g.denominator) (x y : Number) (ex : number_of f ≡ x) (ey : number_of g ≡ y) where
  -- the parts of the product, as the code reads the fields
  product_same : product_parts (to_z w128 (of_z w128 f.numerator)) (to_z w128 (of_z w128 f.denominator)) (to_z w128 (of_z w128 g.numerator)) (to_z w128 (of_z w128 g.denominator)) ≡ product_parts x.top (pos x.bottom) y.top (pos y.bottom)
  product_same = rw (numerator_is f hf x ex, denominator_is f hf x ex, numerator_is g hg y ey, denominator_is g hg y ey) refl

  -- the formed parts of the product are its result
  pub product_some : (t b : ℤ) → Some (t, b) ≡ product_parts (to_z w128 (of_z w128 f.numerator)) (to_z w128 (of_z w128 f.denominator)) (to_z w128 (of_z w128 g.numerator)) (to_z w128 (of_z w128 g.denominator)) → IsResult (frac_refuses_mul x y) (mul x y) t b
  product_some t b o =
      result_some _ _ (product_lowest x.top y.top x.bottom y.bottom x.lowest y.lowest) (mul x y) (product_is x.top y.top x.bottom y.bottom x.lowest y.lowest x y refl refl refl refl) t b (o ∙ product_same)

  -- where a part of the product was not formed, the operands are refused
  pub product_none : None ≡ product_parts (to_z w128 (of_z w128 f.numerator)) (to_z w128 (of_z w128 f.denominator)) (to_z w128 (of_z w128 g.numerator)) (to_z w128 (of_z w128 g.denominator)) → frac_refuses_mul x y ≡ true
  product_none o = both_none (int_div x.top (pos (gcd (unsigned_abs x.top) y.bottom)) *ℤ int_div y.top (pos (gcd (unsigned_abs y.top) x.bottom))) (pos ((x.bottom / gcd (unsigned_abs y.top) x.bottom) * (y.bottom / gcd (unsigned_abs x.top) y.bottom))) (o ∙ product_same)

  -- the parts of the sum, as the code reads the fields
  sum_same : total_parts (to_z w128 (of_z w128 f.numerator)) (to_z w128 (of_z w128 f.denominator)) (to_z w128 (of_z w128 g.numerator)) (to_z w128 (of_z w128 g.denominator)) ≡ total_parts x.top (pos x.bottom) y.top (pos y.bottom)
  sum_same = rw (numerator_is f hf x ex, denominator_is f hf x ex, numerator_is g hg y ey, denominator_is g hg y ey) refl

  -- the formed parts of the sum are its result
  pub sum_some : (t b : ℤ) → Some (t, b) ≡ total_parts (to_z w128 (of_z w128 f.numerator)) (to_z w128 (of_z w128 f.denominator)) (to_z w128 (of_z w128 g.numerator)) (to_z w128 (of_z w128 g.denominator)) → IsResult (frac_refuses_add x y) (add x y) t b
  sum_some t b o = sum_some_at x y t b (o ∙ sum_same)

  -- where a part of the sum was not formed, the operands are refused
  pub sum_none : None ≡ total_parts (to_z w128 (of_z w128 f.numerator)) (to_z w128 (of_z w128 f.denominator)) (to_z w128 (of_z w128 g.numerator)) (to_z w128 (of_z w128 g.denominator)) → frac_refuses_add x y ≡ true
  sum_none o = sum_none_at x y (o ∙ sum_same)
