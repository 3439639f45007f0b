-- Sums and products of fields, and the loops over a row.
use Rattle.std.proofs.Common.{◌≡◌, ℕ, zero, suc, ◌+◌, ◌-◌, ◌<◌, ◌≤◌, ◌^◌, List, [], ◌∷◌, ◌++◌, length, map, take, drop, get_or, refl, sym, ap, ◌∙◌, arith, add-one, subst, to_z, of_z, ℤ, ◌+ℤ◌, ◌*ℤ◌}
use Rattle.std.proofs.Math.ListN.{set}
use Rattle.std.proofs.Math.Nat.{eq-zero-or-pos}
use Rattle.std.proofs.Common.{⊎_elim}
use Rattle.std.specs.Int.{w128}
use Rattle.std.specs.Int.RustNames.{unsigned_abs}
use Rattle.lhg_math.specs.Gcd.{gcd}
use Rattle.lhg_math.specs.GcdLemmas.{gcd-le, gcd-zero}
use Rattle.lhg_math.specs.Number.{whole, add, mul}
use Rattle.lhg_math.specs.Inverses.{whole_parts}
use Rattle.lhg_whole.specs.Content.{content}
use Rattle.lhg_whole.specs.ContentLaws.{add-whole, mul-whole}
use Rattle.lhg_whole.specs.WholeModel.{IsWithin}
use Rattle.lhg_whole.specs.declared.whole.Whole.TheInside.{Inside}
use Rattle.lhg_whole.proofs.Fields.{value_is}
use Rattle.lhg_math.specs.ListFacts.{drop-map_cons}

-- ---- two fields
module _ (f g : Inside) (hf : IsWithin f.value) (hg : IsWithin g.value) (a b : ℤ) (ea : f.value ≡ a) (eb : g.value ≡ b) where
  -- the sum, as the code reads the fields
  pub sum_is : add (whole a) (whole b) ≡ whole (to_z w128 (of_z w128 f.value) +ℤ to_z w128 (of_z w128 g.value))
  sum_is = add-whole a b ∙ ap (λ u. whole (u +ℤ b)) (sym (value_is f hf a ea)) ∙ ap (λ v. whole (to_z w128 (of_z w128 f.value) +ℤ v)) (sym (value_is g hg b eb))

  -- the product
  pub product_is : mul (whole a) (whole b) ≡ whole (to_z w128 (of_z w128 f.value) *ℤ to_z w128 (of_z w128 g.value))
  product_is = mul-whole a b ∙ ap (λ u. whole (u *ℤ b)) (sym (value_is f hf a ea)) ∙ ap (λ v. whole (to_z w128 (of_z w128 f.value) *ℤ v)) (sym (value_is g hg b eb))

-- ---- the content, from the last entry to the first
-- past the last entry nothing is left
pub content-start : (zs : List ℤ) → 0 ≡ content (drop (length zs) (map whole zs))
content-start [] = refl
content-start (z ∷ zs) = content-start zs

-- a divisor of small numbers is small
gcd_small : (a b : ℕ) → a < 2 ^ 127 → b < 2 ^ 127 → gcd a b < 2 ^ 127
gcd_small a b h k =
    ⊎_elim (λ z. subst (λ (n : ℕ). gcd a n < 2 ^ 127) (sym z) (subst (λ (n : ℕ). n < 2 ^ 127) (sym (gcd-zero a)) h)) (λ p. let l = gcd-le a b p in omega arith) (eq-zero-or-pos b)

-- what is known of the entries from place i on
pub record IsContent (zs : List ℤ) (i g : ℕ) : Type 0 where
  pub value : g ≡ content (drop i (map whole zs))
  pub small : g < 2 ^ 127
  pub there : i ≤ length zs

-- one entry more
pub content-step : (zs : List ℤ) (i g : ℕ) (z : ℤ) (r a : ℕ) → IsContent zs i g → 0 < i → z ≡ get_or zs (i - 1) z → a ≡ unsigned_abs z → a < 2 ^ 127 → r ≡ gcd a g → IsContent zs (i - 1) r
content-step zs i g z r a h some is e small rest =
    let l = h.there in
    let k : i - 1 < length zs = omega arith in
    let n : (i - 1) + 1 ≡ i = omega arith in
    let top : unsigned_abs z ≡ unsigned_abs (whole z).top = ap unsigned_abs (sym ((whole_parts z).0)) in
    record {
      value = rest ∙ ap (λ (w : ℕ). gcd a w) (h.value ∙ ap (λ (j : ℕ). content (drop j (map whole zs))) (sym n)) ∙ ap (λ (w : ℕ). gcd w (content (drop ((i - 1) + 1) (map whole zs)))) (e ∙ top) ∙ ap content (sym (drop-map_cons whole zs (i - 1) z is k));
      small = subst (λ (w : ℕ). w < 2 ^ 127) (sym rest) (gcd_small a g small h.small);
      there = omega arith;
    }

-- ---- a row that is divided entry by entry
-- one more entry of a row is done, by recursion on the row
set_step : (f : ℤ → ℤ) (old : List ℤ) (i : ℕ) (x y : ℤ) → i < length old → x ≡ get_or (map f (take i old) ++ drop i old) i x → y ≡ f x
    → set (map f (take i old) ++ drop i old) i y ≡ map f (take (suc i) old) ++ drop (suc i) old
set_step f [] i x y h g k = absurd (omega arith)
set_step f (a ∷ rest) zero x y h g k = ap (λ z. z ∷ rest) (k ∙ ap f g)
set_step f (a ∷ rest) (suc i) x y h g k = ap (λ zs. f a ∷ zs) (set_step f rest i x y (omega arith) g k)

-- the entries below i are done, and then also entry i
pub set-done : (f : ℤ → ℤ) (old row : List ℤ) (i : ℕ) (x y : ℤ) → row ≡ map f (take i old) ++ drop i old → i < length old → x ≡ get_or row i x → y ≡ f (get_or row i x)
    → set row i y ≡ map f (take (i + 1) old) ++ drop (i + 1) old
set-done f old row i x y e h g k =
    rw add-one (ap (λ r. set r i y) e ∙ set_step f old i x y h (g ∙ ap (λ r. get_or r i x) e) (k ∙ ap f (sym g)))
