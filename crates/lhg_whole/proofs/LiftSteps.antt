-- Steps of the loops that lift and lower a row.
use Rattle.std.proofs.Common.{◌≡◌, ℕ, suc, ◌+◌, ◌/◌, ◌<◌, ◌≤◌, ◌^◌, true, false, cond, List, ◌∷◌, ◌++◌, length, map, drop, get_or, refl, sym, ap, ◌∙◌, arith, add-one, drop-cons, subst, to_z, of_z, ℤ, pos, negsuc, ◌*ℤ◌, Result, Ok, Err, Some, FitsSigned}
use Rattle.std.proofs.lemmas.Int.{to_z-of_z, ints, to_z_pos}
use Rattle.std.proofs.lemmas.List.{drop_all}
use Rattle.std.proofs.lemmas.Simd.{map-map}
use Rattle.std.specs.Int.{w128}
use Rattle.std.specs.Int.RustNames.{unsigned_abs}
use Prim.Native.Nat.{◌∣◌}
use Rattle.std.proofs.Math.Nat.{div-le_self}
use Rattle.lhg_math.specs.Integers.{int_lt-yes, int_lt-no}
use Rattle.lhg_math.specs.Number.{Number, mul, lt, nought, unit, whole, quot}
use Rattle.lhg_math.specs.Inverses.{whole_parts}
use Rattle.lhg_math.specs.Signs.{is_nought, lead, size_of}
use Rattle.lhg_math.specs.SignLaws.{is_nought-nought, abs_pos}
use Rattle.lhg_math.specs.Tests.{AllOf, by_bool}
use Rattle.lhg_num.specs.FracCanon.{canon_frac}
use Rattle.lhg_num.specs.Limits.{IsExact, is_past, formed}
use Rattle.lhg_whole.specs.ContentLaws.{zero_is, one_is, quots-one}
use Rattle.lhg_whole.specs.Lifting.{multiple_from, common_multiple, passes_from, passes_times}
use Rattle.lhg_whole.specs.LiftLaws.{times-whole}
use Rattle.lhg_whole.proofs.Fields.{lt-whole, neg-whole, small_not_past}
use Rattle.lhg_whole.proofs.Formed.{formed_some}

-- ---- any list, from place to place
-- a list from place i on is its member there and the list from the next place on
pub here : {A : Type 0} (xs : List A) (i : ℕ) (x : A) → i < length xs → x ≡ get_or xs i x → drop i xs ≡ x ∷ drop (i + 1) xs
here xs i x h e = drop-cons xs i x h ∙ ap (λ y. y ∷ drop (suc i) xs) (sym e) ∙ rw add-one refl

-- ---- the least common multiple of denominators
-- m is that of the entries before place i, and none on the way was past the limit
pub record IsJoined (row : List Number) (i m : ℕ) : Type 0 where
  pub value : multiple_from m (drop i row) ≡ common_multiple row
  pub kept : passes_from m (drop i row) ≡ passes_from 1 row
  pub small : m < 2 ^ 127

-- ---- entries times a common multiple
-- the entries before place i are multiplied, and none was past the limit
pub record IsMultiplied (row : List Number) (m i : ℕ) (out : List ℤ) : Type 0 where
  pub value : map whole out ++ map (λ x. mul (whole (pos m)) x) (drop i row) ≡ map (λ x. mul (whole (pos m)) x) row
  pub kept : passes_times m (drop i row) ≡ passes_times m row
  pub common : AllOf (λ x. x.bottom ∣ m) (drop i row)

-- the denominator of the entry at hand divides
pub multiplied-common : (row : List Number) (m i : ℕ) (out : List ℤ) (x : Number) → IsMultiplied row m i out → i < length row → x ≡ get_or row i x → x.bottom ∣ m
multiplied-common row m i out x j h is = (subst (λ (ys : List Number). AllOf (λ y. y.bottom ∣ m) ys) (here row i x h is) j.common).0

-- a product, as the code forms it from the numerator n, the denominator d and its size r
pub formed_product : (q : Number) (m r : ℕ) (n d : ℤ) → q.bottom ∣ m → m < 2 ^ 127 → FitsSigned w128 n → n ≡ q.top → FitsSigned w128 d → d ≡ pos q.bottom → r ≡ unsigned_abs (to_z w128 (of_z w128 d))
    → mul (whole (pos m)) q ≡ whole (to_z w128 (of_z w128 n) *ℤ to_z w128 (m / r))
formed_product q m r n d common below fn en fd ed er =
    let bottom : r ≡ q.bottom = er ∙ ap unsigned_abs (to_z-of_z w128 d fd) ∙ ap unsigned_abs ed in
    let top : to_z w128 (of_z w128 n) ≡ q.top = to_z-of_z w128 n fn ∙ en in
    let fits : m / r < 2 ^ 127 = (let k = div-le_self m r in omega arith) in
    let part : to_z w128 (m / r) ≡ pos (m / q.bottom) = to_z_pos w128 (m / r) fits ∙ ap (λ (b : ℕ). pos (m / b)) bottom in
    times-whole m q common ∙ ap (λ t. whole (t *ℤ pos (m / q.bottom))) (sym top) ∙ ap (λ p. whole (to_z w128 (of_z w128 n) *ℤ p)) (sym part)

-- a number that was formed is kept
pub kept_whole : {E : Type 0} (z v : ℤ) (q : Number) (r : Result ℤ E) → q ≡ whole z → Some v ≡ formed z → IsExact r (is_past (to_z w128 (of_z w128 v))) (λ w. w ≡ to_z w128 (of_z w128 v))
    → IsExact r (is_past q.top) (λ w. whole w ≡ q)
kept_whole z v q (Ok w) e o h = let f = formed_some z v q e o in (f.kept, ap whole h.1 ∙ f.same)
kept_whole z v q (Err x) e o h =
    let f = formed_some z v q e o in
    let c : true ≡ false = sym h ∙ small_not_past (to_z w128 (of_z w128 v)) f.within.below in
    cc

-- ---- the size of the first entry that is not 0
-- the size of a whole number
pub size-whole : (z : ℤ) → size_of (whole z) ≡ whole (pos (unsigned_abs z))
size-whole (pos a) =
    let p : lt (whole (pos a)) nought ≡ false = ap (λ u. lt (whole (pos a)) u) (sym zero_is) ∙ lt-whole (pos a) (pos 0) ∙ int_lt-no (pos a) (pos 0) (omega (arith, ints)) in
    rw p refl
size-whole (negsuc a) =
    let p : lt (whole (negsuc a)) nought ≡ true = ap (λ u. lt (whole (negsuc a)) u) (sym zero_is) ∙ lt-whole (negsuc a) (pos 0) ∙ int_lt-yes (negsuc a) (pos 0) (omega (arith, ints)) in
    rw p (neg-whole (negsuc a))

-- the first entry that is not 0 stands at place i or after it
abbrev pub LeadsFrom : List ℤ → ℕ → Type 0
LeadsFrom row i = lead (map whole row) ≡ lead (map whole (drop i row))

-- the entry that is not 0
pub leads-found : (row : List ℤ) (i : ℕ) (z : ℤ) → LeadsFrom row i → i < length row → z ≡ get_or row i z → is_nought (whole z) ≡ false
    → whole (pos (unsigned_abs z)) ≡ cond (is_nought (lead (map whole row))) unit (size_of (lead (map whole row)))
leads-found row i z l h is n =
    let e : lead (map whole row) ≡ whole z = l ∙ ap (λ zs. lead (map whole zs)) (here row i z h is) ∙ rw n refl in
    sym (ap (λ x. cond (is_nought x) unit (size_of x)) e ∙ rw n (size-whole z))

-- all entries are 0
pub leads-end : (row : List ℤ) (i : ℕ) → LeadsFrom row i → length row ≤ i → whole (pos 1) ≡ cond (is_nought (lead (map whole row))) unit (size_of (lead (map whole row)))
leads-end row i l h =
    let e : lead (map whole row) ≡ nought = l ∙ ap (λ zs. lead (map whole zs)) (drop_all i row h) in
    sym (ap (λ x. cond (is_nought x) unit (size_of x)) e ∙ rw is_nought-nought (sym one_is))

-- the size of a number that is not 0 is positive
pub size_some : (z : ℤ) → is_nought (whole z) ≡ false → 0 < unsigned_abs z
size_some z n = subst (λ w. 0 < unsigned_abs w) ((whole_parts z).0) (abs_pos (whole z) n)

-- the quotients by that size are the row scaled by the rule of fractions
pub lowered_is : (row : List ℤ) (s : Number) → s ≡ cond (is_nought (lead (map whole row))) unit (size_of (lead (map whole row))) → map (λ z. quot (whole z) s) row ≡ canon_frac (map whole row)
lowered_is row s e =
    sym (map-map (λ x. quot x s) whole row) ∙ by_bool (is_nought (lead (map whole row)))
    (λ n.
    let one : s ≡ whole (pos 1) = e ∙ rw n (sym one_is) in
    rw n (ap (λ t. map (λ x. quot x t) (map whole row)) one ∙ quots-one (map whole row)))
    (λ n.
    let size : s ≡ size_of (lead (map whole row)) = e ∙ rw n refl in
    rw n (ap (λ t. map (λ x. quot x t) (map whole row)) size))
