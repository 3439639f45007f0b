-- What is known of numbers of which exactly one is not 0?
use Rattle.std.specs.Prelude.{◌≡◌, ◌<◌, ℕ, zero, suc, true, false, List, [], ◌∷◌, length, get_or}
use Rattle.std.proofs.Common.{refl, sym, ap, ◌∙◌, arith}
use Rattle.lhg_math.specs.Number.{Number, add, mul, nought}
use Rattle.lhg_math.specs.NumberRing.{add-nought, nought-mul}
use Rattle.lhg_math.specs.Signs.{is_nought, lead}
use Rattle.lhg_math.specs.SignLaws.{nought_is, is_nought-nought}
use Rattle.lhg_math.specs.Tests.{by_bool, false_true}
use Rattle.lhg_row.specs.Row.{PlainPoint, row_value}
use Rattle.lhg_row.specs.ValueLaws.{no_value}
use Rattle.lhg_simplex.specs.Boxes.{is_single}

-- ---- one coefficient
-- what is not 0 is not 0
pub no_zero : {P : Type 0} (x : Number) → x ≡ nought → is_nought x ≡ false → P
no_zero x e h = false_true (sym h ∙ ap is_nought e ∙ is_nought-nought)

zero_parts : (c : Number) (cs : List Number) → is_nought (lead (c ∷ cs)) ≡ true → (is_nought c ≡ true) × (is_nought (lead cs) ≡ true)
zero_parts c cs h = by_bool (is_nought c) (λ e. (e, rw e at h)) (λ e. let t : is_nought c ≡ true = rw e at h in false_true (sym e ∙ t))

-- coefficients that are all 0
zero_get : (k : ℕ) (cs : List Number) → is_nought (lead cs) ≡ true → get_or cs k nought ≡ nought
zero_get k [] h = refl
zero_get zero (c ∷ cs) h = nought_is c (zero_parts c cs h).0
zero_get (suc k) (c ∷ cs) h = zero_get k cs (zero_parts c cs h).1

-- after the one that is not 0 all are 0
single_rest : (c : Number) (cs : List Number) → is_single (c ∷ cs) ≡ true → is_nought c ≡ false → is_nought (lead cs) ≡ true
single_rest c cs h e = rw e at h

single_on : (c : Number) (cs : List Number) → is_single (c ∷ cs) ≡ true → is_nought c ≡ true → is_single cs ≡ true
single_on c cs h e = rw e at h

-- the one coefficient is the leading one
pub single_lead : (k : ℕ) (cs : List Number) → is_single cs ≡ true → is_nought (get_or cs k nought) ≡ false → lead cs ≡ get_or cs k nought
single_lead k [] h i = false_true h
single_lead zero (c ∷ cs) h i = rw i refl
single_lead (suc k) (c ∷ cs) h i =
    by_bool (is_nought c)
    (λ e. rw e (single_lead k cs (single_on c cs h e) i))
    (λ e. no_zero (get_or cs k nought) (zero_get k cs (single_rest c cs h e)) i)

-- there is only one
pub single_same : (j k : ℕ) (cs : List Number) → is_single cs ≡ true → is_nought (get_or cs j nought) ≡ false → is_nought (get_or cs k nought) ≡ false → j ≡ k
single_same j k [] h i l = false_true h
single_same zero zero (c ∷ cs) h i l = refl
single_same zero (suc k) (c ∷ cs) h i l = no_zero (get_or cs k nought) (zero_get k cs (single_rest c cs h i)) l
single_same (suc j) zero (c ∷ cs) h i l = no_zero (get_or cs j nought) (zero_get j cs (single_rest c cs h l)) i
single_same (suc j) (suc k) (c ∷ cs) h i l =
    by_bool (is_nought c)
    (λ e. ap (λ n. suc n) (single_same j k cs (single_on c cs h e) i l))
    (λ e. no_zero (get_or cs k nought) (zero_get k cs (single_rest c cs h e)) l)

-- the value is one product
pub single_value : (s : Number) (k : ℕ) (cs : List Number) (x : PlainPoint) → is_single cs ≡ true → is_nought (get_or cs k nought) ≡ false → length x ≡ length cs
    → row_value s cs x ≡ add s (mul (get_or cs k nought) (get_or x k nought))
single_value s k [] x h i w = false_true h
single_value s k (c ∷ cs) [] h i w = absurd (omega arith)
single_value s zero (c ∷ cs) (y ∷ x) h i w = no_value (add s (mul c y)) cs x (single_rest c cs h i)
single_value s (suc k) (c ∷ cs) (y ∷ x) h i w =
    by_bool (is_nought c)
    (λ e.
    let start : add s (mul c y) ≡ s = ap (λ w. add s (mul w y)) (nought_is c e) ∙ ap (λ w. add s w) (nought-mul y) ∙ add-nought s in
    ap (λ w. row_value w cs x) start ∙ single_value s k cs x (single_on c cs h e) i (omega arith))
    (λ e. no_zero (get_or cs k nought) (zero_get k cs (single_rest c cs h e)) i)

-- the place of the one coefficient
pub record HasPlace (cs : List Number) : Type 0 where
  pub place : ℕ
  pub there : place < length cs
  pub some : is_nought (get_or cs place nought) ≡ false

pub single_place : (cs : List Number) → is_single cs ≡ true → HasPlace cs
single_place [] h = false_true h
single_place (c ∷ cs) h =
    by_bool (is_nought c)
    (λ e. let p = single_place cs (single_on c cs h e) in record { place = suc p.place; there = (let t = p.there in omega arith); some = p.some })
    (λ e. record { place = zero; there = omega arith; some = e })
