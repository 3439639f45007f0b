-- Laws of signs, sizes and equality of numbers.
use Rattle.std.specs.Prelude.{◌≡◌, true, false, not, cond, List, [], ◌∷◌, map, refl}
use Rattle.std.specs.Bool.{Decides}
use Rattle.std.specs.Ordering.{is_eq, is_lt, is_gt}
use Rattle.std.specs.Cmp.{IsEquivalence}
use Rattle.std.specs.Prelude.{◌<◌}
use Rattle.std.specs.Int.RustNames.{unsigned_abs}
use Rattle.std.proofs.Common.{sym, ap, ◌∙◌, subst}
use Rattle.std.proofs.Math.Bool.{and_comm}
use Rattle.lhg_math.specs.Number.{Number, mul, neg, lt, nought, sign_of}
use Rattle.lhg_math.specs.NumberRing.{mul-nought, mul-neg}
use Rattle.lhg_math.specs.NumberOrder.{lt-mul, lt-nought_neg, neg-lt_nought, lt_irrefl, lt_antisymm, lt_asym}
use Rattle.lhg_math.specs.Quotients.{abs_pos_of_lt, abs_pos_of_gt}
use Rattle.lhg_math.specs.Signs.{size_of, is_nought, same_number, lead}
use Rattle.lhg_math.specs.Tests.{by_bool}

-- a number equals itself
pub same_number-self : (x : Number) → same_number x x ≡ true
same_number-self x = rw (lt_irrefl x) refl

-- numbers that are the same by the test are equal
pub same_is : (x y : Number) → same_number x y ≡ true → x ≡ y
same_is x y h =
    by_bool (lt x y) (λ e. let z : false ≡ true = rw e at h in cc)
    (λ e. by_bool (lt y x) (λ f. let z : false ≡ true = rw (e, f) at h in cc) (λ f. lt_antisymm x y e f))

-- the test says exactly which numbers are equal
pub Decides-same_number : (x y : Number) → Decides (same_number x y) (x ≡ y)
Decides-same_number x y = (same_is x y, λ e. subst (λ z. same_number x z ≡ true) e (same_number-self x))

-- the test does not depend on the order of the two
pub same_number-comm : (x y : Number) → same_number x y ≡ same_number y x
same_number-comm x y =
    by_bool (lt x y)
    (λ e. by_bool (lt y x) (λ f. rw (e, f) refl) (λ f. rw (e, f) refl))
    (λ e. by_bool (lt y x) (λ f. rw (e, f) refl) (λ f. rw (e, f) refl))

-- equality of numbers is an equivalence
pub same_number_equivalence : IsEquivalence same_number
same_number_equivalence = record {
  refl = same_number-self;
  symm = same_number-comm;
  congr = λ x y z h. ap (λ w. same_number w z) (same_is x y h);
}

-- the test for 0 passes 0 alone
pub nought_is : (x : Number) → is_nought x ≡ true → x ≡ nought
nought_is x h = same_is x nought h

-- 0 passes the test for 0
pub is_nought-nought : is_nought nought ≡ true
is_nought-nought = same_number-self nought

-- the test says exactly which number is 0
pub Decides-is_nought : (x : Number) → Decides (is_nought x) (x ≡ nought)
Decides-is_nought x = (nought_is x, λ e. ap is_nought e ∙ is_nought-nought)

-- a negative is 0 where the number is
pub is_nought-neg : (x : Number) → is_nought (neg x) ≡ is_nought x
is_nought-neg x = rw (neg-lt_nought x, lt-nought_neg x) (and_comm (not (lt nought x)) (not (lt x nought)))

-- the order against 0 is equality exactly for 0
pub is_eq-sign_of : (x : Number) → is_eq (sign_of x) ≡ is_nought x
is_eq-sign_of x =
    by_bool (lt x nought)
    (λ e. rw e refl)
    (λ e. by_bool (lt nought x) (λ f. rw (e, f) refl) (λ f. rw (e, f) refl))

-- the order against 0 is less exactly for negative numbers
pub is_lt-sign_of : (x : Number) → is_lt (sign_of x) ≡ lt x nought
is_lt-sign_of x =
    by_bool (lt x nought)
    (λ e. rw e refl)
    (λ e. by_bool (lt nought x) (λ f. rw (e, f) refl) (λ f. rw (e, f) refl))

-- and greater exactly for positive ones
pub is_gt-sign_of : (x : Number) → is_gt (sign_of x) ≡ lt nought x
is_gt-sign_of x =
    by_bool (lt x nought)
    (λ e. rw (e, lt_asym x nought e) refl)
    (λ e. by_bool (lt nought x) (λ f. rw (e, f) refl) (λ f. rw (e, f) refl))

-- the size of a number that is not 0 is positive
pub size_above : (x : Number) → is_nought x ≡ false → lt nought (size_of x) ≡ true
size_above x h =
    by_bool (lt x nought) (λ e. rw e (lt-nought_neg x ∙ e))
    (λ e. by_bool (lt nought x) (λ f. rw e f) (λ f. let z : true ≡ false = rw (e, f) at h in cc))

-- a positive number is not 0
pub is_nought-positive : (x : Number) → lt nought x ≡ true → is_nought x ≡ false
is_nought-positive x h = rw (lt_asym nought x h, h) refl

-- no size is negative
pub size_from : (x : Number) → lt (size_of x) nought ≡ false
size_from x =
    by_bool (is_nought x)
    (λ e. ap (λ w. lt (size_of w) nought) (nought_is x e) ∙ rw (lt_irrefl nought) (lt_irrefl nought))
    (λ e. lt_asym nought (size_of x) (size_above x e))

-- a positive factor keeps the sign
pub lt-nought_scaled : (k x : Number) → lt nought k ≡ true → lt (mul k x) nought ≡ lt x nought
lt-nought_scaled k x h = ap (λ w. lt (mul k x) w) (sym (mul-nought k)) ∙ lt-mul k x nought h

-- the same for positive numbers
pub nought_lt-scaled : (k x : Number) → lt nought k ≡ true → lt nought (mul k x) ≡ lt nought x
nought_lt-scaled k x h = ap (λ w. lt w (mul k x)) (sym (mul-nought k)) ∙ lt-mul k nought x h

-- a positive factor keeps the test for 0
pub is_nought-scaled : (k x : Number) → lt nought k ≡ true → is_nought (mul k x) ≡ is_nought x
is_nought-scaled k x h = rw (lt-nought_scaled k x h, nought_lt-scaled k x h) refl

-- a positive factor comes out of the leading number
pub lead-scaled : (k : Number) (xs : List Number) → lt nought k ≡ true → lead (map (λ x. mul k x) xs) ≡ mul k (lead xs)
lead-scaled k [] h = sym (mul-nought k)
lead-scaled k (x ∷ xs) h =
    ap (λ b. cond b (lead (map (λ y. mul k y) xs)) (mul k x)) (is_nought-scaled k x h)
    ∙ by_bool (is_nought x) (λ e. rw e (lead-scaled k xs h)) (λ e. rw e refl)

-- a positive factor comes out of a size
pub size_of-scaled : (k x : Number) → lt nought k ≡ true → size_of (mul k x) ≡ mul k (size_of x)
size_of-scaled k x h =
    ap (λ b. cond b (neg (mul k x)) (mul k x)) (lt-nought_scaled k x h) ∙ by_bool (lt x nought) (λ e. rw e (sym (mul-neg k x))) (λ e. rw e refl)

-- a number that is not 0 has a numerator that is not
pub abs_pos : (x : Number) → is_nought x ≡ false → 0 < unsigned_abs x.top
abs_pos x h =
    by_bool (lt x nought) (λ e. abs_pos_of_gt x e)
    (λ e. by_bool (lt nought x) (λ f. abs_pos_of_lt x f) (λ f. let z : true ≡ false = rw (e, f) at h in cc))
