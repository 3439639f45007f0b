-- A number without its sign is the number or its negative.
use Rattle.std.proofs.Common.{◌≡◌, refl, sym, ap, ◌∙◌, subst, true, false}
use Rattle.std.proofs.Math.IntN.{pos}
use Rattle.std.specs.Int.RustNames.{unsigned_abs}
use Rattle.lhg_math.specs.Number.{Number, ratio, neg, lt, nought, whole, ratio_suc}
use Rattle.lhg_math.specs.NumberOrder.{positive_top, lt-nought_neg, lt_antisymm}
use Rattle.lhg_math.specs.Reduce.{abs-neg}
use Rattle.lhg_math.specs.Represents.{ratio_self}
use Rattle.lhg_math.specs.Signs.{is_nought, size_of}
use Rattle.lhg_math.specs.SignLaws.{size_above, is_nought-positive}
use Rattle.lhg_math.specs.Tests.{by_bool}
use Rattle.lhg_row_text.proofs.NumberTokens.{magnitude}

-- a numerator that is positive is its size
top_positive : (x : Number) → lt nought x ≡ true → pos (unsigned_abs x.top) ≡ x.top
top_positive x h = let p = positive_top x h in ap (λ t. pos (unsigned_abs t)) p.1 ∙ sym p.1

top_nought : pos (unsigned_abs nought.top) ≡ nought.top
unfolding nought whole ratio ratio_suc
top_nought = refl

-- and so is one that is not negative
pub top_is : (x : Number) → lt x nought ≡ false → pos (unsigned_abs x.top) ≡ x.top
top_is x h = by_bool (lt nought x) (top_positive x) (λ e. let z = lt_antisymm x nought h e in subst (λ y. pos (unsigned_abs y.top) ≡ y.top) (sym z) top_nought)

-- a number that is not negative is its magnitude
pub magnitude_else : (x : Number) → lt x nought ≡ false → magnitude x ≡ x
magnitude_else x h = ap (λ t. ratio t x.bottom) (top_is x h) ∙ ratio_self x

same_magnitude : (x : Number) → magnitude (neg x) ≡ magnitude x
unfolding neg
same_magnitude x = let e = abs-neg x.top in rw e refl

-- a negative number is the negative of its magnitude
pub magnitude_negative : (x : Number) → lt x nought ≡ true → magnitude x ≡ neg x
magnitude_negative x h =
    let p : lt nought (neg x) ≡ true = lt-nought_neg x ∙ h in
    sym (same_magnitude x) ∙ ap (λ t. ratio t (neg x).bottom) (top_positive (neg x) p) ∙ ratio_self (neg x)

magnitude_is : (x : Number) → magnitude x ≡ size_of x
magnitude_is x = by_bool (lt x nought) (λ e. rw e (magnitude_negative x e)) (λ e. rw e (magnitude_else x e))

-- where a number is not 0 its magnitude is not
pub magnitude_some : (x : Number) → is_nought x ≡ false → is_nought (magnitude x) ≡ false
magnitude_some x h = is_nought-positive (magnitude x) (ap (lt nought) (magnitude_is x) ∙ size_above x h)
