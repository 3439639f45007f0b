-- Numbers that are printed are within the limit on what is read.
use Rattle.std.proofs.Common.{◌≡◌, ◌≤◌, ℕ, List, [], ◌∷◌, ◌++◌, drop, refl, sym, ap, ◌∙◌, subst, Bool, true, false, not, cond, Some, None, arith, FitsSigned, codes, lit≤}
use Rattle.std.specs.declared.cmp.Ordering.TheVariants.{Less, Equal, Greater}
use Rattle.std.proofs.Math.IntN.{ℤ, pos}
use Rattle.std.specs.Int.RustNames.{unsigned_abs}
use Rattle.std.specs.List.{position}
use Rattle.std.proofs.Math.ListN.{drop_of_length-le}
use Rattle.std.proofs.lemmas.Int.{ints}
use mir.Syntax.{w128}
use Rattle.lhg_math.specs.Number.{Number, neg, lt, nought, whole, ratio, ratio_suc, sign_of}
use Rattle.lhg_math.specs.Gcd.{gcd}
use Rattle.lhg_math.specs.NumberOrder.{lt-nought_neg, lt_asym, lt_antisymm}
use Rattle.lhg_math.specs.Reduce.{abs-neg}
use Rattle.lhg_math.specs.Signs.{is_nought}
use Rattle.lhg_math.specs.SignLaws.{nought_is}
use Rattle.lhg_math.specs.Tests.{AllOf, by_bool}
use Rattle.lhg_lex.specs.Literal.{limit}
use Rattle.lhg_row_text.specs.RowText.{size_text, number_text, term_text, next_term, turned}
use Rattle.lhg_row_text.specs.Short.{IsShort}
use Rattle.lhg_row_text.proofs.Magnitudes.{top_is}
use Rattle.lhg_row_text.proofs.RowTerms.{place_of, place-nought, place-other, found_place, no_place}

fits_size : (m : ℕ) → FitsSigned w128 (pos m) → m ≤ limit
fits_size m h = omega (arith, ints)

-- a numerator of 128 bits that has no sign
pub short_top : (x : Number) (n : ℤ) → FitsSigned w128 n → n ≡ x.top → lt x nought ≡ false → unsigned_abs x.top ≤ limit
short_top x n h e below = fits_size (unsigned_abs x.top) (subst (λ z. FitsSigned w128 z) (e ∙ sym (top_is x below)) h)

-- a number whose negative is within the limit is too
pub short_neg : (x : Number) → IsShort (neg x) → IsShort x
unfolding neg
short_neg x h = record { top = subst (λ (n : ℕ). n ≤ limit) (abs-neg x.top) h.top; bottom = h.bottom }

-- the negative has the same size
size_text-neg : (x : Number) → size_text (neg x) ≡ size_text x
unfolding neg
size_text-neg x = let e = abs-neg x.top in rw e refl

-- the negative of a negative number has no sign
pub neg_unsigned : (x : Number) → lt x nought ≡ true → lt (neg x) nought ≡ false
neg_unsigned x h = lt_asym nought (neg x) (lt-nought_neg x ∙ h)

-- a negative number is a minus and its negative
pub number_text-negative : (x : Number) → lt x nought ≡ true → number_text x ≡ codes "-" ++ size_text (neg x)
number_text-negative x h = rw h (ap (λ w. 45 ∷ w) (sym (size_text-neg x)))

-- ---- terms

less_from : (s t : Bool) → Less ≡ cond s Less (cond t Greater Equal) → s ≡ true
less_from true t h = refl
less_from false true h = absurd cc
less_from false false h = absurd cc

equal_from : (s t : Bool) → Equal ≡ cond s Less (cond t Greater Equal) → (s ≡ false) × (t ≡ false)
equal_from true t h = absurd cc
equal_from false true h = absurd cc
equal_from false false h = (refl, refl)

-- a number whose sign is negative is below 0
pub negative_is : (x : Number) → Less ≡ sign_of x → lt x nought ≡ true
negative_is x h = less_from (lt x nought) (lt nought x) h

short_nought : IsShort nought
unfolding nought whole ratio ratio_suc gcd
short_nought = record { top = lit≤ tt; bottom = lit≤ tt }

-- 0 is within the limit
short_none : (x : Number) → is_nought x ≡ true → IsShort x
short_none x h = subst IsShort (sym (nought_is x h)) short_nought

-- and so is a number without a sign to it
pub short_equal : (x : Number) → Equal ≡ sign_of x → IsShort x
short_equal x h = let e = equal_from (lt x nought) (lt nought x) h in subst IsShort (sym (lt_antisymm x nought e.0 e.1)) short_nought

term_text-neg : (c : Number) (v : List ℕ) → term_text (neg c) v ≡ term_text c v
unfolding neg
term_text-neg c v = let e = abs-neg c.top in rw e refl

-- a negative term behind the first
pub next_term-negative : (c : Number) (v : List ℕ) → lt c nought ≡ true → next_term c v ≡ codes " - " ++ term_text (neg c) v
next_term-negative c v h = rw h (ap (λ w. codes " - " ++ w) (sym (term_text-neg c v)))

-- a number that is turned is within the limit where it was
pub short_turned : (flip : Bool) (x : Number) → IsShort (turned flip x) → IsShort x
short_turned true x h = short_neg x h
short_turned false x h = h

-- a number that is turned by its sign has none
pub unsigned_turned : (flip : Bool) (x : Number) → flip ≡ lt x nought → lt (turned flip x) nought ≡ false
unsigned_turned true x h = neg_unsigned x (sym h)
unsigned_turned false x h = sym h

-- ---- coefficients

short_from : (cs : List Number) → AllOf IsShort (drop (place_of cs) cs) → AllOf IsShort cs
short_from [] h = tt
short_from (c ∷ cs) h =
    by_bool (is_nought c)
    (λ e. let p = place-nought c cs e in (short_none c e, short_from cs (subst (λ (n : ℕ). AllOf IsShort (drop n (c ∷ cs))) p h)))
    (λ e. let p = place-other c cs e in subst (λ (n : ℕ). AllOf IsShort (drop n (c ∷ cs))) p h)

-- coefficients are within the limit where those from the first that is not 0 on are
pub short_found : (cs : List Number) (k : ℕ) → Some k ≡ position (λ c. not (is_nought c)) cs → AllOf IsShort (drop k cs) → AllOf IsShort cs
short_found cs k e h = short_from cs (subst (λ (n : ℕ). AllOf IsShort (drop n cs)) (sym (found_place cs k e).1) h)

-- and where all are 0
pub short_nowhere : (cs : List Number) → None ≡ position (λ c. not (is_nought c)) cs → AllOf IsShort cs
short_nowhere cs e = short_from cs (subst (AllOf IsShort) (sym (drop_of_length-le cs (no_place cs e))) tt)
