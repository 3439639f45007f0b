-- Which places are there, and which signs has a number that moves evenly between two places?
use Rattle.std.specs.Prelude.{◌≡◌, true, false}
use Rattle.std.proofs.Common.{sym, ap, ◌∙◌}
use Rattle.lhg_math.specs.Number.{Number, add, mul, neg, lt, nought, unit, half, quot}
use Rattle.lhg_math.specs.NumberRing.{sums, mul_comm, add_comm, add-nought, add-neg, mul-nought, neg_neg, neg_nought}
use Rattle.lhg_math.specs.NumberOrder.{lt_asym, lt_irrefl, lt_antisymm, lt_trans, lt-difference, difference-lt, lt-nought_neg, neg-lt_nought, mul_positive, nought_unit}
use Rattle.lhg_math.specs.Quotients.{mul-quot, abs_pos_of_lt, half_positive}
use Rattle.lhg_math.specs.SumSigns.{add_nonpos, add_negative, add_positive, mul_nonpos, mul_nonneg, mul_negative, half_below}
use Rattle.lhg_math.specs.Interpolate.{interpolate}
use Rattle.lhg_math.specs.InterpolateLaws.{interpolate_is, interpolate_mix, interpolate_start, interpolate_end, interpolate_same, interpolate-lt, interpolate_twice}
use Rattle.lhg_math.specs.Tests.{by_bool, false_true}
use Rattle.lhg_math.specs.Places.{IsPlace, IsInner}

-- an inner place is a place
pub inner_place : (p : Number) → IsInner p → IsPlace p
inner_place p h = record { from = lt_asym nought p h.above; upto = lt_asym p unit h.below }

-- 0 is a place
pub start_place : IsPlace nought
start_place = record { from = lt_irrefl nought; upto = lt_asym nought unit nought_unit }

-- 1 is a place
pub end_place : IsPlace unit
end_place = record { from = lt_asym nought unit nought_unit; upto = lt_irrefl unit }

-- 1/2 is an inner place
pub half_inner : IsInner half
half_inner = record { above = half_positive; below = half_below }

-- what is left of the way is not negative
pub rest_from : (p : Number) → IsPlace p → lt (add unit (neg p)) nought ≡ false
rest_from p h = difference-lt p unit ∙ h.upto

-- what is left of the way from an inner place is positive
pub rest_above : (p : Number) → IsInner p → lt nought (add unit (neg p)) ≡ true
rest_above p h = lt-difference p unit ∙ h.below

-- between ends that are not positive nothing is
pub nonpos_at : (a b p : Number) → lt nought a ≡ false → lt nought b ≡ false → IsPlace p → lt nought (interpolate a b p) ≡ false
nonpos_at a b p h k i =
    ap (λ w. lt nought w) (interpolate_mix a b p) ∙ add_nonpos _ _ (mul_nonpos _ a (rest_from p i) h) (mul_nonpos p b i.from k)

-- from a negative start to an end that is not positive, an inner place is negative
pub negative_left : (a b p : Number) → lt a nought ≡ true → lt nought b ≡ false → IsInner p → lt (interpolate a b p) nought ≡ true
negative_left a b p h k i =
    ap (λ w. lt w nought) (interpolate_mix a b p) ∙ add_negative _ _ (mul_negative _ a (rest_above p i) h) (mul_nonpos p b (inner_place p i).from k)

-- the same for a negative end
pub negative_right : (a b p : Number) → lt nought a ≡ false → lt b nought ≡ true → IsInner p → lt (interpolate a b p) nought ≡ true
negative_right a b p h k i =
    ap (λ w. lt w nought) (interpolate_mix a b p ∙ add_comm _ _) ∙ add_negative _ _ (mul_negative p b i.above k) (mul_nonpos _ a (rest_from p (inner_place p i)) h)

-- between negative ends each place is negative
pub negative_at : (a b p : Number) → lt a nought ≡ true → lt b nought ≡ true → IsPlace p → lt (interpolate a b p) nought ≡ true
negative_at a b p h k i =
    by_bool (lt nought p)
    (λ e. by_bool (lt p unit)
    (λ f. negative_left a b p h (lt_asym b nought k) (record { above = e; below = f }))
    (λ f. ap (λ w. lt (interpolate a b w) nought) (lt_antisymm p unit f i.upto) ∙ ap (λ w. lt w nought) (interpolate_end a b) ∙ k))
    (λ e. ap (λ w. lt (interpolate a b w) nought) (lt_antisymm p nought i.from e) ∙ ap (λ w. lt w nought) (interpolate_start a b) ∙ h)

-- negative at one inner place and nowhere positive at the ends: negative at all inner places
pub negative_inside : (a b p q : Number) → lt nought a ≡ false → lt nought b ≡ false → IsInner p → lt (interpolate a b p) nought ≡ true → IsInner q → lt (interpolate a b q) nought ≡ true
negative_inside a b p q h k i n j =
    by_bool (lt a nought)
    (λ e. negative_left a b q e k j)
    (λ e. by_bool (lt b nought)
    (λ f. negative_right a b q h f j)
    (λ f. let z : lt nought nought ≡ true = ap (λ w. lt w nought) (sym (interpolate_same nought p)) ∙ ap (λ w. lt (interpolate w nought p) nought) (lt_antisymm nought a h e) ∙ ap (λ w. lt (interpolate a w p) nought) (lt_antisymm nought b k f) ∙ n in false_true (sym (lt_irrefl nought) ∙ z)))

-- where the signs of the ends are opposite there is one crossing inside
pub record Crossing (a b : Number) : Type 0 where
  pub at : Number
  pub inner : IsInner at
  pub level : interpolate a b at ≡ nought

-- on the way from a negative to a positive number some place is 0
pub crossing_up : (a b : Number) → lt a nought ≡ true → lt nought b ≡ true → Crossing a b
crossing_up a b h k =
    let rises : lt a b ≡ true = lt_trans a nought b h k in
    let d = add b (neg a) in
    let up : lt nought d ≡ true = lt-difference a b ∙ rises in
    let r = quot (neg a) d in
    let level : interpolate a b r ≡ nought = interpolate_is a b r ∙ ap (λ w. add a w) (mul_comm r d ∙ mul-quot (neg a) d (abs_pos_of_lt d up)) ∙ add-neg a in
    record {
      at = r;
      inner = record {
        above = sym (interpolate-lt a b nought r rises) ∙ ap (λ w. lt w (interpolate a b r)) (interpolate_start a b) ∙ ap (λ w. lt a w) level ∙ h;
        below = sym (interpolate-lt a b r unit rises) ∙ ap (λ w. lt (interpolate a b r) w) (interpolate_end a b) ∙ ap (λ w. lt w b) level ∙ k;
      };
      level = level;
    }

-- the sign of both ends comes out
pub interpolate-neg : (a b p : Number) → interpolate (neg a) (neg b) p ≡ neg (interpolate a b p)
interpolate-neg a b p =
    let s : add (neg a) (mul p (add (neg b) (neg (neg a)))) ≡ neg (add a (mul p (add b (neg a)))) = simp sums in
    interpolate_is (neg a) (neg b) p ∙ s ∙ ap neg (sym (interpolate_is a b p))

-- on the way from a positive to a negative number some place is 0
pub crossing_down : (a b : Number) → lt nought a ≡ true → lt b nought ≡ true → Crossing a b
crossing_down a b h k =
    let c = crossing_up (neg a) (neg b) (neg-lt_nought a ∙ h) (lt-nought_neg b ∙ k) in
    record { at = c.at; inner = c.inner; level = sym (neg_neg (interpolate a b c.at)) ∙ ap neg (sym (interpolate-neg a b c.at) ∙ c.level) ∙ neg_nought }

-- nowhere positive inside: not positive at the start
pub start_nonpos : (a b : Number) → ((p : Number) → IsInner p → lt nought (interpolate a b p) ≡ false) → lt nought a ≡ false
start_nonpos a b h =
    by_bool (lt nought a)
    (λ e. by_bool (lt b nought)
    (λ f.
    let c = crossing_down a b e f in
    let m = interpolate nought c.at half in
    let up : lt nought c.at ≡ true = c.inner.above in
    let low : lt nought m ≡ true = ap (λ w. lt w m) (sym (interpolate_start nought c.at)) ∙ interpolate-lt nought c.at nought half up ∙ half_positive in
    let high : lt m c.at ≡ true = ap (λ w. lt m w) (sym (interpolate_end nought c.at)) ∙ interpolate-lt nought c.at half unit up ∙ half_below in
    let there : interpolate a b m ≡ interpolate a nought half = interpolate_twice a b nought c.at half ∙ ap (λ w. interpolate w (interpolate a b c.at) half) (interpolate_start a b) ∙ ap (λ w. interpolate a w half) c.level in
    let some : lt nought (interpolate a b m) ≡ true = ap (λ w. lt nought w) (there ∙ interpolate_mix a nought half ∙ ap (λ w. add (mul (add unit (neg half)) a) w) (mul-nought half) ∙ add-nought _) ∙ mul_positive _ a (rest_above half half_inner) e in
    false_true (sym (h m (record { above = low; below = lt_trans m c.at unit high c.inner.below })) ∙ some))
    (λ f.
    let some : lt nought (interpolate a b half) ≡ true = ap (λ w. lt nought w) (interpolate_mix a b half) ∙ add_positive _ _ (mul_positive _ a (rest_above half half_inner) e) (mul_nonneg half b (lt_asym nought half half_positive) f) in
    false_true (sym (h half half_inner) ∙ some)))
    (λ e. e)
