-- The place that is formed for a row is the one at which it turns, where there is one.
use Rattle.std.proofs.Common.{◌≡◌, true, false, [], ◌∷◌, length, Option, Some, None, refl, sym, ap, ◌∙◌, subst}
use Rattle.lhg_math.specs.Number.{Number, add, sub, neg, lt, nought, unit, quot}
use Rattle.lhg_math.specs.NumberRing.{sums, sub_is, add-neg, add-nought, mul_comm}
use Rattle.lhg_math.specs.NumberOrder.{lt_asym, lt_irrefl, lt_antisymm, lt-difference, difference-lt}
use Rattle.lhg_math.specs.InterpolateLaws.{interpolate_is}
use Rattle.lhg_math.specs.Crossings.{level_once}
use Rattle.lhg_math.specs.Places.{IsPlace}
use Rattle.lhg_math.specs.Quotients.{mul-quot}
use Rattle.lhg_math.specs.Signs.{is_nought}
use Rattle.lhg_math.specs.SignLaws.{nought_is, is_nought-nought, abs_pos}
use Rattle.lhg_math.specs.Tests.{by_bool}
use Rattle.lhg_num.specs.FracArithmetic.{frac_arithmetic}
use Rattle.lhg_row.specs.Row.{PlainPoint, PlainRow, row_value, value_at, IsTight}
use Rattle.lhg_row.specs.Decisions.{clash}
use Rattle.lhg_row.specs.Values.{marked_value}
use Rattle.lhg_row.specs.ValueLaws.{marked_value-value}
use Rattle.lhg_motion.specs.Segment.{along}
use Rattle.lhg_motion.specs.SegmentLemmas.{value_along}
use Rattle.lhg_motion.specs.Flow.{displacement}
use Rattle.lhg_motion.specs.FlowRowLaws.{value_gap}
use Rattle.lhg_motion.specs.CheckPoint.{IsTurn}
use Rattle.lhg_play.specs.Cut.{change, kept_place, turn_place}

-- the change that is formed is the displacement
pub change-value : (x y : PlainPoint) → (change x y).value ≡ displacement x y
change-value [] ys = refl
change-value (x ∷ xs) [] = refl
change-value (x ∷ xs) (y ∷ ys) = ap (λ ds. sub y x ∷ ds) (change-value xs ys)

-- ---- values
-- the slope of a row
abbrev slope : PlainRow → PlainPoint → PlainPoint → Number
slope r x y = add (value_at r y) (neg (value_at r x))

-- it is the value on the displacement
slope-value : (r : PlainRow) (x y : PlainPoint) → length x ≡ length y → row_value nought r.coefs (displacement x y) ≡ slope r x y
slope-value r x y e = ap (λ w. row_value w r.coefs (displacement x y)) (sym (add-neg nought)) ∙ value_gap nought nought r.coefs x y e

-- ---- turns
-- what the place that is formed for a row says of its turn
abbrev pub IsTurnPlace : PlainRow → PlainPoint → PlainPoint → Option Number → Type 0
IsTurnPlace r x y None = (p : Number) → IsPlace p → ¬ IsTurn r x y p
IsTurnPlace r x y (Some p) = IsPlace p × IsTurn r x y p × ((q : Number) → IsTurn r x y q → q ≡ p)

module _ (r : PlainRow) (x y : PlainPoint) (e : length x ≡ length y) where
  -- a row whose slope is 0 is constant
  flat_row : is_nought (slope r x y) ≡ true → value_at r x ≡ value_at r y
  flat_row h =
      let z : slope r x y ≡ nought = nought_is (slope r x y) h in
      lt_antisymm (value_at r x) (value_at r y)
      (sym (lt-difference (value_at r x) (value_at r y)) ∙ ap (λ w. lt nought w) z ∙ lt_irrefl nought)
      (sym (difference-lt (value_at r x) (value_at r y)) ∙ ap (λ w. lt w nought) z ∙ lt_irrefl nought)

  -- any other moves
  moving : is_nought (slope r x y) ≡ false → ¬ (value_at r x ≡ value_at r y)
  moving h f =
      let z : slope r x y ≡ nought = ap (λ w. add (value_at r y) (neg w)) f ∙ add-neg (value_at r y) in
      clash (is_nought (slope r x y)) (ap is_nought z ∙ is_nought-nought) h

  -- how far the bound is from the start
  abbrev gap : Number
  gap = add r.bound (neg (value_at r x))

  more : (b v : Number) → add v (add b (neg v)) ≡ b
  more b v = let s : add v (add b (neg v)) ≡ add b (add v (neg v)) = simp sums in s ∙ ap (λ w. add b w) (add-neg v) ∙ add-nought b

  -- at the gap over the slope it holds with equality
  level_tight : is_nought (slope r x y) ≡ false → IsTight r (along x y (quot gap (slope r x y)))
  level_tight h =
      let p = quot gap (slope r x y) in
      value_along r x y p e ∙ interpolate_is (value_at r x) (value_at r y) p
      ∙ ap (λ w. add (value_at r x) w) (mul_comm p (slope r x y) ∙ mul-quot gap (slope r x y) (abs_pos (slope r x y) h))
      ∙ more r.bound (value_at r x)

  -- a row turns once
  turn_once : (p q : Number) → IsTurn r x y p → IsTight r (along x y q) → p ≡ q
  turn_once p q t u =
      level_once (value_at r x) (value_at r y) p q t.moves (sym (value_along r x y p e) ∙ t.tight ∙ sym u ∙ value_along r x y q e)

  -- the turn, where its place is from 0 to 1
  kept-place : (p : Number) → IsTurn r x y p → IsTurnPlace r x y (kept_place p).value
  kept-place p t =
      by_bool (lt p nought)
      (λ f. rw f (λ q i u. clash (lt q nought) (ap (λ w. lt w nought) (turn_once q p u t.tight) ∙ f) i.from))
      (λ f. rw f (by_bool (lt unit p)
      (λ g. by_bool (lt p unit)
      (λ h. clash (lt p unit) h (lt_asym unit p g))
      (λ h. rw (h, g) (λ q i u. clash (lt unit q) (ap (λ w. lt unit w) (turn_once q p u t.tight) ∙ g) i.upto)))
      (λ g. let i : IsPlace p = record { from = f; upto = g } in
      let found : IsPlace p × IsTurn r x y p × ((q : Number) → IsTurn r x y q → q ≡ p) = (i, t, λ q u. turn_once q p u t.tight) in
      by_bool (lt p unit) (λ h. rw h found) (λ h. rw (h, g) found))))

  -- the place that is formed for a row is that of its turn
  pub turn-place : IsTurnPlace r x y (turn_place x (displacement x y) r).value
  turn-place =
      let v = (marked_value frac_arithmetic nought r.coefs (displacement x y)).value in
      let is : v ≡ slope r x y = marked_value-value frac_arithmetic nought r.coefs (displacement x y) ∙ slope-value r x y e in
      by_bool (is_nought v)
      (λ f. rw f (λ p i t. t.moves (flat_row (ap is_nought (sym is) ∙ f))))
      (λ f.
      let h : is_nought (slope r x y) ≡ false = ap is_nought (sym is) ∙ f in
      let start = marked_value-value frac_arithmetic nought r.coefs x in
      let here : quot (sub r.bound (marked_value frac_arithmetic nought r.coefs x).value) v ≡ quot gap (slope r x y) =
      ap (λ w. quot (sub r.bound w) v) start ∙ ap (λ w. quot w v) (sub_is r.bound (value_at r x)) ∙ ap (quot gap) is in
      let there : IsTurnPlace r x y (kept_place (quot gap (slope r x y))).value = kept-place (quot gap (slope r x y)) (record { moves = moving h; tight = level_tight h }) in
      rw f (subst (λ w. IsTurnPlace r x y (kept_place w).value) (sym here) there))
