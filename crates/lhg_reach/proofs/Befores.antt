-- Why do rows of a piece hold where a flow into it starts?
use Rattle.std.proofs.Common.{◌≡◌, ℕ, Bool, true, false, not, cond, [], ◌∷◌, ◌++◌, List, length, map, get_or, Option, Some, None, inl, inr, ◌<◌, refl, sym, ap, ◌∙◌, subst}
use Rattle.std.proofs.lemmas.Bool.{not-true}
use Rattle.lhg_math.specs.Number.{Number, add, mul, neg, lt, nought}
use Rattle.lhg_math.specs.NumberRing.{mul_comm, mul-nought, add-neg}
use Rattle.lhg_math.specs.NumberOrder.{lt-mul, lt-difference, difference-lt, lt-le_trans, le-lt_trans, le_trans, lt_asym}
use Rattle.lhg_math.specs.Tests.{AllOf, by_bool, false_true}
use Rattle.lhg_num.specs.Arithmetic.{Arithmetic, IsLawful}
use Rattle.lhg_row.specs.Row.{PlainRow, PlainPoint, row_value, value_at, holds_at, Holds}
use Rattle.lhg_row.specs.Piece.{PlainPiece, InPiece}
use Rattle.lhg_row.specs.Members.{SomeOf, all_some, all-append}
use Rattle.lhg_row.specs.HasValue.{IsEmptiness}
use Rattle.lhg_row.specs.ValueLaws.{value-scaled}
use Rattle.lhg_row.specs.Width.{AllWide}
use Rattle.lhg_motion.specs.Flow.{IsFlow, displacement, times}
use Rattle.lhg_motion.specs.FlowRowLaws.{value_gap}
use Rattle.lhg_motion.specs.Join.{length-speed}
use Rattle.lhg_motion.specs.CrossCalculus.{cross}
use Rattle.lhg_motion.specs.CrossFact.{IsCross}
use Rattle.lhg_motion.specs.CrossLaws.{to_middle, cross-exact}
use Rattle.lhg_row.specs.System.{PlainSystem}
use Rattle.lhg_poly.proofs.ClashSteps.{some_item}
use Rattle.lhg_reach.specs.Before.{falling, of_kind, IsBefore, HasMore, AreBefore, IsOpening}

-- ---- values along a flow
-- coefficients and coordinates can be swapped
value-swapped : (s : Number) (cs xs : List Number) → row_value s cs xs ≡ row_value s xs cs
value-swapped s [] [] = refl
value-swapped s [] (x ∷ xs) = refl
value-swapped s (c ∷ cs) [] = refl
value-swapped s (c ∷ cs) (x ∷ xs) = ap (λ m. row_value (add s m) cs xs) (mul_comm c x) ∙ value-swapped (add s (mul x c)) cs xs

-- the value at the end less that at the start is the time times the value at the speed
value_flow : (cs x y f : List Number) (t : Number) → length x ≡ length y → displacement x y ≡ times t f → add (row_value nought cs y) (neg (row_value nought cs x)) ≡ mul t (row_value nought cs f)
value_flow cs x y f t e slope =
    sym (value_gap nought nought cs x y e) ∙ ap (λ w. row_value w cs (displacement x y)) (add-neg nought) ∙ ap (λ w. row_value nought cs w) slope
    ∙ value-swapped nought cs (times t f) ∙ ap (λ w. row_value w (times t f) cs) (sym (mul-nought t)) ∙ value-scaled t nought f cs ∙ ap (λ w. mul t w) (value-swapped nought f cs)

module _ (r : PlainRow) (x y f : PlainPoint) (t : Number) (e : length x ≡ length y) (slope : displacement x y ≡ times t f) (up : lt nought t ≡ true) where
  -- the value rises along the flow where it is above 0 at the speed, and falls where it is below
  rises_is : lt (value_at r x) (value_at r y) ≡ lt nought (value_at r f)
  rises_is =
      sym (lt-difference (value_at r x) (value_at r y)) ∙ ap (λ w. lt nought w) (value_flow r.coefs x y f t e slope)
      ∙ ap (λ w. lt w (mul t (value_at r f))) (sym (mul-nought t)) ∙ lt-mul t nought (value_at r f) up

  falls_is : lt (value_at r y) (value_at r x) ≡ lt (value_at r f) nought
  falls_is =
      sym (difference-lt (value_at r x) (value_at r y)) ∙ ap (λ w. lt w nought) (value_flow r.coefs x y f t e slope)
      ∙ ap (λ w. lt (mul t (value_at r f)) w) (sym (mul-nought t)) ∙ lt-mul t (value_at r f) nought up

  -- a row that holds at the end of a flow along which its value does not fall holds at the start
  back_weak : lt (value_at r f) nought ≡ false → Holds r y → Holds r x
  back_weak level h = back r.strict h
    where
      under : lt (value_at r y) (value_at r x) ≡ false
      under = falls_is ∙ level

      back : (s : Bool) → cond s (lt (value_at r y) r.bound) (not (lt r.bound (value_at r y))) ≡ true → cond s (lt (value_at r x) r.bound) (not (lt r.bound (value_at r x))) ≡ true
      back true k = le-lt_trans (value_at r x) (value_at r y) r.bound under k
      back false k = ap not (le_trans (value_at r x) (value_at r y) r.bound under (not-true (lt r.bound (value_at r y)) k))

  -- and strictly, where its value rises
  back_strict : lt nought (value_at r f) ≡ true → Holds r y → Holds (of_kind true r) x
  back_strict level h = back r.strict h
    where
      over : lt (value_at r x) (value_at r y) ≡ true
      over = rises_is ∙ level

      back : (s : Bool) → cond s (lt (value_at r y) r.bound) (not (lt r.bound (value_at r y))) ≡ true → lt (value_at r x) r.bound ≡ true
      back true k = le-lt_trans (value_at r x) (value_at r y) r.bound (lt_asym (value_at r x) (value_at r y) over) k
      back false k = lt-le_trans (value_at r x) (value_at r y) r.bound over (not-true (lt r.bound (value_at r y)) k)

-- ---- rows
module _ (n : ℕ) (flow : PlainPiece) (r : PlainRow) where
  -- at each legal speed the row of falling speeds fails, where no point is one of both
  never : (strict : Bool) → IsEmptiness n (flow ++ falling strict r ∷ []) true → (f : PlainPoint) → length f ≡ n → InPiece flow f → holds_at (falling strict r) f ≡ false
  never strict h f l i =
      by_bool (holds_at (falling strict r) f)
      (λ e. absurd (h f l (all-append (λ s. holds_at s f ≡ true) flow (falling strict r ∷ []) i (e, tt))))
      (λ e. e)

  -- where no speed makes it fall
  pub before_weak : IsEmptiness n (flow ++ falling true r ∷ []) true → IsBefore n flow r r
  before_weak h x y t l g k =
      back_weak r x y g.speed t g.same_length g.slope g.takes_time (never true h g.speed (length-speed g ∙ l) g.allowed) k

  -- where each makes it rise
  pub before_strict : IsEmptiness n (flow ++ falling false r ∷ []) true → IsBefore n flow r (of_kind true r)
  before_strict h x y t l g k =
      back_strict r x y g.speed t g.same_length g.slope g.takes_time
      (by_bool (lt nought (value_at r g.speed)) (λ e. e) (λ e. false_true (sym (never false h g.speed (length-speed g ∙ l) g.allowed) ∙ ap not e))) k

  -- a list of such rows stays one
  pub more-before : (rows : PlainPiece) (i : ℕ) → r ≡ get_or rows i r → i < length rows → (old new : PlainPiece) → AreBefore n flow rows old × AllWide n old → HasMore n flow r old new → AreBefore n flow rows new × AllWide n new
  more-before rows i e l old new h (inl m) = (subst (AreBefore n flow rows) (sym m) h.0, subst (AllWide n) (sym m) h.1)
  more-before rows i e l old new h (inr m) =
      let s = m.0 in
      let is = m.1.1.1 in (
        subst (AreBefore n flow rows) (sym is) (all-append (λ q. SomeOf (λ p. IsBefore n flow p q) rows) old (s ∷ []) h.0 (some_item (λ p. IsBefore n flow p s) rows i r e l m.1.1.0, tt)),
        subst (AllWide n) (sym is) (all-append (λ (q : PlainRow). length q.coefs ≡ n) old (s ∷ []) h.1 (m.1.0, tt)),
      )

-- ---- pieces
-- a near piece that has no point with such rows has no crossing into the piece
pub told-opening : (a : Arithmetic) (n : ℕ) (start into flow rows : PlainPiece) → IsLawful a → AllWide n start → AllWide n into → AllWide n flow → AreBefore n flow into rows → IsEmptiness n (start ++ rows) true → IsOpening a n into flow start false
told-opening a n start into flow rows laws ws wi wf b h way ww = none (cross a n start way into flow).value (cross-exact a n laws start way into flow ws ww wi wf)
  where
    none : (o : Option PlainPiece) → IsCross a n start way into flow o → o ≡ None
    none None c = refl
    none (Some piece) c =
        let x = c.poly.point.point in
        let l = c.poly.point.wide in
        let m = to_middle start way into flow x ((c.points x l).0 c.poly.point.holds) in
        absurd (h x l (all-append (λ s. holds_at s x ≡ true) start rows m.from_in (all_before x l m.to m.time m.legal m.into_in rows b)))
      where
        all_before : (x : PlainPoint) → length x ≡ n → (y : PlainPoint) (t : Number) → IsFlow [] flow x t y → InPiece into y → (ss : PlainPiece) → AllOf (λ s. SomeOf (λ r. IsBefore n flow r s) into) ss → InPiece ss x
        all_before x l y t g i [] k = tt
        all_before x l y t g i (s ∷ ss) k = (all_some (λ r. Holds r y) (λ r. IsBefore n flow r s) (Holds s x) (λ r here f. f x y t l g here) into i k.0, all_before x l y t g i ss k.1)

-- so an opening is what is told of it
pub opening-is : (a : Arithmetic) (n : ℕ) (start : PlainSystem) (into flow rows : PlainPiece) (b : Bool) → IsLawful a → start.width ≡ n → AllWide n into → AllWide n flow → AreBefore n flow into rows
    → (b ≡ false → IsEmptiness start.width (start.lines ++ rows) true) → (b ≡ false → AllWide start.width start.lines) → IsOpening a n into flow start.lines b
opening-is a n start into flow rows true laws w wi wf k h s = tt
opening-is a n start into flow rows false laws w wi wf k h s =
    told-opening a n start.lines into flow rows laws (subst (λ m. AllWide m start.lines) w (s refl)) wi wf k (subst (λ m. IsEmptiness m (start.lines ++ rows) true) w (h refl))
