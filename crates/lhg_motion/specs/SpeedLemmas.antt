-- The speed of a flow is determined by its ends and its time, so whether a flow is legal is decidable.
use Rattle.std.specs.Prelude.{◌≡◌, ◌⊎◌, List, [], ◌∷◌, length}
use Rattle.std.proofs.Common.{refl, sym, ap, ◌∙◌, inl, inr, subst}
use Rattle.lhg_math.specs.Number.{Number, mul, lt, nought, unit, inverse}
use Rattle.lhg_math.specs.NumberRing.{mul_assoc, mul_comm}
use Rattle.lhg_math.specs.Quotients.{mul-inverse, abs_pos_of_lt}
use Rattle.lhg_math.specs.InterpolateLaws.{unit-mul}
use Rattle.lhg_math.specs.Tests.{by_bool}
use Rattle.lhg_row.specs.Row.{PlainPoint}
use Rattle.lhg_row.specs.Piece.{PlainPiece, InPiece}
use Rattle.lhg_row.specs.PieceLemmas.{piece_decided}
use Rattle.lhg_motion.specs.Flow.{displacement, times, IsFlow}
use Rattle.lhg_row.specs.Decisions.{nat_decided}
use Rattle.lhg_motion.specs.Speed.{speed_of, IsFlowBySpeed}

-- a multiple by a number and by its inverse is the same list
times_one : (s t : Number) → mul s t ≡ unit → (f : List Number) → times s (times t f) ≡ f
times_one s t e [] = refl
times_one s t e (c ∷ f) = ap (λ w. w ∷ times s (times t f)) (sym (mul_assoc s t c) ∙ ap (λ w. mul w c) e ∙ unit-mul c) ∙ ap (λ w. c ∷ w) (times_one s t e f)

-- a legal flow is one by its computed speed
pub flow_speed : (inv flow : PlainPiece) (x : PlainPoint) (t : Number) (y : PlainPoint) → IsFlow inv flow x t y → IsFlowBySpeed inv flow x t y
flow_speed inv flow x t y h =
    let one : mul (inverse t) t ≡ unit = mul_comm (inverse t) t ∙ mul-inverse t (abs_pos_of_lt t h.takes_time) in
    let same : h.speed ≡ speed_of x t y = sym (ap (λ w. times (inverse t) w) h.slope ∙ times_one (inverse t) t one h.speed) in
    record { takes_time = h.takes_time; from_in = h.from_in; to_in = h.to_in; same_length = h.same_length; allowed = subst (λ (w : List Number). InPiece flow w) same h.allowed }

-- a flow that is legal by its computed speed is legal
pub speed_flow : (inv flow : PlainPiece) (x : PlainPoint) (t : Number) (y : PlainPoint) → IsFlowBySpeed inv flow x t y → IsFlow inv flow x t y
speed_flow inv flow x t y h = record {
  takes_time = h.takes_time;
  from_in = h.from_in;
  to_in = h.to_in;
  same_length = h.same_length;
  speed = speed_of x t y;
  slope = sym (times_one t (inverse t) (mul-inverse t (abs_pos_of_lt t h.takes_time)) (displacement x y));
  allowed = h.allowed;
}

-- a flow is legal or not
pub flow_decided : (inv flow : PlainPiece) (x : PlainPoint) (t : Number) (y : PlainPoint) → IsFlow inv flow x t y ⊎ ¬ IsFlow inv flow x t y
flow_decided inv flow x t y =
    by_bool (lt nought t)
    (λ e. elim (nat_decided (length x) (length y)) [
      | inl l ↦ elim (piece_decided inv x) [
        | inl i ↦ elim (piece_decided inv y) [
          | inl j ↦ elim (piece_decided flow (speed_of x t y)) [
            | inl k ↦ inl (speed_flow inv flow x t y (record { takes_time = e; from_in = i; to_in = j; same_length = l; allowed = k }))
            | inr k ↦ inr (λ h. k (flow_speed inv flow x t y h).allowed)
          ]
          | inr j ↦ inr (λ h. j h.to_in)
        ]
        | inr i ↦ inr (λ h. i h.from_in)
      ]
      | inr l ↦ inr (λ h. l h.same_length)
    ])
    (λ e. inr (λ h. let f = h.takes_time in cc))
