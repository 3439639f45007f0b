-- A flow is one of the opposite flow rows the other way round.
use Rattle.std.proofs.Common.{◌≡◌, ◌↔◌, ℕ, Bool, true, not, cond, List, [], ◌∷◌, ◌++◌, map, length, refl, sym, ap, ◌∙◌, subst, arith}
use Rattle.std.proofs.lemmas.List.{length-map}
use Rattle.lhg_math.specs.Number.{Number, add, mul, neg, sub, lt, nought}
use Rattle.lhg_math.specs.NumberRing.{add_comm, mul-neg, neg-mul, neg-add, neg_neg, sub_is}
use Rattle.lhg_math.specs.Tests.{AllOf}
use Rattle.lhg_row.specs.Row.{PlainRow, PlainPoint, row_value, holds_at}
use Rattle.lhg_row.specs.Piece.{PlainPiece, InPiece}
use Rattle.lhg_row.specs.Width.{AllWide}
use Rattle.lhg_row.specs.MappedLaws.{mapped-wide}
use Rattle.lhg_motion.specs.Flow.{displacement, times, IsFlow}
use Rattle.lhg_forward.specs.After.{turned}

-- ---- opposite speeds
opposite_term : (c x : Number) → mul (neg c) x ≡ mul c (neg x)
opposite_term c x = neg-mul c x ∙ sym (mul-neg c x)

turned-value : (s : Number) (cs : List Number) (f : PlainPoint) → row_value s (map neg cs) f ≡ row_value s cs (map neg f)
turned-value s [] f = refl
turned-value s (c ∷ cs) [] = refl
turned-value s (c ∷ cs) (x ∷ f) = ap (λ w. row_value (add s w) (map neg cs) f) (opposite_term c x) ∙ turned-value (add s (mul c (neg x))) cs f

turned-holds : (r : PlainRow) (f : PlainPoint) → holds_at (turned r) f ≡ holds_at r (map neg f)
turned-holds r f = ap (λ v. cond r.strict (lt v r.bound) (not (lt r.bound v))) (turned-value nought r.coefs f)

turned-in : (rows : PlainPiece) (f : PlainPoint) → InPiece (map turned rows) f → InPiece rows (map neg f)
turned-in [] f h = tt
turned-in (r ∷ rows) f h = (sym (turned-holds r f) ∙ h.0, turned-in rows f h.1)

in-turned : (rows : PlainPiece) (f : PlainPoint) → InPiece rows (map neg f) → InPiece (map turned rows) f
in-turned [] f h = tt
in-turned (r ∷ rows) f h = (turned-holds r f ∙ h.0, in-turned rows f h.1)

twice_opposite : (f : List Number) → map neg (map neg f) ≡ f
twice_opposite [] = refl
twice_opposite (x ∷ f) = ap (λ w. w ∷ map neg (map neg f)) (neg_neg x) ∙ ap (λ w. x ∷ w) (twice_opposite f)

-- ---- the way back
back_step : (x y : Number) → sub x y ≡ neg (sub y x)
back_step x y =
    sub_is x y ∙ add_comm x (neg y) ∙ ap (λ w. add (neg y) w) (sym (neg_neg x)) ∙ sym (neg-add y (neg x)) ∙ ap neg (sym (sub_is y x))

way_back : (x y : PlainPoint) → displacement y x ≡ map neg (displacement x y)
way_back [] [] = refl
way_back [] (y ∷ ys) = refl
way_back (x ∷ xs) [] = refl
way_back (x ∷ xs) (y ∷ ys) = ap (λ w. w ∷ displacement ys xs) (back_step x y) ∙ ap (λ w. neg (sub y x) ∷ w) (way_back xs ys)

times_opposite : (t : Number) (f : List Number) → map neg (times t f) ≡ times t (map neg f)
times_opposite t [] = refl
times_opposite t (c ∷ f) = ap (λ w. w ∷ map neg (times t f)) (sym (mul-neg t c)) ∙ ap (λ w. mul t (neg c) ∷ w) (times_opposite t f)

-- a flow the other way round
pub flow_back : (flow : PlainPiece) (x y : PlainPoint) (t : Number) → IsFlow [] flow x t y → IsFlow [] (map turned flow) y t x
flow_back flow x y t h = record {
  takes_time = h.takes_time;
  from_in = tt;
  to_in = tt;
  same_length = sym h.same_length;
  speed = map neg h.speed;
  slope = way_back x y ∙ ap (map neg) h.slope ∙ times_opposite t h.speed;
  allowed = in-turned flow (map neg h.speed) (subst (λ (f : PlainPoint). InPiece flow f) (sym (twice_opposite h.speed)) h.allowed);
}

-- and back
pub back_flow : (flow : PlainPiece) (x y : PlainPoint) (t : Number) → IsFlow [] (map turned flow) y t x → IsFlow [] flow x t y
back_flow flow x y t h = record {
  takes_time = h.takes_time;
  from_in = tt;
  to_in = tt;
  same_length = sym h.same_length;
  speed = map neg h.speed;
  slope = way_back y x ∙ ap (map neg) h.slope ∙ times_opposite t h.speed;
  allowed = turned-in flow h.speed h.allowed;
}

-- the opposite rows are over as many variables
pub turned-wide : (n : ℕ) (flow : PlainPiece) → AllWide n flow → AllWide n (map turned flow)
turned-wide n flow wide = mapped-wide n n turned (λ r e. length-map r.coefs neg ∙ e) flow wide
