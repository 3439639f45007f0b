-- Straight pieces join, and a part of a flow is a flow.
use Rattle.std.specs.Prelude.{◌≡◌, true, List, [], ◌∷◌, length}
use Rattle.std.proofs.Common.{refl, sym, ap, ◌∙◌, arith, subst}
use Rattle.lhg_math.specs.Number.{Number, add, mul, neg, sub, lt, nought, unit, quot}
use Rattle.lhg_math.specs.NumberRing.{sub_is, sums, add_comm, add-nought, add-neg, mul-add, mul_assoc, mul-unit, mul-nought, neg_nought}
use Rattle.lhg_math.specs.NumberOrder.{lt-mul, lt_asym, lt-difference, mul_positive}
use Rattle.lhg_math.specs.Quotients.{mul-quot, abs_pos_of_lt}
use Rattle.lhg_math.specs.SumSigns.{add_positive, sum-lt}
use Rattle.lhg_math.specs.Interpolate.{interpolate}
use Rattle.lhg_math.specs.InterpolateLaws.{interpolate_is, interpolate_step}
use Rattle.lhg_math.specs.Places.{IsPlace}
use Rattle.lhg_math.specs.PlacesLaws.{start_place}
use Rattle.lhg_row.specs.Row.{PlainPoint}
use Rattle.lhg_row.specs.Piece.{PlainPiece}
use Rattle.lhg_motion.specs.Segment.{along}
use Rattle.lhg_motion.specs.SegmentLemmas.{along_start, length-along}
use Rattle.lhg_motion.specs.Convex.{piece_convex}
use Rattle.lhg_motion.specs.Flow.{displacement, times, IsFlow}

-- a displacement has as many coordinates as the ends
pub length-displacement : (x y : PlainPoint) → length x ≡ length y → length (displacement x y) ≡ length x
length-displacement [] ys e = refl
length-displacement (x ∷ xs) [] e = absurd (omega arith)
length-displacement (x ∷ xs) (y ∷ ys) e = let k = length-displacement xs ys (omega arith) in omega arith

-- a multiple has as many coordinates
length-times : (t : Number) (f : List Number) → length (times t f) ≡ length f
length-times t [] = refl
length-times t (c ∷ f) = let k = length-times t f in omega arith

-- the speed of a flow has as many coordinates as its start
pub length-speed : {inv flow : PlainPiece} {x y : PlainPoint} {t : Number} (h : IsFlow inv flow x t y) → length h.speed ≡ length x
length-speed {x = x} {y = y} {t = t} h = sym (length-times t h.speed) ∙ ap length (sym h.slope) ∙ length-displacement x y h.same_length

-- coordinate by coordinate
abbrev sums_of : List Number → List Number → List Number
sums_of [] ys = []
sums_of (x ∷ xs) [] = []
sums_of (x ∷ xs) (y ∷ ys) = add x y ∷ sums_of xs ys

-- the way from x to z is the way from x to y and that from y to z
sub_sub : (x y z : Number) → sub z x ≡ add (sub y x) (sub z y)
sub_sub x y z =
    let s : add (add y (neg x)) (add z (neg y)) ≡ add (add z (neg x)) (add y (neg y)) = simp sums in
    sub_is z x ∙ sym (s ∙ ap (λ w. add (add z (neg x)) w) (add-neg y) ∙ add-nought _)
    ∙ ap (λ w. add w (add z (neg y))) (sym (sub_is y x)) ∙ ap (λ w. add (sub y x) w) (sym (sub_is z y))

-- the same, coordinate by coordinate
displacement_sum : (x y z : PlainPoint) → length x ≡ length y → length y ≡ length z → displacement x z ≡ sums_of (displacement x y) (displacement y z)
displacement_sum [] ys zs e f = refl
displacement_sum (x ∷ xs) [] zs e f = absurd (omega arith)
displacement_sum (x ∷ xs) (y ∷ ys) [] e f = absurd (omega arith)
displacement_sum (x ∷ xs) (y ∷ ys) (z ∷ zs) e f =
    ap (λ w. w ∷ displacement xs zs) (sub_sub x y z) ∙ ap (λ w. add (sub y x) (sub z y) ∷ w) (displacement_sum xs ys zs (omega arith) (omega arith))

-- s * f + t * g is (s + t) times the number at the place t / (s + t) from f to g
mean_step : (s t q f g : Number) → mul (add s t) q ≡ t → add (mul s f) (mul t g) ≡ mul (add s t) (interpolate f g q)
mean_step s t q f g e =
    let d = add g (neg f) in
    let s1 : add (mul (add s t) f) (mul t d) ≡ add (add (mul s f) (mul t g)) (add (mul t f) (neg (mul t f))) = simp sums in
    sym (ap (λ w. mul (add s t) w) (interpolate_is f g q) ∙ mul-add (add s t) f (mul q d) ∙ ap (λ w. add (mul (add s t) f) w) (sym (mul_assoc (add s t) q d))
    ∙ ap (λ w. add (mul (add s t) f) (mul w d)) e ∙ s1 ∙ ap (λ w. add (add (mul s f) (mul t g)) w) (add-neg (mul t f)) ∙ add-nought _)

-- the same, coordinate by coordinate
mean_steps : (s t q : Number) (f g : List Number) → length f ≡ length g → mul (add s t) q ≡ t
    → sums_of (times s f) (times t g) ≡ times (add s t) (along f g q)
mean_steps s t q [] gs l e = refl
mean_steps s t q (f ∷ fs) [] l e = absurd (omega arith)
mean_steps s t q (f ∷ fs) (g ∷ gs) l e =
    ap (λ w. w ∷ sums_of (times s fs) (times t gs)) (mean_step s t q f g e) ∙ ap (λ w. mul (add s t) (interpolate f g q) ∷ w) (mean_steps s t q fs gs (omega arith) e)

-- t / (s + t) is a place
share_place : (s t q : Number) → lt nought s ≡ true → lt nought t ≡ true → lt nought (add s t) ≡ true → mul (add s t) q ≡ t → IsPlace q
share_place s t q h k c e = record {
  from = sym (lt-mul (add s t) q nought c) ∙ ap (λ w. lt w (mul (add s t) nought)) e ∙ ap (λ w. lt t w) (mul-nought (add s t)) ∙ lt_asym nought t k;
  upto = sym (lt-mul (add s t) unit q c) ∙ ap (λ w. lt (mul (add s t) unit) w) e ∙ ap (λ w. lt w t) (mul-unit (add s t) ∙ add_comm s t) ∙ sum-lt t s ∙ lt_asym nought s h;
}

-- two flows in the times s and t make one in the time s + t
pub flow_join : (inv flow : PlainPiece) (x y z : PlainPoint) (s t : Number) → IsFlow inv flow x s y → IsFlow inv flow y t z
    → IsFlow inv flow x (add s t) z
flow_join inv flow x y z s t h k =
    let both : lt nought (add s t) ≡ true = add_positive s t h.takes_time (lt_asym nought t k.takes_time) in
    let q = quot t (add s t) in
    let e : mul (add s t) q ≡ t = mul-quot t (add s t) (abs_pos_of_lt (add s t) both) in
    let l : length h.speed ≡ length k.speed = length-speed h ∙ h.same_length ∙ sym (length-speed k) in
    record {
      takes_time = both;
      from_in = h.from_in;
      to_in = k.to_in;
      same_length = h.same_length ∙ k.same_length;
      speed = along h.speed k.speed q;
      slope = displacement_sum x y z h.same_length k.same_length ∙ ap (λ w. sums_of w (displacement y z)) h.slope ∙ ap (λ w. sums_of (times s h.speed) w) k.slope ∙ mean_steps s t q h.speed k.speed l e;
      allowed = piece_convex flow h.speed k.speed q l h.allowed k.allowed (share_place s t q h.takes_time k.takes_time both e);
    }

-- the way between two places of a segment is that part of the whole way
displacement_part : (x y : PlainPoint) (u v : Number) → length x ≡ length y
    → displacement (along x y u) (along x y v) ≡ times (add v (neg u)) (displacement x y)
displacement_part [] ys u v e = refl
displacement_part (x ∷ xs) [] u v e = absurd (omega arith)
displacement_part (x ∷ xs) (y ∷ ys) u v e =
    ap (λ w. w ∷ displacement (along xs ys u) (along xs ys v)) (sub_is _ _ ∙ interpolate_step x y u v ∙ ap (λ w. mul (add v (neg u)) w) (sym (sub_is y x)))
    ∙ ap (λ w. mul (add v (neg u)) (sub y x) ∷ w) (displacement_part xs ys u v (omega arith))

-- a multiple of a multiple
times_times : (s t : Number) (f : List Number) → times s (times t f) ≡ times (mul s t) f
times_times s t [] = refl
times_times s t (c ∷ f) = ap (λ w. w ∷ times s (times t f)) (sym (mul_assoc s t c)) ∙ ap (λ w. mul (mul s t) c ∷ w) (times_times s t f)

-- the part of a flow between the places u and v is a flow
pub flow_part : (inv flow : PlainPiece) (x y : PlainPoint) (t u v : Number) → IsFlow inv flow x t y → IsPlace u → IsPlace v → lt u v ≡ true
    → IsFlow inv flow (along x y u) (mul (add v (neg u)) t) (along x y v)
flow_part inv flow x y t u v h i j less = record {
  takes_time = mul_positive (add v (neg u)) t (lt-difference u v ∙ less) h.takes_time;
  from_in = piece_convex inv x y u h.same_length h.from_in h.to_in i;
  to_in = piece_convex inv x y v h.same_length h.from_in h.to_in j;
  same_length = length-along x y u h.same_length ∙ sym (length-along x y v h.same_length);
  speed = h.speed;
  slope = displacement_part x y u v h.same_length ∙ ap (λ w. times (add v (neg u)) w) h.slope ∙ times_times (add v (neg u)) t h.speed;
  allowed = h.allowed;
}

-- the part up to the place p takes p times the time
pub flow_upto : (inv flow : PlainPiece) (x y : PlainPoint) (t p : Number) → IsFlow inv flow x t y → IsPlace p → lt nought p ≡ true
    → IsFlow inv flow x (mul p t) (along x y p)
flow_upto inv flow x y t p h j less =
    let g = flow_part inv flow x y t nought p h start_place j less in
    let time : mul (add p (neg nought)) t ≡ mul p t = ap (λ w. mul w t) (ap (λ w. add p w) neg_nought ∙ add-nought p) in
    subst (λ (w : Number). IsFlow inv flow x w (along x y p)) time (subst (λ (w : PlainPoint). IsFlow inv flow w (mul (add p (neg nought)) t) (along x y p)) (along_start x y h.same_length) g)
