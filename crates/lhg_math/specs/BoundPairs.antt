-- When do two bounds of one side together allow a value?
use Rattle.std.specs.Prelude.{◌≡◌, Bool, true, false, ◌||◌, ◌&&◌}
use Rattle.std.proofs.Common.{refl, sym, ◌∙◌}
use Rattle.std.proofs.Math.Bool.{and-false}
use Rattle.lhg_math.specs.Number.{Number, lt}
use Rattle.lhg_math.specs.NumberOrder.{lt_asym, lt-le_trans, le-lt_trans}
use Rattle.lhg_math.specs.Bounds.{Bound, under, over, le_from_over, le_from_under, over_from_lt, under_from_lt}
use Rattle.lhg_math.specs.Tests.{by_bool}

-- what is above a bound is above a lesser one
pub below_greater : (l m : Bound) (v : Number) → lt l.at m.at ≡ true → over m v ≡ (over l v && over m v)
below_greater l m v h =
    by_bool (over m v) (λ e. let k : over l v ≡ true = over_from_lt l v (lt-le_trans l.at m.at v h (le_from_over m v e)) in e ∙ sym (rw (k, e) refl)) (λ e. e ∙ sym (rw e (and-false (over l v))))

-- what is below a bound is below a greater one
pub above_lesser : (l m : Bound) (v : Number) → lt l.at m.at ≡ true → under l v ≡ (under l v && under m v)
above_lesser l m v h =
    by_bool (under l v) (λ e. let k : under m v ≡ true = under_from_lt m v (le-lt_trans v l.at m.at (le_from_under l v e) h) in e ∙ sym (rw (e, k) refl)) (λ e. e ∙ sym (rw e refl))

-- the bound at a number, strict or not
abbrev pub bounded : Number → Bool → Bound
bounded b strict = record { at = b; strict = strict }

-- two lower bounds at one number are together strict where either is
pub over_both : (b v : Number) (t u : Bool) → over (bounded b (t || u)) v ≡ (over (bounded b t) v && over (bounded b u) v)
over_both b v true true = by_bool (lt b v) (λ e. rw e refl) (λ e. rw e refl)
over_both b v true false = by_bool (lt b v) (λ e. rw (e, lt_asym b v e) refl) (λ e. rw e refl)
over_both b v false true = by_bool (lt b v) (λ e. rw (e, lt_asym b v e) refl) (λ e. by_bool (lt v b) (λ f. rw (e, f) refl) (λ f. rw (e, f) refl))
over_both b v false false = by_bool (lt v b) (λ e. rw e refl) (λ e. rw e refl)

-- so are two upper bounds
pub under_both : (b v : Number) (t u : Bool) → under (bounded b (t || u)) v ≡ (under (bounded b t) v && under (bounded b u) v)
under_both b v true true = by_bool (lt v b) (λ e. rw e refl) (λ e. rw e refl)
under_both b v true false = by_bool (lt v b) (λ e. rw (e, lt_asym v b e) refl) (λ e. rw e refl)
under_both b v false true = by_bool (lt v b) (λ e. rw (e, lt_asym v b e) refl) (λ e. by_bool (lt b v) (λ f. rw (e, f) refl) (λ f. rw (e, f) refl))
under_both b v false false = by_bool (lt b v) (λ e. rw e refl) (λ e. rw e refl)
