-- Equal sets have the same next round and the same sound records, and a sound record stays sound in a longer list.
use Rattle.std.proofs.Common.{◌≡◌, ◌↔◌, ℕ, zero, suc, List, [], ◌∷◌, ◌++◌, Some, slice_get, inl, inr}
use Rattle.lhg_motion.specs.PlayLemmas.{earlier_weaken}
use Rattle.lhg_plant.specs.Plant.{PlainPlant}
use Rattle.lhg_plant.specs.State.{PlainState, IsState, moved_to}
use Rattle.lhg_plant.specs.OutBack.{Back}
use Rattle.lhg_plant.specs.Escape.{MayPass}
use Rattle.lhg_plant.specs.Round.{Next}
use Rattle.lhg_plant.specs.Loss.{PlainCause, by_env, by_leave, by_flow, PlainLoss, InLoss, IsEarlierLoss, HasFlowTo, HasMove}
use Rattle.lhg_plant.specs.Sound.{Shows, IsSoundBetween}
use Rattle.lhg_plant.proofs.Monotone.{out_shrinks, back_grows, escape_shrinks}

-- ---- equal sets
module _ (a : PlainPlant) (S T : PlainState → Type 0) (same : (s : PlainState) → S s ↔ T s) where
  -- what an escape from the one may pass, one from the other may pass
  may_same : (s : PlainState) → MayPass a S (Back a S) s → MayPass a T (Back a T) s
  may_same s (inl o) = inl (out_shrinks a T S (λ z t. (same z).1 t) s o)
  may_same s (inr n) = inr (λ b. n (back_grows a T S (λ z t. (same z).1 t) s b))

  -- the states without an escape are the same
  pub next_same : (s : PlainState) → Next a S s → Next a T s
  next_same s h = ((same s).0 h.0, λ e. h.1 (escape_shrinks a S T (λ z k. (same z).0 k) s e))

  flow_same : (target goal : PlainState → Type 0) (s : PlainState) → ((z : PlainState) → target z → goal z) → HasFlowTo a S target s → HasFlowTo a T goal s
  flow_same target goal s f h =
      record { move = h.move; legal = h.legal; ends = f _ h.ends; earlier = earlier_weaken _ _ (λ p k. may_same (moved_to s p) k) s.at (h.move ∷ []) h.earlier }

  move_same : (losses : List PlainLoss) (loss : PlainLoss) (cause : PlainCause) (s : PlainState) → HasMove a S losses loss cause s → HasMove a T losses loss cause s
  move_same losses loss (by_env e into) s h = record { side = h.side; result = h.result; legal = h.legal; gone = λ t. h.gone ((same h.result).1 t) }
  move_same losses loss (by_leave through into) s h = flow_same (λ z. IsState a z × ¬ S z) (λ z. IsState a z × ¬ T z) s (λ z k. (k.0, λ t. k.1 ((same z).1 t))) h
  move_same losses loss (by_flow m through) s h = (h.0, h.1, flow_same (InLoss a h.0) (InLoss a h.0) s (λ z k. k) h.2)

  shows_same : (losses : List PlainLoss) (loss : PlainLoss) (cause : PlainCause) → Shows a S losses loss cause → Shows a T losses loss cause
  shows_same losses loss (by_env e into) h =
      record { side = h.side; target = h.target; enters = h.enters; inside = h.inside; result = h.result; missed = λ z k t. h.missed z k ((same z).1 t) }
  shows_same losses loss (by_leave through into) h = record {
    through_inside = h.through_inside;
    into_inside = h.into_inside;
    flow = h.flow;
    missed = λ z k t. h.missed z k ((same z).1 t);
    passed = λ z k. may_same z (h.passed z k);
  }
  shows_same losses loss (by_flow m through) h =
      record { through_inside = h.through_inside; earlier = h.earlier; is_earlier = h.is_earlier; flow = h.flow; passed = λ z k. may_same z (h.passed z k) }

  -- a record that is sound between two sets is sound between equal ones
  pub sound_same : (U V : PlainState → Type 0) (losses : List PlainLoss) (loss : PlainLoss) → ((s : PlainState) → InLoss a loss s → V s → U s)
      → IsSoundBetween a S U losses loss → IsSoundBetween a T V losses loss
  sound_same U V losses loss after h = record {
    is_true = record {
      kept = λ s k. (same s).0 (h.is_true.kept s k);
      gone = λ s k v. h.is_true.gone s k (after s k v);
      move = λ s k. move_same losses loss loss.cause s (h.is_true.move s k);
    };
    inside = h.inside;
    shows = shows_same losses loss loss.cause h.shows;
  }

-- ---- longer lists
-- each record of the one list is one of the other
abbrev pub IsWithin : List PlainLoss → List PlainLoss → Type 0
IsWithin losses more = (k : ℕ) (x : PlainLoss) → slice_get losses k ≡ Some x → (j : ℕ) × (slice_get more j ≡ Some x)

left_there : (xs ys : List PlainLoss) (k : ℕ) (x : PlainLoss) → slice_get xs k ≡ Some x → slice_get (xs ++ ys) k ≡ Some x
left_there [] ys k x e = cc
left_there (y ∷ xs) ys zero x e = e
left_there (y ∷ xs) ys (suc k) x e = left_there xs ys k x e

-- the first list is within both together
pub within_left : (xs ys : List PlainLoss) → IsWithin xs (xs ++ ys)
within_left xs ys k x e = (k, left_there xs ys k x e)

-- so is the second
pub within_right : (xs ys : List PlainLoss) → IsWithin ys (xs ++ ys)
within_right [] ys k x e = (k, e)
within_right (y ∷ xs) ys k x e = let r = within_right xs ys k x e in (suc r.0, r.1)

module _ (a : PlainPlant) (losses more : List PlainLoss) (within : IsWithin losses more) where
  earlier_within : (m : ℕ) (loss earlier : PlainLoss) → IsEarlierLoss losses m loss earlier → IsEarlierLoss more m loss earlier
  earlier_within m loss earlier h =
      let w = within h.index earlier h.is_there in
      record { index = w.0; is_there = w.1; number = h.number; smaller = h.smaller; same_round = h.same_round; same_loc = h.same_loc }

  move_within : (S : PlainState → Type 0) (loss : PlainLoss) (cause : PlainCause) (s : PlainState) → HasMove a S losses loss cause s → HasMove a S more loss cause s
  move_within S loss (by_env e into) s h = h
  move_within S loss (by_leave through into) s h = h
  move_within S loss (by_flow m through) s h = (h.0, earlier_within m loss h.0 h.1, h.2)

  shows_within : (S : PlainState → Type 0) (loss : PlainLoss) (cause : PlainCause) → Shows a S losses loss cause → Shows a S more loss cause
  shows_within S loss (by_env e into) h = h
  shows_within S loss (by_leave through into) h = h
  shows_within S loss (by_flow m through) h =
      record { through_inside = h.through_inside; earlier = h.earlier; is_earlier = earlier_within m loss h.earlier h.is_earlier; flow = h.flow; passed = h.passed }

  -- a record that is sound in the one list is sound in the other
  pub sound_within : (S U : PlainState → Type 0) (loss : PlainLoss) → IsSoundBetween a S U losses loss → IsSoundBetween a S U more loss
  sound_within S U loss h = record {
    is_true = record { kept = h.is_true.kept; gone = h.is_true.gone; move = λ s k. move_within S loss loss.cause s (h.is_true.move s k) };
    inside = h.inside;
    shows = shows_within S loss loss.cause h.shows;
  }
