-- Out shrinks and Back grows when the set grows, so an escape from a set is one from each smaller set.
use Rattle.std.proofs.Common.{inl, inr, ℕ, slice_get}
use Rattle.lhg_motion.specs.PlayLemmas.{earlier_weaken}
use Rattle.lhg_plant.specs.declared.plants.Side.{Side}
use Rattle.lhg_plant.specs.declared.plants.Side.TheVariants.{Ctl, Env, Pick}
use Rattle.lhg_plant.specs.Plant.{PlainPlant}
use Rattle.lhg_plant.specs.State.{PlainState, IsState, moved_to}
use Rattle.lhg_plant.specs.OutBack.{Out, StaysBy, BackBy, Back}
use Rattle.lhg_plant.specs.Escape.{MayPass, HasEscape}
use Rattle.lhg_plant.proofs.Options.{some_weaken}

-- what stays in a set by a switch is a state
pub stays_is_state : (side : Side) (a : PlainPlant) (S : PlainState → Type 0) (e : ℕ) (s : PlainState) → StaysBy side a S e s → IsState a s
stays_is_state Ctl a S e s h = h.0.1.start
stays_is_state Env a S e s h = absurd h
stays_is_state Pick a S e s h = h.1.start

-- what stays in a set by a switch stays in each larger set
stays_grows : (side : Side) (a : PlainPlant) (T S : PlainState → Type 0) → ((s : PlainState) → T s → S s) → (e : ℕ) (s : PlainState)
    → StaysBy side a T e s → StaysBy side a S e s
stays_grows Ctl a T S f e s h = (h.0, λ z legal. f z (h.1 z legal))
stays_grows Env a T S f e s h = h
stays_grows Pick a T S f e s h = (h.0, h.1, f h.0 h.2)

module _ (a : PlainPlant) (T S : PlainState → Type 0) (within : (s : PlainState) → T s → S s) where
  pub out_shrinks : (s : PlainState) → Out a S s → Out a T s
  out_shrinks s (inl h) = inl (h.0, λ t. h.1 (within s t))
  out_shrinks s (inr h) = inr (record { number = h.number; result = h.result; side = h.side; legal = h.legal; gone = λ t. h.gone (within h.result t) })

  -- Back by a switch grows with the set
  pub back_by_grows : (e : ℕ) (s : PlainState) → BackBy a T e s → BackBy a S e s
  back_by_grows e s h = some_weaken _ _ (λ w k. stays_grows w.side a T S within e s k) (slice_get a.switches e) h

  -- Back grows with the set
  pub back_grows : (s : PlainState) → Back a T s → Back a S s
  back_grows s h = (h.0, back_by_grows h.0 s h.1)

  -- what an escape from the larger set may pass, one from the smaller may pass
  passes : (s : PlainState) → MayPass a S (Back a S) s → MayPass a T (Back a T) s
  passes s (inl o) = inl (out_shrinks s o)
  passes s (inr n) = inr (λ b. n (back_grows s b))

  -- an escape from the larger set is one from the smaller
  pub escape_shrinks : (s : PlainState) → HasEscape a S (Back a S) s → HasEscape a T (Back a T) s
  escape_shrinks s h = (
    h.0,
    record {
      play = h.1.play;
      ends = out_shrinks _ h.1.ends;
      earlier = earlier_weaken _ _ (λ p k. passes (moved_to s p) k) s.at h.0 h.1.earlier;
    },
  )
