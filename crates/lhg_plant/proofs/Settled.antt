-- The region of a settled round with its guards is a valid controller.
use Rattle.std.proofs.Common.{◌↔◌, inl, inr, ℕ, suc, slice_get, Option, Some, None, IsSomeAnd}
use Rattle.lhg_motion.specs.PlayLemmas.{earlier_weaken}
use Rattle.lhg_plant.specs.Plant.{PlainPlant, PlainSwitch}
use Rattle.lhg_plant.specs.State.{PlainState, IsState, moved_to}
use Rattle.lhg_plant.specs.OutBack.{Back, BackBy, StaysBy}
use Rattle.lhg_plant.specs.Escape.{MayPass, IsSecure}
use Rattle.lhg_plant.specs.Round.{InRound, RemovesNothing}
use Rattle.lhg_plant.specs.Region.{InRegion, InGuard, InSomeGuard}
use Rattle.lhg_plant.specs.Controller.{PlainController, IsValid}
use Rattle.lhg_plant.proofs.Decided.{state_decided, region_decided}
use Rattle.lhg_plant.proofs.Monotone.{stays_is_state, escape_shrinks}
use Rattle.lhg_plant.proofs.Rounds.{settled_secure}

-- what is in Back by a switch is a state
back_is_state : (a : PlainPlant) (S : PlainState → Type 0) (e : ℕ) (s : PlainState) → BackBy a S e s → IsState a s
back_is_state a S e s h = found (slice_get a.switches e) h
  where
    found : (o : Option PlainSwitch) → IsSomeAnd o (λ w. StaysBy w.side a S e s) → IsState a s
    found None k = absurd k
    found (Some w) k = stays_is_state w.side a S e s k

-- secure sets may be exchanged for equal ones
pub secure_equal : (a : PlainPlant) (S T : PlainState → Type 0) → ((s : PlainState) → S s ↔ T s) → IsSecure a T → IsSecure a S
secure_equal a S T same h = record {
  safe = λ s k. h.safe s ((same s).0 k);
  closed = λ s k escape. h.closed s ((same s).0 k) (escape_shrinks a T S (λ z t. (same z).1 t) s escape);
}

module _ (a : PlainPlant) (c : PlainController) (guards : (e : ℕ) (s : PlainState) → InGuard a c.guards e s ↔ (InRegion a c.region s × BackBy a (InRegion a c.region) e s)) where
  -- what passes the guards passes Back
  passes_back : (s : PlainState) → MayPass a (InRegion a c.region) (InSomeGuard a c.guards) s
      → MayPass a (InRegion a c.region) (Back a (InRegion a c.region)) s
  passes_back s (inl o) = inl o
  passes_back s (inr n) =
      elim (region_decided a c.region s) [
        | inl k ↦ inr (λ b. n (b.0, (guards b.0 s).1 (k, b.1)))
        | inr k ↦ elim (state_decided a s) [ inl i ↦ inl (inl (i, k)) | inr i ↦ inr (λ b. i (back_is_state a (InRegion a c.region) b.0 s b.1)) ]
      ]

  -- a secure region with these guards is a valid controller
  pub secure_valid : IsSecure a (InRegion a c.region) → IsValid a c
  secure_valid secure = record {
    safe = secure.safe;
    guarded = λ e s h. (guards e s).0 h;
    closed = λ s h escape. secure.closed s h (
      escape.0,
      record {
        play = escape.1.play;
        ends = escape.1.ends;
        earlier = earlier_weaken _ _ (λ p k. passes_back (moved_to s p) k) s.at escape.0 escape.1.earlier;
      },
    );
  }

  -- so is the region of a round after which nothing is removed
  pub settled_valid : (i : ℕ) → RemovesNothing a (suc i) → ((s : PlainState) → InRegion a c.region s ↔ InRound a i s) → IsValid a c
  settled_valid i settled same = secure_valid (secure_equal a (InRegion a c.region) (InRound a i) same (settled_secure a i settled))
