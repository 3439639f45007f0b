-- Whether a point is a state, is safe, or is in a region is decidable.
use Rattle.std.proofs.Common.{◌⊎◌, inl, inr, ℕ, [], length, slice_get, get_or}
use Rattle.lhg_row.specs.PieceLemmas.{piece_decided, some_decided}
use Rattle.lhg_plant.specs.Plant.{PlainPlant}
use Rattle.lhg_plant.specs.State.{PlainState, IsState, IsSafe}
use Rattle.lhg_plant.specs.Region.{PlainRegion, PlainGuards, InRegion, InGuard}
use Rattle.lhg_plant.proofs.Options.{some_decided_by}
use Rattle.lhg_row.specs.Decisions.{nat_decided}

-- a location and a point are a state or not
pub state_decided : (a : PlainPlant) (s : PlainState) → IsState a s ⊎ ¬ IsState a s
state_decided a s =
    elim (nat_decided (length s.at) (length a.vars)) [
      | inl e ↦ elim (some_decided_by _ (λ l. piece_decided l.inv s.at) (slice_get a.locs s.loc)) [ inl h ↦ inl (record { fits = e; inside = h }) | inr h ↦ inr (λ k. h k.inside) ]
      | inr e ↦ inr (λ k. e k.fits)
    ]

-- a state is safe or not
pub safe_decided : (a : PlainPlant) (s : PlainState) → IsSafe a s ⊎ ¬ IsSafe a s
safe_decided a s =
    elim (state_decided a s) [
      | inl e ↦ elim (some_decided_by _ (λ l. some_decided l.safe s.at) (slice_get a.locs s.loc)) [ inl h ↦ inl (record { state = e; safe = h }) | inr h ↦ inr (λ k. h k.safe) ]
      | inr e ↦ inr (λ k. e k.state)
    ]

-- a state is in a region or not
pub region_decided : (a : PlainPlant) (r : PlainRegion) (s : PlainState) → InRegion a r s ⊎ ¬ InRegion a r s
region_decided a r s =
    elim (state_decided a s) [
      | inl e ↦ elim (some_decided (get_or r s.loc []) s.at) [ inl h ↦ inl (record { state = e; some = h }) | inr h ↦ inr (λ k. h k.some) ]
      | inr e ↦ inr (λ k. e k.state)
    ]

-- a state is in a guard or not
pub guard_decided : (a : PlainPlant) (g : PlainGuards) (e : ℕ) (s : PlainState) → InGuard a g e s ⊎ ¬ InGuard a g e s
guard_decided a g e s =
    elim (state_decided a s) [
      | inl i ↦ elim (some_decided_by _ (λ w. nat_decided w.from s.loc) (slice_get a.switches e)) [
        | inl j ↦ elim (some_decided (get_or g e []) s.at) [ inl h ↦ inl (record { state = i; leaves = j; some = h }) | inr h ↦ inr (λ k. h k.some) ]
        | inr j ↦ inr (λ k. j k.leaves)
      ]
      | inr i ↦ inr (λ k. i k.state)
    ]
