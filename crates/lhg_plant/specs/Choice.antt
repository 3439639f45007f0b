-- Which result has a switch, and which results may a controller choose by switches of side `pick`?
use Rattle.std.specs.Prelude.{◌≡◌, ℕ, zero, Option, Some, None, slice_get, IsSomeAnd}
use Rattle.lhg_row.specs.Row.{PlainPoint}
use Rattle.lhg_plant.specs.Plant.{PlainPlant, PlainSwitch}
use Rattle.lhg_plant.specs.State.{PlainState, IsState}
use Rattle.lhg_plant.specs.Legal.{LegalSwitch}
use Rattle.lhg_plant.specs.Region.{PlainRegion, InRegion}

-- the location that a switch enters
abbrev pub target_in : Option PlainSwitch → ℕ
target_in None = zero
target_in (Some w) = w.to

-- a point in the location that switch e enters
abbrev pub result_at : PlainPlant → ℕ → PlainPoint → PlainState
result_at a e p = record { loc = target_in (slice_get a.switches e); at = p }

-- of a switch and a state at which it is taken: the point of the result, where one is chosen
abbrev pub Choice : Type 0
Choice = ℕ → PlainState → Option PlainPoint

-- at a state that the switch leaves, the result that is chosen is legal and in the region, and one is chosen where some legal
-- result is in the region
pub record IsLegalChoice (a : PlainPlant) (region : PlainRegion) (choice : Choice) : Type 0 where
  pub legal : (e : ℕ) (s : PlainState) (y : PlainPoint) → IsState a s → IsSomeAnd (slice_get a.switches e) (λ w. w.from ≡ s.loc)
      → choice e s ≡ Some y → LegalSwitch a e s (result_at a e y) × InRegion a region (result_at a e y)
  pub found : (e : ℕ) (s z : PlainState) → LegalSwitch a e s z → InRegion a region z → (y : PlainPoint) × (choice e s ≡ Some y)
