-- What does an advice say of a state, and what is it worth?
use Rattle.std.specs.Prelude.{◌≡◌, ◌<◌, ◌↔◌, ℕ, true, IsTrue, Contains}
use Rattle.std.specs.List.{AllPairs}
use Rattle.lhg_plant.specs.Plant.{PlainPlant}
use Rattle.lhg_plant.specs.State.{PlainState, IsSafe}
use Rattle.lhg_plant.specs.OutBack.{BackBy}
use Rattle.lhg_plant.specs.Escape.{HasEscape}
use Rattle.lhg_plant.specs.Region.{InRegion, InSomeGuard}
use Rattle.lhg_plant.specs.Controller.{PlainController}
use Rattle.lhg_uses.specs.Allowed.{IsAllowed}
use Rattle.lhg_uses.specs.declared.advising.Advice.{Advice}

-- it tells whether the state is in the region, and exactly the switches that may be taken, each once and in the plant's order
pub record IsAdvice (a : PlainPlant) (c : PlainController) (s : PlainState) (d : Advice) : Type 0 where
  pub inside : IsTrue d.inside ↔ InRegion a c.region s
  pub allowed : (e : ℕ) → Contains d.allowed.items e ↔ IsAllowed a c s e
  pub ordered : AllPairs (λ e f. e < f) d.allowed.items

-- it may be followed: a state that is inside is safe, and the plant cannot leave the region from it before a guard holds; a state at which a
-- switch may be taken is in the region, and the switch keeps it there
pub record KeepsSafe (a : PlainPlant) (c : PlainController) (s : PlainState) (d : Advice) : Type 0 where
  pub safe : d.inside ≡ true → IsSafe a s
  pub waits : d.inside ≡ true → ¬ HasEscape a (InRegion a c.region) (InSomeGuard a c.guards) s
  pub stays : (e : ℕ) → Contains d.allowed.items e → InRegion a c.region s × BackBy a (InRegion a c.region) e s
