-- What solves the game of a plant: which region, guards, records and number of rounds?
use Rattle.std.specs.Prelude.{ℕ, List, Contains, ◌↔◌}
use Rattle.lhg_plant.specs.Plant.{PlainPlant}
use Rattle.lhg_plant.specs.State.{PlainState, IsSafe}
use Rattle.lhg_plant.specs.Escape.{IsSecure}
use Rattle.lhg_plant.specs.Round.{IsRemovedIn, IsLastRound}
use Rattle.lhg_plant.specs.Region.{PlainRegion, InRegion}
use Rattle.lhg_plant.specs.Controller.{PlainController, IsValid}
use Rattle.lhg_plant.specs.Loss.{PlainLoss, InLoss, IsTrueLoss}
use Rattle.lhg_plant.specs.Choice.{Choice, IsLegalChoice}
use Rattle.lhg_plant.specs.Run.{PlainEntry}
use Rattle.lhg_plant.specs.Log.{IsLegalLog, StaysInside}

-- some secure region holds the state
abbrev pub InSomeSecure : PlainPlant → PlainState → Type 0
InSomeSecure a s = (r : PlainRegion) × IsSecure a (InRegion a r) × InRegion a r s

-- some record of the list holds the state
abbrev pub InSomeLoss : PlainPlant → List PlainLoss → PlainState → Type 0
InSomeLoss a losses s = (loss : PlainLoss) × Contains losses loss × InLoss a loss s

-- what solves the game: the region holds exactly the states that some secure region holds; it is itself secure; with the
-- guards it is a valid controller, each legal log of which stays inside, whatever legal results in the region the controller
-- chooses; each safe state outside lies in some record; each record is true, and names the round in which each of its states
-- was removed; and the number of rounds is that of the first round that removes nothing
pub record IsSolution (a : PlainPlant) (c : PlainController) (rounds : ℕ) (losses : List PlainLoss) : Type 0 where
  pub member : (s : PlainState) → InRegion a c.region s ↔ InSomeSecure a s
  pub secure : IsSecure a (InRegion a c.region)
  pub valid : IsValid a c
  pub inside : (choice : Choice) → IsLegalChoice a c.region choice → (start : PlainState) (entries : List PlainEntry)
      → IsLegalLog choice a c start entries → StaysInside choice a c start entries
  pub lost : (s : PlainState) → IsSafe a s → ¬ InRegion a c.region s → InSomeLoss a losses s
  pub true_losses : (loss : PlainLoss) → Contains losses loss → IsTrueLoss a losses loss
  pub named : (loss : PlainLoss) → Contains losses loss → (s : PlainState) → InLoss a loss s → IsRemovedIn a loss.round s
  pub last : IsLastRound a rounds
