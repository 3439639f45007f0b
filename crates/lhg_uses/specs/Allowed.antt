-- Which switches may be taken at a state, and where may it not be told?
use Rattle.std.specs.Prelude.{◌≡◌, ◌<◌, ◌⊎◌, ◌↔◌, ℕ, true, List, Contains}
use Rattle.std.specs.List.{AllPairs}
use Rattle.lhg_num.specs.FracArithmetic.{frac_arithmetic}
use Rattle.lhg_row.specs.Truths.{piece_truth}
use Rattle.lhg_plant.specs.declared.plants.Side.TheVariants.{Ctl, Pick}
use Rattle.lhg_plant.specs.Plant.{PlainPlant}
use Rattle.lhg_plant.specs.State.{PlainState}
use Rattle.lhg_plant.specs.Legal.{HasSide}
use Rattle.lhg_plant.specs.LegalTruths.{state_truth}
use Rattle.lhg_plant.specs.Region.{PlainGuards, InGuard}
use Rattle.lhg_plant.specs.Controller.{PlainController}
use Rattle.lhg_plant.specs.Run.{guard_rows}
use Rattle.lhg_run.specs.Numbers.{region_truth}

-- switch e is the controller's, and its guard holds at the state
pub record IsAllowed (a : PlainPlant) (c : PlainController) (s : PlainState) (e : ℕ) : Type 0 where
  pub side : HasSide a e Ctl ⊎ HasSide a e Pick
  pub guard : InGuard a c.guards e s

-- the list has the switches before place k whose guards hold at the state, each once and in the plant's order
pub record AreAllowed (a : PlainPlant) (guards : PlainGuards) (s : PlainState) (k : ℕ) (allowed : List ℕ) : Type 0 where
  pub exact : (e : ℕ) → Contains allowed e ↔ ((e < k) × InGuard a guards e s)
  pub ordered : AllPairs (λ d e. d < e) allowed

-- whether a row of the guards of the location holds at the state forms too wide a number
abbrev pub AreWideGuards : PlainPlant → PlainGuards → PlainState → Type 0
AreWideGuards a guards s = (piece_truth frac_arithmetic (guard_rows a.switches guards s.loc) s.at).wide ≡ true

-- so does whether a row of the invariant of the location, of its pieces or of its guards holds there
abbrev pub IsUntold : PlainPlant → PlainController → PlainState → Type 0
IsUntold a c s = ((state_truth frac_arithmetic a s).wide ≡ true) ⊎ (((region_truth c s).wide ≡ true) ⊎ AreWideGuards a c.guards s)
