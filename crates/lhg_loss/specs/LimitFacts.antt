-- Which parts of the iteration are exact, and which rounds are computed?
use Rattle.std.specs.Prelude.{◌≡◌, ◌<◌, ◌≤◌, ℕ, false, List, length}
use Rattle.lhg_num.specs.FracArithmetic.{frac_arithmetic}
use Rattle.lhg_row.specs.Piece.{PlainPiece}
use Rattle.lhg_row.specs.Width.{AllWide}
use Rattle.lhg_row.specs.PieceFacts.{AllOver}
use Rattle.lhg_motion.specs.ReachCalculus.{reach}
use Rattle.lhg_plant.specs.Plant.{PlainPlant}
use Rattle.lhg_plant.specs.Region.{PlainRegion}
use Rattle.lhg_loss.specs.Iterate.{stage, none_lost, work}
use Rattle.lhg_loss.specs.RoundFacts.{AreReached, IsRegion, HasSwitchSets}
use Rattle.lhg_loss.specs.StageFacts.{AreExactGuards}

-- reach over n variables finds what has a play, where no list of pieces is past its limit
abbrev pub IsReachExact : ℕ → Type 0
IsReachExact n = (bad near : List PlainPiece) (flow : PlainPiece) → AllOver n bad → AllOver n near → AllWide n flow → (reach frac_arithmetic n bad near flow).pieces ≡ false
    → AreReached n bad near flow (reach frac_arithmetic n bad near flow).value.found

-- what the calculus makes of a plant below its rounds: the sets of switches and the guards of each region inside the invariants, and reach
pub record AreExactParts (a : PlainPlant) : Type 0 where
  pub sets : (region : PlainRegion) → IsRegion a region → HasSwitchSets a region
  pub guards_are : AreExactGuards a
  pub reach_is : IsReachExact (length a.vars)

-- each round from 1 to the one before i has a record, so round i is computed
abbrev pub IsComputed : PlainPlant → ℕ → Type 0
IsComputed a i = (j : ℕ) → 0 < j → j < i → none_lost (stage a j).value.last ≡ false

-- in no round that is computed for the budget is a list of pieces past its limit
abbrev pub IsWithinLists : PlainPlant → ℕ → Type 0
IsWithinLists a budget = (i : ℕ) → i ≤ budget → IsComputed a i → (work a budget i).pieces ≡ false
