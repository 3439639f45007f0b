-- Which verdict does the check of a controller give?
use Rattle.std.specs.Prelude.{◌≡◌, ◌↔◌, ◌<◌, ℕ, false, List}
use Rattle.lhg_plant.specs.Plant.{PlainPlant}
use Rattle.lhg_plant.specs.Proper.{IsProper}
use Rattle.lhg_plant.specs.State.{PlainState}
use Rattle.lhg_plant.specs.Controller.{PlainController, IsValid}
use Rattle.lhg_plant.specs.Region.{PlainRegion, PlainGuards}
use Rattle.lhg_plant.specs.Loss.{PlainLoss}
use Rattle.lhg_plant.specs.OutCalculus.{out}
use Rattle.lhg_plant.specs.BackCalculus.{guards}
use Rattle.lhg_loss.specs.RoundFacts.{IsRegion}
use Rattle.lhg_loss.specs.Iterate.{solved, solution}
use Rattle.lhg_loss.specs.LimitFacts.{IsWithinLists}
use Rattle.lhg_check.specs.Check.{PlainVerdict, valid, unsafe, bad_guard, escapes, first_piece, lost_pieces, check}
use Rattle.lhg_check.specs.CheckFacts.{IsCheckable, HasReachedFor, AllSafe, AllGuardsHold, IsClosed, IsVerdict}

-- what the verdict says holds, and each verdict comes exactly where the first part that fails is the one that it names
pub record IsExactVerdict (a : PlainPlant) (c : PlainController) (v : PlainVerdict) : Type 0 where
  pub says : IsVerdict a c v
  pub at_valid : (v ≡ valid) ↔ IsValid a c
  pub at_unsafe : ((s : PlainState) × (v ≡ unsafe s)) ↔ ¬ AllSafe a c
  pub at_guard : ((e : ℕ) × (s : PlainState) × (v ≡ bad_guard e s)) ↔ (AllSafe a c × ¬ AllGuardsHold a c)
  pub at_escape : ((s : PlainState) × (v ≡ escapes s)) ↔ (AllSafe a c × AllGuardsHold a c × ¬ IsClosed a c)

-- the check is exact; what is reached matters only where the first two parts hold
abbrev pub CheckLaw : PlainPlant → Type 0
CheckLaw a = (c : PlainController) → IsProper a → IsCheckable a c
    → (AllSafe a c → AllGuardsHold a c → HasReachedFor a c (out a c.region).value (first_piece (lost_pieces a c (out a c.region).value).value))
    → IsExactVerdict a c (check a c).value

-- within the limits of lists of pieces it needs nothing more
abbrev pub CheckedLaw : PlainPlant → Type 0
CheckedLaw a = (c : PlainController) → IsProper a → IsCheckable a c → (check a c).pieces ≡ false → IsExactVerdict a c (check a c).value

-- a region with the guards that the calculus gives it can be checked, and so can what the iteration gives; and what it gives within its limits is
-- checked to be valid
pub record SolvedCheckLaws (a : PlainPlant) : Type 0 where
  pub checkable : IsProper a → (region : PlainRegion) → IsRegion a region → IsCheckable a (record { region = region; guards = (guards a region).value })
  pub of_solution : (budget rounds : ℕ) (region : PlainRegion) (g : PlainGuards) (losses : List PlainLoss) → IsProper a → IsRegion a region
      → solution a budget ≡ solved rounds region g losses → IsCheckable a (record { region = region; guards = g })
  pub passes : (budget rounds : ℕ) (region : PlainRegion) (g : PlainGuards) (losses : List PlainLoss) → 0 < budget → IsProper a → IsWithinLists a budget
      → solution a budget ≡ solved rounds region g losses → (check a (record { region = region; guards = g })).pieces ≡ false
      → (check a (record { region = region; guards = g })).value ≡ valid
