use Rattle.lhg_plant.proofs.SafeStates.{safe_region_is, safe_region-inside}
use Rattle.lhg_plant.proofs.laws.law_safe_region.Goals as goal

pub returns-clause-states : goal.returns-clause-states
returns-clause-states c = safe_region_is

pub returns-clause-inside : goal.returns-clause-inside
returns-clause-inside c = safe_region-inside
