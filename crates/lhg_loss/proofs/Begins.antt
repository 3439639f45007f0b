-- The stage of round 0 is the safe states.
use Rattle.std.proofs.Common.{arith}
use Rattle.lhg_plant.specs.Plant.{PlainPlant}
use Rattle.lhg_plant.specs.Proper.{IsProper}
use Rattle.lhg_plant.specs.SafeRegion.{safe_region}
use Rattle.lhg_plant.proofs.SafeStates.{safe_region_is, safe_region-many, safe_region-polys, safe_region-inside}
use Rattle.lhg_loss.specs.Iterate.{stage}
use Rattle.lhg_loss.specs.RoundFacts.{IsRegion}
use Rattle.lhg_loss.specs.StageFacts.{IsStage}
use Rattle.lhg_loss.proofs.Numbers.{no_member}

-- the safe region has one list for each location, of pieces inside its invariant
pub safe_is_region : (a : PlainPlant) → IsProper a → IsRegion a (safe_region a).value
safe_is_region a proper = record { listed = safe_region-many a; polys = safe_region-polys a proper; inside = (safe_region-inside a proper).inside }

-- the stage of round 0
pub stage_start : (a : PlainPlant) → IsProper a → IsStage a 0 (stage a 0).value
unfolding stage
stage_start a proper = record {
  region_is = safe_is_region a proper;
  exact = safe_region_is a proper;
  counted = λ k loss e. cc;
  rounds = λ loss c. absurd (no_member loss c);
  sound = λ loss c. absurd (no_member loss c);
  lost = λ z safe out. absurd (out ((safe_region_is a proper z).1 safe));
  removes = λ j l m. absurd (omega arith);
}
