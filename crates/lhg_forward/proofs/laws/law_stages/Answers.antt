use Rattle.lhg_forward.specs.Growth.{growth}
use Rattle.lhg_forward.proofs.GrowthWalks.{whole_growth}
use Rattle.lhg_forward.proofs.StageSteps.{stage_step, sample_added, stage_ended}
use Rattle.lhg_forward.proofs.laws.law_stages.Goals as goal

pub returns : goal.returns
returns c = λ a proper init i s h.
    let w = whole_growth a proper s h.closed_is.region_is in
    record {
      step = stage_step a init i s h (growth a s).value w;
      added = sample_added a init i s h (growth a s).value w;
      ended = stage_ended a init i s h (growth a s).value w;
    }
