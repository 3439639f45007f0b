-- The steps of the iteration, and its solution within a budget.
use Rattle.std.proofs.Common.{arith}
use Rattle.lhg_plant.specs.Plant.{PlainPlant}
use Rattle.lhg_loss.specs.Iterate.{stage, solution}
use Rattle.lhg_loss.specs.SolveLaws.{StageLaws, SolveLaw}
use Rattle.lhg_loss.proofs.Begins.{stage_start}
use Rattle.lhg_loss.proofs.Stages.{stage_step, sample_removed, stage_settled, solves_within}

-- the steps
pub stage_laws : (a : PlainPlant) → StageLaws a
stage_laws a = record {
  start = stage_start a;
  step = stage_step a;
  removed = sample_removed a;
  settled = λ proper i s r g h e. stage_settled a i s r h e proper g;
}

-- the solution
pub solve_law : (a : PlainPlant) → SolveLaw a
unfolding solution
solve_law a budget some proper kept exact =
    solves_within budget a budget 0 (stage a 0).value (omega arith) some proper kept (stage_start a proper) (λ l. absurd (omega arith)) exact
