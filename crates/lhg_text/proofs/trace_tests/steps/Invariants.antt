use Rattle.lhg_math.specs.Tests.{AllOf}
use Rattle.lhg_plant.specs.Views.{plain_plant}
use Rattle.lhg_play.specs.Views.{plain_steps}
use Rattle.lhg_text.specs.TraceText.{IsPlacedStep}
use Rattle.lhg_text.proofs.trace_tests.steps.Given as goal

abbrev pub invariant-loop-told : goal.invariant-loop-told
invariant-loop-told l = AllOf (IsPlacedStep (plain_plant l.plant)) (plain_steps l.out.items)
