use Rattle.std.proofs.Common.{take}
use Rattle.lhg_math.specs.Tests.{AllOf}
use Rattle.lhg_explain.proofs.CodeSteps.{TellsWidth}
use Rattle.lhg_explain.proofs.telling.tell_losses.Given as goal

abbrev pub invariant-loop-loss : goal.invariant-loop-loss
invariant-loop-loss l = AllOf TellsWidth (take l.loss-index l.losses)
