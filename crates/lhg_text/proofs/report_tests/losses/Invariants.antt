use Rattle.lhg_math.specs.Tests.{AllOf}
use Rattle.lhg_plant.specs.Views.{plain_plant}
use Rattle.lhg_loss.specs.Views.{plain_losses, AreOver}
use Rattle.lhg_text.specs.ReportConditions.{IsPlacedLoss}
use Rattle.lhg_text.proofs.report_tests.losses.Given as goal

abbrev pub invariant-loop-record : goal.invariant-loop-record
invariant-loop-record l = record {
  places : AllOf (IsPlacedLoss (plain_plant l.plant)) (plain_losses l.out.items);
  vars : AreOver 1 l.out.items;
}
