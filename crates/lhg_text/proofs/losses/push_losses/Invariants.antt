use Rattle.std.proofs.Common.{◌≡◌, ◌++◌, drop, map}
use Rattle.std.specs.List.{flat_map}
use Rattle.lhg_math.specs.Tests.{AllOf}
use Rattle.lhg_plant.specs.Views.{plain_plant}
use Rattle.lhg_loss.specs.Views.{plain_losses}
use Rattle.lhg_row_text.specs.PrintedLine.{line}
use Rattle.lhg_text.specs.ReportLaws.{IsWrittenLoss}
use Rattle.lhg_text.specs.ReportText.{loss_line}
use Rattle.lhg_text.proofs.losses.push_losses.Given as goal

abbrev pub invariant-loop-i : goal.invariant-loop-i
invariant-loop-i l = record {
  text : l.text.items ++ flat_map line (map (loss_line (plain_plant l.plant)) (plain_losses (drop l.i l.losses))) ≡ l.fn.text.items ++ flat_map line (map (loss_line (plain_plant l.plant)) (plain_losses l.losses));
  written : AllOf (IsWrittenLoss (plain_plant l.plant)) (plain_losses (drop l.i l.losses)) → AllOf (IsWrittenLoss (plain_plant l.plant)) (plain_losses l.losses);
}
