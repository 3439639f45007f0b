use Rattle.std.proofs.Common.{◌++◌, sym, ap, ◌∙◌}
use Rattle.lhg_plant.specs.Views.{plain_plant}
use Rattle.lhg_loss.specs.Views.{plain_losses}
use Rattle.lhg_ctl.specs.Views.{plain_controller}
use Rattle.lhg_text.specs.ReportText.{report_text}
use Rattle.lhg_text.proofs.OneReading.{one_reading}
use Rattle.lhg_text.proofs.reports.print_report.Goals as goal

pub returns-clause-one_reading : goal.returns-clause-one_reading
returns-clause-one_reading c = λ r k ls h e.
    let a = plain_plant c.args.plant.now in
    let controller = plain_controller c.args.controller.now in
    let losses = plain_losses c.args.losses.now in
    let text = c.in_ok-push_report.ensures.text ∙ ap (λ w. w ++ report_text a c.args.rounds controller losses) c.new-text.ensures.items in
    one_reading a c.args.rounds controller losses r k ls c.args.plant.now.proper c.in_ok-push_report.ensures.written h (sym text ∙ sym e)
