use Rattle.std.proofs.Common.{rules, append_assoc, ◌∙◌}
use Rattle.std.proofs.lemmas.Result.{IfOk-equal}
use Rattle.lhg_plant.specs.Views.{plain_plant}
use Rattle.lhg_loss.specs.Views.{plain_losses}
use Rattle.lhg_ctl.specs.Views.{plain_controller}
use Rattle.lhg_ctl.proofs.NamedSteps.{same_count}
use Rattle.lhg_text.proofs.ReportTexts.{report_parts, on_ok_always}
use Rattle.lhg_text.proofs.reports.push_report.Goals as goal

pub returns-clause-text : goal.returns-clause-text
returns-clause-text c = rw (report_parts (plain_plant c.args.plant.now) c.args.rounds (plain_controller c.args.controller.now) (plain_losses c.args.losses.now)) (search (rules, IfOk-equal, append_assoc))

pub returns-clause-written : goal.returns-clause-written
returns-clause-written c =
    let k = c.args.controller.now in
    on_ok_always c.extend_from_slice-3.result (record {
      few_rounds = c.in_ok-push_whole.ensures.short;
      controller = record {
        locs = same_count k.region.pieces.items ∙ c.requires.controller.locs;
        switches = same_count k.guards.items ∙ c.requires.controller.switches;
        region = c.in_ok-push_controller.ensures.written.region;
        guards = c.in_ok-push_controller.ensures.written.guards;
      };
      each_loss = c.in_ok-push_losses.ensures.written;
    })
