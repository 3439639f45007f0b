use Rattle.lhg_plant.specs.Views.{plain_plant}
use Rattle.lhg_uses.proofs.ReportSteps.{reported, unreported}
use Rattle.lhg_uses.proofs.reporting.report.Goals as goal

pub returns-in-Ok-clause-report : goal.returns-in-Ok-clause-report
returns-in-Ok-clause-report c = reported c.args.bytes.now c.args.budget (plain_plant c.in-Ok.plant) c.in-Ok.ensures.ok c.report_of.result c.report_of.ensures.report

pub returns-in-Ok-clause-none : goal.returns-in-Ok-clause-none
returns-in-Ok-clause-none c = unreported c.args.bytes.now c.args.budget (plain_plant c.in-Ok.plant) c.in-Ok.ensures.ok c.report_of.result c.report_of.ensures.none
