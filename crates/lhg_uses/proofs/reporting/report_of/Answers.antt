use Rattle.lhg_plant.specs.Views.{plain_plant}
use Rattle.lhg_uses.proofs.ReportSteps.{no_memory}
use Rattle.lhg_uses.proofs.reporting.report_of.Goals as goal

pub returns-in-Ok-clause-none : goal.returns-in-Ok-clause-none
returns-in-Ok-clause-none c = no_memory (plain_plant c.args.plant.now) c.args.budget c.printed.result c.printed.ensures.none
