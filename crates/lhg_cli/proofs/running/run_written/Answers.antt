use Rattle.lhg_plant.specs.Views.{plain_plant}
use Rattle.lhg_ctl.specs.Views.{plain_controller}
use Rattle.lhg_check.specs.Views.{plain_verdict}
use Rattle.lhg_cli.proofs.RunAnswers.{inside_region}
use Rattle.lhg_cli.proofs.VerdictSteps.{placed_verdict}
use Rattle.lhg_cli.proofs.running.run_written.Goals as goal

pub run_over-requires-clause-inside : goal.run_over-requires-clause-inside
run_over-requires-clause-inside c = inside_region (plain_plant c.args.plant.now) (plain_controller c.in-Ok.found.controller) c.in-Ok.ensures.inside

pub verdict_answer-requires : goal.verdict_answer-requires
verdict_answer-requires c = placed_verdict (plain_plant c.args.plant.now) (plain_controller c.in-Ok.found.controller) (plain_verdict c.in-Ok.found.verdict) c.in-Ok.ensures.exact.says
