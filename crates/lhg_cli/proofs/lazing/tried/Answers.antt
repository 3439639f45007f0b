use Rattle.lhg_plant.specs.Views.{plain_plant}
use Rattle.lhg_ctl.specs.Views.{plain_controller}
use Rattle.lhg_check.specs.Views.{plain_verdict}
use Rattle.lhg_cli.specs.declared.judging.Judged.{Judged}
use Rattle.lhg_cli.proofs.LazySteps.{halt_tried}
use Rattle.lhg_cli.proofs.lazing.tried.Goals as goal

pub returns-in-Err : goal.returns-in-Err
returns-in-Err c = halt_tried (plain_plant c.args.plant.now) (plain_controller c.args.controller.now) (λ (j : Judged). plain_verdict j.verdict) c.in-Err.halt c.halted.result c.in-Err.ensures.calculus c.halted.ensures
