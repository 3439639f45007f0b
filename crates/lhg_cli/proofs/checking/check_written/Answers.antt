use Rattle.lhg_plant.specs.Views.{plain_plant}
use Rattle.lhg_ctl.specs.Views.{plain_controller, plain_draft}
use Rattle.lhg_check.specs.Views.{plain_verdict}
use Rattle.lhg_cli.specs.declared.judging.Judged.{Judged}
use Rattle.lhg_cli.proofs.VerdictSteps.{placed_verdict, told_verdict, halt_told}
use Rattle.lhg_cli.proofs.checking.check_written.Goals as goal

pub verdict_answer-requires : goal.verdict_answer-requires
verdict_answer-requires c = placed_verdict (plain_plant c.args.plant.now) (plain_controller c.in-Ok.found.controller) (plain_verdict c.in-Ok.found.verdict) c.in-Ok.ensures.exact.says

pub returns-in-Ok : goal.returns-in-Ok
returns-in-Ok c =
    let e = c.in-Ok.ensures in
    let j = c.in-Ok.found in
    told_verdict (plain_plant c.args.plant.now, plain_draft c.args.draft.now) (plain_controller j.controller) (plain_verdict j.verdict) e.made e.calculus e.keeps e.exact c.verdict_answer.result c.verdict_answer.ensures.status c.verdict_answer.ensures.text

pub returns-in-Err : goal.returns-in-Err
returns-in-Err c = halt_told (plain_plant c.args.plant.now, plain_draft c.args.draft.now) (λ (j : Judged). plain_verdict j.verdict) c.in-Err.halt c.halted.result c.in-Err.ensures.calculus c.halted.ensures
