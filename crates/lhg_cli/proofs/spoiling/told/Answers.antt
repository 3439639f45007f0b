use Rattle.lhg_plant.specs.Views.{plain_plant, plain_state}
use Rattle.lhg_spoil.specs.Views.{plain_ctl_moves}
use Rattle.lhg_cli.specs.SpoilAnswer.{IsSpoilOutcome}
use Rattle.lhg_cli.specs.StateAnswer.{IsUnsoughtText}
use Rattle.lhg_cli.specs.declared.solving.Answer.{Answer}
use Rattle.lhg_cli.proofs.AnswerSteps.{ok_by}
use Rattle.lhg_cli.proofs.SpoilComplete.{unsought_outcome}
use Rattle.lhg_cli.proofs.spoiling.told.Goals as goal

pub returns-in-Err : goal.returns-in-Err
returns-in-Err c =
    let p = plain_plant c.args.plant.now in
    let z = plain_state c.args.start.now in
    let moves = plain_ctl_moves c.args.moves.now in
    ok_by (λ (a : Answer). IsUnsoughtText c.args.budget (p, z) a.status a.text.items) (λ (a : Answer). IsSpoilOutcome c.args.budget ((p, z), moves) a.status a.text.items) c.unsought.result
    (λ a h. unsought_outcome c.args.budget p z moves a.status a.text.items h) c.unsought.ensures
