use Rattle.lhg_plant.specs.Views.{plain_plant, plain_state}
use Rattle.lhg_cli.specs.StateAnswer.{IsUnsoughtText, IsStateAnswer}
use Rattle.lhg_cli.specs.declared.solving.Answer.{Answer}
use Rattle.lhg_cli.proofs.AnswerSteps.{ok_by}
use Rattle.lhg_cli.proofs.SeekComplete.{unsought_answer}
use Rattle.lhg_cli.proofs.explaining.told.Goals as goal

pub returns-in-Err : goal.returns-in-Err
returns-in-Err c =
    let p = plain_plant c.args.plant.now in
    let z = plain_state c.args.state.now in
    ok_by (λ (a : Answer). IsUnsoughtText c.args.budget (p, z) a.status a.text.items) (λ (a : Answer). IsStateAnswer c.args.budget (p, z) a.status a.text.items) c.unsought.result
    (λ a h. unsought_answer c.args.budget p z a.status a.text.items h) c.unsought.ensures
