use Rattle.std.proofs.Common.{map, subst}
use Rattle.std.specs.Prelude.{IfOk}
use Rattle.lhg_plant.specs.Views.{plain_plant}
use Rattle.lhg_ctl.specs.Views.{plain_placed}
use Rattle.lhg_input.specs.Inputs.{IsInitInput}
use Rattle.lhg_cli.specs.ReachAnswer.{IsReached}
use Rattle.lhg_cli.proofs.InputSteps.{value_answer, stop_answer}
use Rattle.lhg_cli.proofs.reaching.reach_of.Goals as goal

pub returns-in-Ok : goal.returns-in-Ok
returns-in-Ok c =
    value_answer IsInitInput (IsReached c.args.rounds) c.args.bytes.now c.reached.result (plain_plant c.in-Ok.input.plant, map plain_placed c.in-Ok.input.init.items) c.requires.bytes c.in-Ok.ensures.ok
    (subst (λ xs. IfOk c.reached.result (λ a. IsReached c.args.rounds (plain_plant c.in-Ok.input.plant, map plain_placed xs) a.status a.text.items)) c.deref.ensures.value c.reached.ensures)

pub returns-in-Err : goal.returns-in-Err
returns-in-Err c = stop_answer IsInitInput (IsReached c.args.rounds) c.args.bytes.now c.refused.result c.in-Err.stop c.requires.bytes c.in-Err.ensures.err c.refused.ensures.status c.refused.ensures.text
