use Rattle.lhg_plant.specs.Views.{plain_plant}
use Rattle.lhg_ctl.specs.Views.{plain_draft}
use Rattle.lhg_input.specs.Inputs.{IsControllerInput}
use Rattle.lhg_cli.specs.Verdict.{IsChecked}
use Rattle.lhg_cli.proofs.InputSteps.{value_answer, stop_answer}
use Rattle.lhg_cli.proofs.checking.checked.Goals as goal

pub returns-in-Ok : goal.returns-in-Ok
returns-in-Ok c = value_answer IsControllerInput IsChecked c.args.bytes.now c.check_written.result (plain_plant c.in-Ok.plant, plain_draft c.in-Ok.draft) c.requires c.in-Ok.ensures.ok c.check_written.ensures

pub returns-in-Err : goal.returns-in-Err
returns-in-Err c = stop_answer IsControllerInput IsChecked c.args.bytes.now c.refused.result c.in-Err.stop c.requires c.in-Err.ensures.err c.refused.ensures.status c.refused.ensures.text
