use Rattle.lhg_plant.specs.Views.{plain_plant}
use Rattle.lhg_ctl.specs.Views.{plain_draft}
use Rattle.lhg_input.specs.Inputs.{IsControllerInput}
use Rattle.lhg_cli.specs.Migration.{IsMigrated}
use Rattle.lhg_cli.proofs.InputSteps.{value_answer, stop_answer}
use Rattle.lhg_cli.proofs.migrating.migrated.Goals as goal

pub returns-in-Ok : goal.returns-in-Ok
returns-in-Ok c = value_answer IsControllerInput IsMigrated c.args.bytes.now c.written_anew.result (plain_plant c.in-Ok.plant, plain_draft c.in-Ok.draft) c.requires c.in-Ok.ensures.ok c.written_anew.ensures

pub returns-in-Err : goal.returns-in-Err
returns-in-Err c = stop_answer IsControllerInput IsMigrated c.args.bytes.now c.refused.result c.in-Err.stop c.requires c.in-Err.ensures.err c.refused.ensures.status c.refused.ensures.text
