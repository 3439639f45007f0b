use Rattle.std.proofs.Common.{◌⊎◌}
use Rattle.lhg_plant.specs.Views.{plain_plant}
use Rattle.lhg_read.specs.PlantText.{IsPlantText}
use Rattle.lhg_cli.specs.LazyAnswer.{IsTriedText, IsLazied}
use Rattle.lhg_cli.specs.PlantAnswer.{IsStopText}
use Rattle.lhg_cli.specs.declared.solving.Answer.{Answer}
use Rattle.lhg_cli.proofs.AnswerSteps.{ok_by}
use Rattle.lhg_cli.proofs.InputSteps.{value_answer, stop_answer}
use Rattle.lhg_cli.proofs.lazing.lazy_of.Goals as goal

pub returns-in-Ok : goal.returns-in-Ok
returns-in-Ok c =
    let p = plain_plant c.in-Ok.plant in
    value_answer IsPlantText (IsLazied c.args.rounds) c.args.bytes.now c.lazied.result p c.requires.bytes c.in-Ok.ensures.ok
    (ok_by (λ (a : Answer). IsTriedText p c.args.rounds a.status a.text.items ⊎ IsStopText p c.args.rounds a.status a.text.items) (λ (a : Answer). IsLazied c.args.rounds p a.status a.text.items) c.lazied.result (λ a h. (c.in-Ok.plant.proper, h)) c.lazied.ensures)

pub returns-in-Err : goal.returns-in-Err
returns-in-Err c = stop_answer IsPlantText (IsLazied c.args.rounds) c.args.bytes.now c.refused.result c.in-Err.stop c.requires.bytes c.in-Err.ensures.err c.refused.ensures.status c.refused.ensures.text
