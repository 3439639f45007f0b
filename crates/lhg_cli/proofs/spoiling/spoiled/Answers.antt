use Rattle.std.proofs.Common.{ℕ, List, Result, IfOk, ap, subst, length, arith}
use Rattle.std.proofs.lemmas.List.{length-map}
use Rattle.lhg_plant.specs.Plant.{PlainPlant}
use Rattle.lhg_plant.specs.State.{PlainState}
use Rattle.lhg_plant.specs.Views.{plain_plant, plain_state, plain_location}
use Rattle.lhg_spoil.specs.Views.{plain_ctl_move, plain_ctl_moves}
use Rattle.lhg_spoil.specs.Moves.{PlainCtlMove}
use Rattle.lhg_spoil.specs.declared.ctl_moves.CtlMove.{CtlMove}
use Rattle.lhg_input.specs.Inputs.{IsSpoilInput}
use Rattle.lhg_cli.specs.InputAnswer.{IsInput, IsBytesAnswer}
use Rattle.lhg_cli.specs.SpoilAnswer.{IsSpoilOutcome, IsWithinSpoil, IsSureSpoil}
use Rattle.lhg_cli.specs.declared.solving.Answer.{Answer}
use Rattle.lhg_cli.proofs.AnswerSteps.{ok_by}
use Rattle.lhg_cli.proofs.InputSteps.{value_answer, stop_answer}
use Rattle.lhg_cli.proofs.SpoilComplete.{sure_spoil_of}
use Rattle.lhg_cli.proofs.SpoilPlaces.{moves_start, moves_few}
use Rattle.lhg_cli.proofs.spoiling.spoiled.Goals as goal

-- what follows of the answer to the bytes
sure : (budget : ℕ) (bytes : List ℕ) {E : Type 0} (r : Result Answer E) → IfOk r (λ a. IsBytesAnswer IsSpoilInput (IsSpoilOutcome budget) bytes a.status a.text.items)
    → IfOk r (λ a. (input : IsInput IsSpoilInput bytes) → IsWithinSpoil budget input.value → IsSureSpoil budget input.value a.status)
sure budget bytes r h =
    ok_by (λ (a : Answer). IsBytesAnswer IsSpoilInput (IsSpoilOutcome budget) bytes a.status a.text.items)
    (λ (a : Answer). (input : IsInput IsSpoilInput bytes) → IsWithinSpoil budget input.value → IsSureSpoil budget input.value a.status) r
    (λ a k input. sure_spoil_of budget bytes input a.status a.text.items k) h

pub told-requires-clause-there : goal.told-requires-clause-there
told-requires-clause-there c =
    let i = c.in-Ok.input in
    let place = (moves_start c.args.bytes.now (plain_plant i.plant) (plain_state i.start) (plain_ctl_moves i.moves.items) c.in-Ok.ensures.ok).loc in
    let size = length-map i.plant.locs.items plain_location in
    omega (arith, place, size)

pub told-requires-clause-lengths : goal.told-requires-clause-lengths
told-requires-clause-lengths c =
    let i = c.in-Ok.input in
    (moves_start c.args.bytes.now (plain_plant i.plant) (plain_state i.start) (plain_ctl_moves i.moves.items) c.in-Ok.ensures.ok).fits

pub told-requires-clause-few : goal.told-requires-clause-few
told-requires-clause-few c =
    let i = c.in-Ok.input in
    let few = moves_few c.args.bytes.now (plain_plant i.plant) (plain_state i.start) (plain_ctl_moves i.moves.items) c.in-Ok.ensures.ok c.requires.bytes in
    let size = length-map i.moves.items plain_ctl_move in
    let same = ap length c.deref.ensures.value in
    omega (arith, few, size, same)

pub returns-in-Ok-clause-answer : goal.returns-in-Ok-clause-answer
returns-in-Ok-clause-answer c =
    let i = c.in-Ok.input in
    let input : (PlainPlant × PlainState) × List PlainCtlMove = ((plain_plant i.plant, plain_state i.start), plain_ctl_moves i.moves.items) in
    value_answer IsSpoilInput (IsSpoilOutcome c.args.budget) c.args.bytes.now c.told.result input c.requires.bytes c.in-Ok.ensures.ok
    (subst (λ (ms : List CtlMove). IfOk c.told.result (λ a. IsSpoilOutcome c.args.budget ((plain_plant i.plant, plain_state i.start), plain_ctl_moves ms) a.status a.text.items)) c.deref.ensures.value c.told.ensures)

pub returns-in-Ok-clause-sure : goal.returns-in-Ok-clause-sure
returns-in-Ok-clause-sure c =
    let i = c.in-Ok.input in
    let input : (PlainPlant × PlainState) × List PlainCtlMove = ((plain_plant i.plant, plain_state i.start), plain_ctl_moves i.moves.items) in
    sure c.args.budget c.args.bytes.now c.told.result
    (value_answer IsSpoilInput (IsSpoilOutcome c.args.budget) c.args.bytes.now c.told.result input c.requires.bytes c.in-Ok.ensures.ok
    (subst (λ (ms : List CtlMove). IfOk c.told.result (λ a. IsSpoilOutcome c.args.budget ((plain_plant i.plant, plain_state i.start), plain_ctl_moves ms) a.status a.text.items)) c.deref.ensures.value c.told.ensures))

pub returns-in-Err-clause-sure : goal.returns-in-Err-clause-sure
returns-in-Err-clause-sure c =
    sure c.args.budget c.args.bytes.now c.refused.result
    (stop_answer IsSpoilInput (IsSpoilOutcome c.args.budget) c.args.bytes.now c.refused.result c.in-Err.stop c.requires.bytes c.in-Err.ensures.err c.refused.ensures.status c.refused.ensures.text)
