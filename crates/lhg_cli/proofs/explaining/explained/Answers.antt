use Rattle.std.proofs.Common.{◌≡◌, ℕ, List, Result, IfOk, arith}
use Rattle.std.proofs.lemmas.List.{length-map}
use Rattle.lhg_lex.specs.Lines.{lines_of}
use Rattle.lhg_plant.specs.Views.{plain_plant, plain_state, plain_location}
use Rattle.lhg_input.specs.Inputs.{IsStateInput}
use Rattle.lhg_cli.specs.InputAnswer.{IsInput, IsBytesAnswer}
use Rattle.lhg_cli.specs.StateAnswer.{IsStateAnswer, IsWithinSeek, IsSureStatus, IsToldExactly}
use Rattle.lhg_cli.specs.declared.solving.Answer.{Answer}
use Rattle.lhg_cli.specs.declared.status.Status.TheVariants as status
use Rattle.lhg_cli.proofs.AnswerSteps.{ok_by}
use Rattle.lhg_cli.proofs.InputSteps.{value_answer, stop_answer}
use Rattle.lhg_cli.proofs.SeekComplete.{sure_of, exactly_told}
use Rattle.lhg_cli.proofs.StatePlaces.{state_place, state_fits}
use Rattle.lhg_cli.proofs.explaining.explained.Goals as goal

pub told-requires-clause-there : goal.told-requires-clause-there
told-requires-clause-there c =
    let p = c.in-Ok.plant in
    let place = state_place (lines_of c.args.bytes.now) (plain_plant p) (plain_state c.in-Ok.state) c.in-Ok.ensures.ok in
    let size = length-map p.locs.items plain_location in
    omega (arith, place, size)

pub told-requires-clause-lengths : goal.told-requires-clause-lengths
told-requires-clause-lengths c = state_fits (lines_of c.args.bytes.now) (plain_plant c.in-Ok.plant) (plain_state c.in-Ok.state) c.in-Ok.ensures.ok

-- what follows of the answer to the bytes
module _ (budget : ℕ) (bytes : List ℕ) {E : Type 0} (r : Result Answer E) (h : IfOk r (λ a. IsBytesAnswer IsStateInput (IsStateAnswer budget) bytes a.status a.text.items)) where
  sure : IfOk r (λ a. (input : IsInput IsStateInput bytes) → IsWithinSeek budget input.value → IsSureStatus budget input.value a.status)
  sure =
      ok_by (λ (a : Answer). IsBytesAnswer IsStateInput (IsStateAnswer budget) bytes a.status a.text.items)
      (λ (a : Answer). (input : IsInput IsStateInput bytes) → IsWithinSeek budget input.value → IsSureStatus budget input.value a.status) r
      (λ a k input. sure_of budget bytes input a.status a.text.items k) h

  exact : IfOk r (λ a. (input : IsInput IsStateInput bytes) → a.status ≡ status.Done → IsToldExactly budget input.value a.text.items)
  exact =
      ok_by (λ (a : Answer). IsBytesAnswer IsStateInput (IsStateAnswer budget) bytes a.status a.text.items)
      (λ (a : Answer). (input : IsInput IsStateInput bytes) → a.status ≡ status.Done → IsToldExactly budget input.value a.text.items) r
      (λ a k input. exactly_told budget bytes input a.status a.text.items k) h

pub returns-in-Ok-clause-answer : goal.returns-in-Ok-clause-answer
returns-in-Ok-clause-answer c =
    value_answer IsStateInput (IsStateAnswer c.args.budget) c.args.bytes.now c.told.result (plain_plant c.in-Ok.plant, plain_state c.in-Ok.state) c.requires.bytes c.in-Ok.ensures.ok c.told.ensures

pub returns-in-Ok-clause-sure : goal.returns-in-Ok-clause-sure
returns-in-Ok-clause-sure c =
    sure c.args.budget c.args.bytes.now c.told.result
    (value_answer IsStateInput (IsStateAnswer c.args.budget) c.args.bytes.now c.told.result (plain_plant c.in-Ok.plant, plain_state c.in-Ok.state) c.requires.bytes c.in-Ok.ensures.ok c.told.ensures)

pub returns-in-Ok-clause-exact : goal.returns-in-Ok-clause-exact
returns-in-Ok-clause-exact c =
    exact c.args.budget c.args.bytes.now c.told.result
    (value_answer IsStateInput (IsStateAnswer c.args.budget) c.args.bytes.now c.told.result (plain_plant c.in-Ok.plant, plain_state c.in-Ok.state) c.requires.bytes c.in-Ok.ensures.ok c.told.ensures)

pub returns-in-Err-clause-sure : goal.returns-in-Err-clause-sure
returns-in-Err-clause-sure c =
    sure c.args.budget c.args.bytes.now c.refused.result
    (stop_answer IsStateInput (IsStateAnswer c.args.budget) c.args.bytes.now c.refused.result c.in-Err.stop c.requires.bytes c.in-Err.ensures.err c.refused.ensures.status c.refused.ensures.text)
