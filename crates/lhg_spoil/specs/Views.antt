-- What do contracts see of moves of the controller and of answers that the code holds?
use Rattle.std.specs.Prelude.{ℕ, List, map, Option, Some, None}
use Rattle.lhg_row.specs.Row.{PlainPoint}
use Rattle.lhg_plant.specs.declared.states.State.{State}
use Rattle.lhg_plant.specs.SpoilSteps.{PlainSpoilStep}
use Rattle.lhg_plant.specs.Views.{plain_state}
use Rattle.lhg_play.specs.Views.{plain_spoil_steps}
use Rattle.lhg_spoil.specs.declared.answers.Again.{Again}
use Rattle.lhg_spoil.specs.declared.answers.Answer.{Answer}
use Rattle.lhg_spoil.specs.declared.ctl_moves.CtlMove.{CtlMove}
use Rattle.lhg_spoil.specs.declared.ctl_moves.CtlMove.TheVariants.{Wait, Act}
use Rattle.lhg_spoil.specs.Moves.{PlainCtlMove, waits, acts}
use Rattle.lhg_spoil.specs.Exchange.{SpoilPlace}

-- a move as plain data
abbrev pub plain_ctl_move : CtlMove → PlainCtlMove
plain_ctl_move Wait = waits
plain_ctl_move (Act k q e to) = acts k q e to

-- moves as plain data
abbrev pub plain_ctl_moves : List CtlMove → List PlainCtlMove
plain_ctl_moves moves = map plain_ctl_move moves

-- a switch that is answered again as plain data, where there is one
abbrev pub plain_again : Option Again → Option (ℕ × Option PlainPoint)
plain_again None = None
plain_again (Some act) = Some (act.switch, act.to)

-- where an answer ends
abbrev pub end_place : State → Option Again → SpoilPlace
end_place s again = record { state = plain_state s; again = plain_again again }

-- an answer as plain data: its steps, and where it ends
abbrev pub plain_answer : Answer → List PlainSpoilStep × SpoilPlace
plain_answer r = (plain_spoil_steps r.steps.items, end_place r.state r.again)
