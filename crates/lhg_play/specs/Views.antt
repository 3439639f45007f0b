-- What do contracts see of plays and traces that the code holds?
use Rattle.std.specs.Prelude.{ℕ, List, map, Option, Some, None}
use Rattle.lhg_motion.specs.Play.{PlainMove}
use Rattle.lhg_plant.specs.declared.states.State.{State}
use Rattle.lhg_plant.specs.State.{PlainState}
use Rattle.lhg_plant.specs.Explained.{PlainWay, PlainEscape}
use Rattle.lhg_plant.specs.Run.{PlainStep, started, flowed, switched, landed, env_switched}
use Rattle.lhg_plant.specs.SpoilSteps.{PlainSpoilStep, ranked, run_on, acted, landed_at, preempted}
use Rattle.lhg_plant.specs.Views.{plain_state}
use Rattle.lhg_play.specs.declared.escapes.Escape.{Escape}
use Rattle.lhg_play.specs.declared.plays.Move.{Move}
use Rattle.lhg_play.specs.declared.spoils.SpoilStep.{SpoilStep}
use Rattle.lhg_play.specs.declared.spoils.SpoilStep.TheVariants as spoil
use Rattle.lhg_play.specs.declared.traces.Step.{Step}
use Rattle.lhg_play.specs.declared.traces.Step.TheVariants.{Start, Flow, Switch, Land, Env}

-- a flow of a play as plain data
abbrev pub plain_move : Move → PlainMove
plain_move m = record { time = m.time; to = m.to }

-- the flows of a play as plain data
abbrev pub plain_moves : List Move → List PlainMove
plain_moves ms = map plain_move ms

-- a step of a run as plain data
abbrev pub plain_step : Step → PlainStep
plain_step (Start s) = started (plain_state s)
plain_step (Flow t to) = flowed t to
plain_step (Switch e) = switched e
plain_step (Land s) = landed (plain_state s)
plain_step (Env e s) = env_switched e (plain_state s)

-- the steps of a run as plain data
abbrev pub plain_steps : List Step → List PlainStep
plain_steps steps = map plain_step steps

-- a last switch as plain data, where there is one
abbrev pub plain_last : Option (ℕ × State) → Option (ℕ × PlainState)
plain_last None = None
plain_last (Some last) = Some (last.0, plain_state last.1)

-- an escape as plain data
abbrev pub plain_escape : Escape → PlainEscape
plain_escape e = record { round = e.round; start = plain_state e.play.start; way = record { moves = plain_moves e.play.moves.items; last = plain_last e.last } }

-- a step of exchanges as plain data
abbrev pub plain_spoil_step : SpoilStep → PlainSpoilStep
plain_spoil_step (spoil.Round i) = ranked i
plain_spoil_step (spoil.Flow t to) = run_on t to
plain_spoil_step (spoil.Act e) = acted e
plain_spoil_step (spoil.Land s) = landed_at (plain_state s)
plain_spoil_step (spoil.Env e s) = preempted e (plain_state s)

-- the steps of exchanges as plain data
abbrev pub plain_spoil_steps : List SpoilStep → List PlainSpoilStep
plain_spoil_steps steps = map plain_spoil_step steps
