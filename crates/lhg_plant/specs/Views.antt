-- What do contracts see of the plants and states that the code holds?
use Rattle.lhg_plant.specs.declared.plants.Plant.{Plant}
use Rattle.lhg_plant.specs.declared.states.State.{State}
use Rattle.lhg_plant.specs.Plant.{PlainPlant}
use Rattle.lhg_plant.specs.State.{PlainState}
use Rattle.lhg_plant.specs.Parts.{plain_parts}
pub use Rattle.lhg_plant.specs.Parts.{plain_location, plain_switch}

-- a plant as plain data
abbrev pub plain_plant : Plant → PlainPlant
plain_plant p = plain_parts p.vars.items p.locs.items p.switches.items

-- a state as plain data
abbrev pub plain_state : State → PlainState
plain_state s = record { loc = s.loc; at = s.at }
