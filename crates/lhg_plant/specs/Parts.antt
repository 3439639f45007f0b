-- What do contracts see of the locations and switches that the code holds, and of a plant with these?
use Rattle.std.specs.Prelude.{ℕ, List, map}
use Rattle.lhg_plant.specs.declared.plants.Location.{Location}
use Rattle.lhg_plant.specs.declared.plants.Switch.{Switch}
use Rattle.lhg_plant.specs.Plant.{PlainLocation, PlainSwitch, PlainPlant}

-- a location as plain data
abbrev pub plain_location : Location → PlainLocation
plain_location l = record { name = l.name; inv = l.inv.items; flow = l.flow.items; safe = map (λ rows. rows.items) l.safe.items }

-- a switch as plain data
abbrev pub plain_switch : Switch → PlainSwitch
plain_switch w = record { name = w.name; from = w.from; to = w.to; side = w.side; jump = w.jump.items }

-- the plant with these variables, locations and switches, as plain data
abbrev pub plain_parts : List (List ℕ) → List Location → List Switch → PlainPlant
plain_parts vars locs switches = record { vars = vars; locs = map plain_location locs; switches = map plain_switch switches }
