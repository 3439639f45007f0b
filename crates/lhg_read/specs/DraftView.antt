-- What do contracts see of a plant that is being read?
use Rattle.std.specs.Prelude.{map}
use Rattle.lhg_plant.specs.Views.{plain_location, plain_switch}
use Rattle.lhg_read.specs.PlantLine.{WrittenSwitch}
use Rattle.lhg_read.specs.PlantSteps.{PlainDraft}
use Rattle.lhg_read.specs.declared.draft.Draft.{Draft}
use Rattle.lhg_read.specs.declared.switches.Written.{Written}

-- what is read so far as plain data
abbrev pub plain_draft : Draft → PlainDraft
plain_draft d = record { locs = map plain_location d.locs.items; has_inv = d.has_inv; has_flow = d.has_flow; switches = map plain_switch d.switches.items; ended = d.ended }

-- a switch as it is written, as plain data
abbrev pub plain_written : Written → WrittenSwitch
plain_written w = record { name = w.name; side = w.side; from = w.from; to = w.to; jump = w.jump.items }
