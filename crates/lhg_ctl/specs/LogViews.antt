-- What do contracts see of the logs that the code holds?
use Rattle.std.specs.Prelude.{List, map}
use Rattle.lhg_plant.specs.declared.states.State.{State}
use Rattle.lhg_plant.specs.Run.{PlainEntry, flow_entry, env_entry, land_entry}
use Rattle.lhg_plant.specs.Views.{plain_state}
use Rattle.lhg_ctl.specs.LogText.{PlainLog, PlainOpenLog}
use Rattle.lhg_ctl.specs.declared.entries.Entry.{Entry}
use Rattle.lhg_ctl.specs.declared.entries.Entry.TheVariants.{Flow, Env, Land}
use Rattle.lhg_ctl.specs.declared.open_logs.OpenLog.{OpenLog}

-- an entry as plain data
abbrev pub plain_entry : Entry → PlainEntry
plain_entry (Flow time to) = flow_entry time to
plain_entry (Env switch to) = env_entry switch to
plain_entry (Land to) = land_entry to

-- a log as plain data
abbrev pub plain_log : State → List Entry → PlainLog
plain_log start entries = record { start = plain_state start; entries = map plain_entry entries }

-- what is read so far, as plain data
abbrev pub plain_open_log : OpenLog → PlainOpenLog
plain_open_log o = record { log = plain_log o.start o.entries.items; ended = o.ended }
