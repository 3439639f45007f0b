-- What do contracts see of entries, of what an entry does, and of where a run stands?
use Rattle.std.specs.Prelude.{◌≡◌, ℕ, List, length, map, Option}
use Rattle.lhg_plant.specs.declared.states.State.{State}
use Rattle.lhg_plant.specs.Run.{PlainEntry, flow_entry, env_entry, land_entry, RunPlace}
use Rattle.lhg_plant.specs.Views.{plain_state}
use Rattle.lhg_ctl.specs.LogViews.{plain_entry}
use Rattle.lhg_ctl.specs.declared.entries.Entry.{Entry}

-- entries as plain data
abbrev pub plain_entries : List Entry → List PlainEntry
plain_entries entries = map plain_entry entries

-- where a run stands
abbrev pub plain_place : State → Option ℕ → RunPlace
plain_place s pending = record { state = plain_state s; pending = pending }

-- the end of the entry has n coordinates
abbrev pub IsOver : ℕ → PlainEntry → Type 0
IsOver n (flow_entry t y) = length y ≡ n
IsOver n (env_entry e y) = length y ≡ n
IsOver n (land_entry y) = length y ≡ n
