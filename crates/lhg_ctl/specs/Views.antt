-- What do contracts see of the controllers that the code holds?
use Rattle.std.specs.Prelude.{ℕ, map}
use Rattle.std.specs.Global.{Vec}
use Rattle.lhg_row.specs.Piece.{PlainPiece}
use Rattle.lhg_row.specs.Row.{PlainRow}
use Rattle.lhg_plant.specs.Controller.{PlainController}
use Rattle.lhg_union.specs.Regions.{plain_region}
use Rattle.lhg_ctl.specs.ControllerSteps.{PlainOpen}
use Rattle.lhg_ctl.specs.Draft.{PlainDraft}
use Rattle.lhg_ctl.specs.declared.controllers.Controller.{Controller}
use Rattle.lhg_ctl.specs.declared.controllers.Draft.{Draft}
use Rattle.lhg_ctl.specs.declared.open_drafts.OpenDraft.{OpenDraft}

-- rows with their place, as plain data
abbrev pub plain_placed : ℕ × Vec PlainRow → ℕ × PlainPiece
plain_placed p = (p.0, p.1.items)

-- a controller as it is written, as plain data
abbrev pub plain_draft : Draft → PlainDraft
plain_draft d = record { pieces = map plain_placed d.pieces.items; guards = map plain_placed d.guards.items; rounds = d.rounds; names = d.names.items }

-- a controller as plain data
abbrev pub plain_controller : Controller → PlainController
plain_controller c = record { region = plain_region c.region.pieces.items; guards = plain_region c.guards.items }

-- what is read so far, as plain data
abbrev pub plain_open : OpenDraft → PlainOpen
plain_open o = record { version = o.version; begun = o.begun; ended = o.ended; draft = plain_draft o.draft }
