-- Which controller do rows give, and which numbers and lists are formed to judge it?
use Rattle.std.specs.Prelude.{◌↔◌, ℕ, List, [], map}
use Rattle.std.specs.Global.{Vec}
use Rattle.lhg_num.specs.Marked.{Marked, and_then}
use Rattle.lhg_row.specs.Row.{PlainRow}
use Rattle.lhg_plant.specs.Controller.{PlainController}
use Rattle.lhg_plant.specs.Plant.{PlainPlant}
use Rattle.lhg_plant.specs.Region.{InRegion, InGuard}
use Rattle.lhg_plant.specs.State.{PlainState}
use Rattle.lhg_ctl.specs.Draft.{PlainDraft}
use Rattle.lhg_ctl.specs.DraftStates.{InDraft, InDraftGuard}
use Rattle.lhg_ctl.specs.Making.{controller_of}
use Rattle.lhg_ctl.specs.Views.{plain_placed}
use Rattle.lhg_check.specs.Check.{PlainVerdict, check}

-- rows with the places of their locations, and rows with the places of their switches, as a controller that is written without names
abbrev pub draft_of : List (ℕ × Vec PlainRow) → List (ℕ × Vec PlainRow) → PlainDraft
draft_of pieces guards = record { pieces = map plain_placed pieces; guards = map plain_placed guards; rounds = 0; names = [] }

-- the region holds exactly the states at which the rows of a piece of their location hold, and each guard exactly those of the location that its
-- switch leaves at which the rows of one of its guards hold
pub record HoldsWhere (a : PlainPlant) (d : PlainDraft) (c : PlainController) : Type 0 where
  pub region : (s : PlainState) → InRegion a c.region s ↔ InDraft a d s
  pub guards : (e : ℕ) (s : PlainState) → InGuard a c.guards e s ↔ InDraftGuard a d e s

-- what is formed to make the controller and to check it
abbrev pub tried : PlainPlant → PlainDraft → Marked PlainVerdict
tried a d = and_then (controller_of a d) (λ c. check a c)
