-- Which states does the controller of a draft keep?
use Rattle.std.specs.Prelude.{◌↔◌, ℕ}
use Rattle.lhg_plant.specs.Plant.{PlainPlant}
use Rattle.lhg_plant.specs.Proper.{IsProper}
use Rattle.lhg_plant.specs.Region.{InRegion, InGuard}
use Rattle.lhg_plant.specs.State.{PlainState}
use Rattle.lhg_ctl.specs.Draft.{PlainDraft}
use Rattle.lhg_ctl.specs.DraftStates.{IsDraft, InDraft, InDraftGuard}
use Rattle.lhg_ctl.specs.Making.{controller_of}
use Rattle.lhg_ctl.specs.Conditions.{IsInsideController}

-- exactly the states of the pieces and guards that were read, in pieces that lie inside the invariants
pub record MakingLaws : Type 0 where
  pub region : (a : PlainPlant) (d : PlainDraft) (s : PlainState) → IsProper a → IsDraft a d → InRegion a (controller_of a d).value.region s ↔ InDraft a d s
  pub guards : (a : PlainPlant) (d : PlainDraft) (e : ℕ) (s : PlainState) → IsProper a → IsDraft a d → InGuard a (controller_of a d).value.guards e s ↔ InDraftGuard a d e s
  pub inside : (a : PlainPlant) (d : PlainDraft) → IsProper a → IsDraft a d → IsInsideController a (controller_of a d).value
