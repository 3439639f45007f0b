-- A text has one controller at most.
use Rattle.std.proofs.Common.{◌≡◌, List, [], ◌++◌, ap}
use Rattle.lhg_lex.specs.LineTokens.{Spot}
use Rattle.lhg_plant.specs.Plant.{PlainPlant}
use Rattle.lhg_read.specs.MachineLaws.{one_begun, none_behind}
use Rattle.lhg_read.specs.TextLaws.{HasOneReading, HasBlankEnd}
use Rattle.lhg_read.proofs.TextEnds.{one_reading, blank_end}
use Rattle.lhg_ctl.specs.ControllerGrammar.{IsController, IsControllerText, IsSomeControllerText}
use Rattle.lhg_ctl.specs.ControllerSteps.{PlainOpen}
use Rattle.lhg_ctl.specs.Draft.{PlainDraft}
use Rattle.lhg_ctl.proofs.ControllerMachine.{begin_at, begun_of, whole_of}
use Rattle.lhg_ctl.proofs.ControllerRuns.{is_ended, taken_at, closed_of}

module _ (p : PlainPlant) where
  -- tokens are one controller at most
  one_controller : (lines : List (List Spot)) (d e : PlainDraft) → IsController p lines d → IsController p lines e → d ≡ e
  one_controller lines d e h k =
      ap (λ (o : PlainOpen). o.draft) (one_begun PlainOpen begin_at (taken_at p) is_ended lines (closed_of h.version d) (closed_of k.version e) (begun_of p lines d h) (begun_of p lines e k))

  -- no further tokens follow those of a controller
  no_more : (tokens more : List (List Spot)) (d e : PlainDraft) → IsController p tokens d → IsController p (tokens ++ more) e → more ≡ []
  no_more tokens more d e h k = none_behind PlainOpen begin_at (taken_at p) is_ended tokens more (whole_of p tokens d h) (whole_of p (tokens ++ more) e k)

  pub controller_reading : HasOneReading (IsControllerText p) (IsSomeControllerText p)
  controller_reading = one_reading (IsController p) one_controller

  pub controller_end : HasBlankEnd (IsControllerText p)
  controller_end = blank_end (IsController p) no_more
