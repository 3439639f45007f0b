-- The region of first states is that of a controller of their lines without guards.
use Rattle.std.proofs.Common.{◌≡◌, ◌↔◌, ◌||◌, ℕ, Bool, true, false, List, [], ◌∷◌, map, take, length, get_or, refl, sym, ap, ◌∙◌, subst}
use Rattle.std.specs.Global.{Vec}
use Rattle.lhg_num.specs.Marked.{Marked, and_then, valued}
use Rattle.lhg_num.specs.MarkedLaws.{IsPart}
use Rattle.lhg_row.specs.Members.{SomeOf}
use Rattle.lhg_row.specs.Piece.{PlainPiece}
use Rattle.lhg_row.specs.Row.{PlainRow}
use Rattle.lhg_plant.specs.Controller.{PlainController}
use Rattle.lhg_plant.specs.Plant.{PlainPlant}
use Rattle.lhg_plant.specs.Region.{PlainRegion}
use Rattle.lhg_plant.specs.State.{PlainState}
use Rattle.lhg_ctl.specs.Draft.{PlainDraft}
use Rattle.lhg_ctl.specs.DraftStates.{HoldsAt, InDraft}
use Rattle.lhg_ctl.specs.Making.{source_at, all_made, controller_of}
use Rattle.lhg_forward.specs.InitStates.{InInit, init_of}

or_none : (b : Bool) → (b || false) ≡ true → b ≡ true
or_none true h = refl
or_none false h = h

module _ (a : PlainPlant) where
  -- what is made of pieces and guards
  abbrev made : List (ℕ × PlainPiece) → List (ℕ × PlainPiece) → Marked PlainController
  made ps gs =
      and_then (all_made a (λ l. l) (length a.locs) ps) (λ region.
      valued (λ guards. record { region = region; guards = guards }) (all_made a (source_at a) (length a.switches) gs))

  made_is : (d : PlainDraft) → controller_of a d ≡ made d.pieces d.guards
  unfolding controller_of
  made_is d = refl

  module _ (lines : List (ℕ × PlainPiece)) where
    whole_part : IsPart (init_of a lines) (made lines [])
    unfolding init_of
    whole_part = let m = all_made a (λ l. l) (length a.locs) lines in record { wide = or_none m.wide; rows = or_none m.rows; pieces = or_none m.pieces }

    whole_value : (made lines []).value.region ≡ (init_of a lines).value
    unfolding init_of
    whole_value = refl

    -- a controller of these lines without guards
    module _ (d : PlainDraft) (same : d.pieces ≡ lines) (none : d.guards ≡ []) where
      draft_is : controller_of a d ≡ made lines []
      draft_is = made_is d ∙ ap (λ ps. made ps d.guards) same ∙ ap (made lines) none

      pub made_part : IsPart (init_of a lines) (controller_of a d)
      made_part = subst (IsPart (init_of a lines)) (sym draft_is) whole_part

      pub made_value : (region : PlainRegion) → region ≡ (controller_of a d).value.region → region ≡ (init_of a lines).value
      made_value region e = e ∙ ap (λ m. m.value.region) draft_is ∙ whole_value

      pub made_states : (s : PlainState) → InDraft a d s ↔ InInit a lines s
      made_states s = (
        λ h. record { state = h.state; some = subst (SomeOf (HoldsAt s.loc s.at)) same h.some },
        λ h. record { state = h.state; some = subst (SomeOf (HoldsAt s.loc s.at)) (sym same) h.some },
      )
