use Rattle.std.proofs.Common.{length, map, ap, sym, subst, ◌∙◌}
use Rattle.std.specs.Prelude.{◌↔◌}
use Rattle.std.proofs.lemmas.List.{length-map}
use Rattle.lhg_num.proofs.Halted.{part_halts}
use Rattle.lhg_plant.specs.Region.{InRegion, InGuard}
use Rattle.lhg_plant.specs.Controller.{PlainController}
use Rattle.lhg_plant.specs.Views.{plain_location, plain_switch, plain_plant}
use Rattle.lhg_union.specs.Regions.{plain_region}
use Rattle.lhg_ctl.specs.Conditions.{IsInsideController}
use Rattle.lhg_ctl.specs.Written.{AreOfController}
use Rattle.lhg_ctl.specs.DraftStates.{InDraft, InDraftGuard}
use Rattle.lhg_ctl.specs.Views.{plain_placed, plain_draft}
use Rattle.lhg_ctl.proofs.MakingLawProofs.{making_laws}
use Rattle.lhg_ctl.proofs.MakingSteps.{region_part, guards_part, made_controller}
use Rattle.lhg_ctl.proofs.making.controller_of.Goals as goal

pub returns-in_err-region-clause-calculus : goal.returns-in_err-region-clause-calculus
returns-in_err-region-clause-calculus c =
    let a = plain_plant c.args.plant.now in
    let d = plain_draft c.args.draft.now in
    part_halts c.from_residual.result c.in_err-region.field-0.0 _ _ _ (λ r. plain_region r.pieces.items) c.from_residual.ensures.1 c.in_err-region.ensures.calculus
    (region_part a d (length c.args.plant.now.locs.items) (map plain_placed c.deref.result.now) (sym (length-map c.args.plant.now.locs.items plain_location)) (ap (map plain_placed) c.deref.ensures.value))

pub returns-in_err-guards-clause-calculus : goal.returns-in_err-guards-clause-calculus
returns-in_err-guards-clause-calculus c =
    let a = plain_plant c.args.plant.now in
    let d = plain_draft c.args.draft.now in
    part_halts c.from_residual-in_err-guards.result c.in_err-guards.field-0.0 _ _ _ (λ r. plain_region r.pieces.items) c.from_residual-in_err-guards.ensures.1 c.in_err-guards.ensures.calculus
    (guards_part a d (length c.args.plant.now.switches.items) (map plain_placed c.deref-2.result.now) (sym (length-map c.args.plant.now.switches.items plain_switch)) (ap (map plain_placed) c.deref-2.ensures.value))

pub returns-clause-calculus : goal.returns-clause-calculus
returns-clause-calculus c =
    made_controller c.args.plant.now c.args.draft.now c.deref.result.now c.deref-2.result.now (plain_region c.in_ok-region.region.pieces.items) (plain_region c.in_ok-guards.guards.pieces.items)
    c.deref.ensures.value c.deref-2.ensures.value c.in_ok-region.ensures.calculus c.in_ok-guards.ensures.calculus

pub returns-clause-region : goal.returns-clause-region
returns-clause-region c = λ s.
    let a = plain_plant c.args.plant.now in
    let d = plain_draft c.args.draft.now in
    let is = made_controller c.args.plant.now c.args.draft.now c.deref.result.now c.deref-2.result.now (plain_region c.in_ok-region.region.pieces.items) (plain_region c.in_ok-guards.guards.pieces.items)
    c.deref.ensures.value c.deref-2.ensures.value c.in_ok-region.ensures.calculus c.in_ok-guards.ensures.calculus in
    subst (λ (k : PlainController). InRegion a k.region s ↔ InDraft a d s) (sym is) (making_laws.region a d s c.args.plant.now.proper c.requires)

pub returns-clause-guards : goal.returns-clause-guards
returns-clause-guards c = λ e s.
    let a = plain_plant c.args.plant.now in
    let d = plain_draft c.args.draft.now in
    let is = made_controller c.args.plant.now c.args.draft.now c.deref.result.now c.deref-2.result.now (plain_region c.in_ok-region.region.pieces.items) (plain_region c.in_ok-guards.guards.pieces.items)
    c.deref.ensures.value c.deref-2.ensures.value c.in_ok-region.ensures.calculus c.in_ok-guards.ensures.calculus in
    subst (λ (k : PlainController). InGuard a k.guards e s ↔ InDraftGuard a d e s) (sym is) (making_laws.guards a d e s c.args.plant.now.proper c.requires)

pub returns-clause-inside : goal.returns-clause-inside
returns-clause-inside c =
    let a = plain_plant c.args.plant.now in
    let d = plain_draft c.args.draft.now in
    let is = made_controller c.args.plant.now c.args.draft.now c.deref.result.now c.deref-2.result.now (plain_region c.in_ok-region.region.pieces.items) (plain_region c.in_ok-guards.guards.pieces.items)
    c.deref.ensures.value c.deref-2.ensures.value c.in_ok-region.ensures.calculus c.in_ok-guards.ensures.calculus in
    subst (IsInsideController a) (sym is) (making_laws.inside a d c.args.plant.now.proper c.requires)

pub returns-clause-controller : goal.returns-clause-controller
returns-clause-controller c =
    let a = plain_plant c.args.plant.now in
    let d = plain_draft c.args.draft.now in
    let is = made_controller c.args.plant.now c.args.draft.now c.deref.result.now c.deref-2.result.now (plain_region c.in_ok-region.region.pieces.items) (plain_region c.in_ok-guards.guards.pieces.items)
    c.deref.ensures.value c.deref-2.ensures.value c.in_ok-region.ensures.calculus c.in_ok-guards.ensures.calculus in
    record {
      locs = c.in_ok-region.ensures.count ∙ sym (length-map c.args.plant.now.locs.items plain_location);
      switches = c.in_ok-guards.ensures.count ∙ sym (length-map c.args.plant.now.switches.items plain_switch);
      region = c.in_ok-region.ensures.vars;
      guards = c.in_ok-guards.ensures.vars;
      ctl = subst (λ (k : PlainController). AreOfController a k.guards) (sym is) (making_laws.inside a d c.args.plant.now.proper c.requires).ctl;
    }
