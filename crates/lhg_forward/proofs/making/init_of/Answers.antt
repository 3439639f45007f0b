use Rattle.std.proofs.Common.{◌≡◌, map, length, sym, ap, ◌∙◌, subst}
use Rattle.std.proofs.lemmas.List.{length-map}
use Rattle.lhg_math.specs.Tests.{AllOf}
use Rattle.lhg_num.proofs.Halted.{part_halts}
use Rattle.lhg_plant.specs.Views.{plain_location, plain_plant}
use Rattle.lhg_union.specs.Regions.{plain_region}
use Rattle.lhg_ctl.specs.DraftStates.{IsPlaced, IsOfController}
use Rattle.lhg_ctl.specs.declared.controllers.Draft.{Draft}
use Rattle.lhg_ctl.specs.Views.{plain_placed, plain_controller, plain_draft}
use Rattle.lhg_forward.proofs.InitMade.{made_part, made_value, made_states}
use Rattle.lhg_forward.proofs.making.init_of.Goals as goal

pub controller_of-requires : goal.controller_of-requires
controller_of-requires c =
    let p = c.args.plant.now in
    let none = ap (map plain_placed) c.new.ensures.items in
    record {
      pieces = subst (λ n. AllOf (IsPlaced (length p.vars.items) n) (map plain_placed c.in_ok-pieces.pieces.items)) (sym (length-map p.locs.items plain_location))
          (subst (AllOf (IsPlaced (length p.vars.items) (length p.locs.items))) (sym c.in_ok-pieces.ensures) c.requires);
      guards = subst (AllOf (IsPlaced (length p.vars.items) (length (plain_plant p).switches))) (sym none) tt;
      ctl = subst (AllOf (IsOfController (plain_plant p))) (sym none) tt;
    }

pub returns-in_err-controller-clause-calculus : goal.returns-in_err-controller-clause-calculus
returns-in_err-controller-clause-calculus c =
    let d : Draft = record { pieces = c.in_ok-pieces.pieces; guards = c.new.result; rounds = 0; names = c.new-2.result } in
    part_halts c.from_residual-in_err-controller.result c.in_err-controller.field-0.0 _ (λ r. plain_region r.pieces.items) _ plain_controller c.from_residual-in_err-controller.ensures.1 c.in_err-controller.ensures.calculus
    (made_part (plain_plant c.args.plant.now) (map plain_placed c.args.lines.now) (plain_draft d) c.in_ok-pieces.ensures (ap (map plain_placed) c.new.ensures.items))

pub returns-clause-calculus : goal.returns-clause-calculus
returns-clause-calculus c =
    let d : Draft = record { pieces = c.in_ok-pieces.pieces; guards = c.new.result; rounds = 0; names = c.new-2.result } in
    made_value (plain_plant c.args.plant.now) (map plain_placed c.args.lines.now) (plain_draft d) c.in_ok-pieces.ensures (ap (map plain_placed) c.new.ensures.items) (plain_region c.in_ok-controller.controller.region.pieces.items)
    (ap (λ k. k.region) c.in_ok-controller.ensures.calculus)

pub returns-clause-region : goal.returns-clause-region
returns-clause-region c =
    let p = c.args.plant.now in
    let k = c.in_ok-controller.ensures.controller in
    record { has_lists = record { many = k.locs ∙ length-map p.locs.items plain_location; vars = k.region }; inside = c.in_ok-controller.ensures.inside.inside.region }

pub returns-clause-states : goal.returns-clause-states
returns-clause-states c = λ s.
    let d : Draft = record { pieces = c.in_ok-pieces.pieces; guards = c.new.result; rounds = 0; names = c.new-2.result } in
    let same = made_states (plain_plant c.args.plant.now) (map plain_placed c.args.lines.now) (plain_draft d) c.in_ok-pieces.ensures (ap (map plain_placed) c.new.ensures.items) s in
    let here = c.in_ok-controller.ensures.region s in
    (λ h. same.0 (here.0 h), λ h. here.1 (same.1 h))
