use Rattle.std.proofs.Common.{List, sym, ◌∙◌, subst}
use Rattle.std.specs.Global.{Vec}
use Rattle.std.proofs.lemmas.List.{length-map}
use Rattle.lhg_row.specs.System.{PlainSystem}
use Rattle.lhg_plant.specs.Views.{plain_location, plain_switch, plain_plant}
use Rattle.lhg_union.specs.Regions.{plain_region}
use Rattle.lhg_jump.specs.PlantLists.{AreListsOf, AreGuardsOf}
use Rattle.lhg_ctl.specs.Written.{AreOfController}
use Rattle.lhg_lazy.specs.RimFacts.{AreGuardsInside}
use Rattle.lhg_lazy.proofs.tests.cut.Goals as goal

pub controller_of-requires : goal.controller_of-requires
controller_of-requires c = c.in_ok-draft.ensures.given.draft

pub away-requires : goal.away-requires
away-requires c =
    let p = c.in_ok-plant.plant in
    let k = c.in_ok-whole.ensures.controller in
    record { many = k.locs ∙ length-map p.locs.items plain_location; vars = k.region }

pub rim-requires-clause-region : goal.rim-requires-clause-region
rim-requires-clause-region c =
    let p = c.in_ok-plant.plant in
    let k = c.in_ok-whole.ensures.controller in
    record { has_lists = record { many = k.locs ∙ length-map p.locs.items plain_location; vars = k.region }; inside = c.in_ok-whole.ensures.inside.inside.region }

pub rim-requires-clause-away : goal.rim-requires-clause-away
rim-requires-clause-away c = c.in_ok-outside.ensures.lists.has_lists

pub candidate-requires-clause-region : goal.candidate-requires-clause-region
candidate-requires-clause-region c =
    let p = c.in_ok-plant.plant in
    let k = c.in_ok-whole.ensures.controller in
    record { has_lists = record { many = k.locs ∙ length-map p.locs.items plain_location; vars = k.region }; inside = c.in_ok-whole.ensures.inside.inside.region }

pub candidate-requires-clause-guards : goal.candidate-requires-clause-guards
candidate-requires-clause-guards c =
    let p = c.in_ok-plant.plant in
    let k = c.in_ok-whole.ensures.controller in
    subst (λ (xs : List (Vec PlainSystem)). AreGuardsOf p xs) (sym c.deref.ensures.value) (record { many = k.switches ∙ length-map p.switches.items plain_switch; vars = k.guards })

pub candidate-requires-clause-guards_inside : goal.candidate-requires-clause-guards_inside
candidate-requires-clause-guards_inside c =
    subst (λ (xs : List (Vec PlainSystem)). AreGuardsInside (plain_plant c.in_ok-plant.plant) (plain_region xs)) (sym c.deref.ensures.value) c.in_ok-whole.ensures.inside.inside.guards

pub candidate-requires-clause-rim : goal.candidate-requires-clause-rim
candidate-requires-clause-rim c = subst (λ (xs : List (Vec PlainSystem)). AreListsOf c.in_ok-plant.plant xs) (sym c.deref-2.ensures.value) c.in_ok-edge.ensures.lists.has_lists

pub print_controller-requires : goal.print_controller-requires
print_controller-requires c =
    c.in_ok-lazy.ensures.controller (subst (λ (xs : List (Vec PlainSystem)). AreOfController (plain_plant c.in_ok-plant.plant) (plain_region xs)) (sym c.deref.ensures.value) c.in_ok-whole.ensures.controller.ctl)
