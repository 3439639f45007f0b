use Rattle.std.proofs.Common.{List, sym, ap, ◌∙◌, subst}
use Rattle.std.specs.Global.{Vec}
use Rattle.lhg_num.specs.MarkedLaws.{IsPart}
use Rattle.lhg_num.proofs.Halted.{part_halts}
use Rattle.lhg_row.specs.System.{PlainSystem}
use Rattle.lhg_plant.specs.Views.{plain_plant}
use Rattle.lhg_union.specs.Regions.{plain_region}
use Rattle.lhg_jump.specs.PlantLists.{AreListsOf, AreGuardsOf}
use Rattle.lhg_jump.proofs.CallCode.{rest-is_part}
use Rattle.lhg_ctl.specs.Views.{plain_controller}
use Rattle.lhg_ctl.specs.Written.{AreOfController}
use Rattle.lhg_check.specs.Check.{check}
use Rattle.lhg_check.specs.Views.{plain_verdict}
use Rattle.lhg_check.proofs.InsideSteps.{is-checked}
use Rattle.lhg_lazy.specs.Rim.{IsCandidate}
use Rattle.lhg_lazy.specs.RimCalculus.{candidate}
use Rattle.lhg_lazy.specs.RimFacts.{IsRim, AreGuardsInside}
use Rattle.lhg_cli.specs.LazyAnswer.{trial_of}
use Rattle.lhg_cli.specs.declared.judging.Judged.{Judged}
use Rattle.lhg_cli.proofs.LazyParts.{away-part, rim-part, candidate-part, candidate-rest, check-rest}
use Rattle.lhg_cli.proofs.lazing.trial.Goals as goal

pub away-requires : goal.away-requires
away-requires c = (is-checked c.args.plant.now c.args.controller.now c.requires.controller c.requires.inside).region.has_lists

pub returns-in_err-outside-clause-calculus : goal.returns-in_err-outside-clause-calculus
returns-in_err-outside-clause-calculus c =
    part_halts c.from_residual.result c.in_err-outside.field-0.0 _ (λ (j : Judged). plain_verdict j.verdict) _ (λ r. plain_region r.pieces.items) c.from_residual.ensures.1 c.in_err-outside.ensures.calculus
    (away-part (plain_plant c.args.plant.now) (plain_controller c.args.controller.now))

pub rim-requires-clause-region : goal.rim-requires-clause-region
rim-requires-clause-region c = (is-checked c.args.plant.now c.args.controller.now c.requires.controller c.requires.inside).region

pub rim-requires-clause-away : goal.rim-requires-clause-away
rim-requires-clause-away c = c.in_ok-outside.ensures.lists.has_lists

pub returns-in_err-edge-clause-calculus : goal.returns-in_err-edge-clause-calculus
returns-in_err-edge-clause-calculus c =
    part_halts c.from_residual-in_err-edge.result c.in_err-edge.field-0.0 _ (λ (j : Judged). plain_verdict j.verdict) _ (λ v. plain_region v.items) c.from_residual-in_err-edge.ensures.1 c.in_err-edge.ensures.calculus
    (rim-part (plain_plant c.args.plant.now) (plain_controller c.args.controller.now) (plain_region c.in_ok-outside.outside.pieces.items) c.in_ok-outside.ensures.calculus)

pub candidate-requires-clause-region : goal.candidate-requires-clause-region
candidate-requires-clause-region c = (is-checked c.args.plant.now c.args.controller.now c.requires.controller c.requires.inside).region

pub candidate-requires-clause-guards : goal.candidate-requires-clause-guards
candidate-requires-clause-guards c =
    subst (λ (xs : List (Vec PlainSystem)). AreGuardsOf c.args.plant.now xs) (sym c.deref.ensures.value) (is-checked c.args.plant.now c.args.controller.now c.requires.controller c.requires.inside).guards

pub candidate-requires-clause-guards_inside : goal.candidate-requires-clause-guards_inside
candidate-requires-clause-guards_inside c = subst (λ (xs : List (Vec PlainSystem)). AreGuardsInside (plain_plant c.args.plant.now) (plain_region xs)) (sym c.deref.ensures.value) c.requires.inside.guards

pub candidate-requires-clause-rim : goal.candidate-requires-clause-rim
candidate-requires-clause-rim c = subst (λ (xs : List (Vec PlainSystem)). AreListsOf c.args.plant.now xs) (sym c.deref-2.ensures.value) c.in_ok-edge.ensures.lists.has_lists

pub returns-in_err-lazy-clause-calculus : goal.returns-in_err-lazy-clause-calculus
returns-in_err-lazy-clause-calculus c =
    let a = plain_plant c.args.plant.now in
    let k = plain_controller c.args.controller.now in
    let outside = plain_region c.in_ok-outside.outside.pieces.items in
    let edge = plain_region c.in_ok-edge.edge.items in
    let same = ap (λ (xs : List (Vec PlainSystem)). candidate a k.region (plain_region xs) (plain_region c.deref-2.result.now)) c.deref.ensures.value
    ∙ ap (λ (xs : List (Vec PlainSystem)). candidate a k.region k.guards (plain_region xs)) c.deref-2.ensures.value in
    part_halts c.from_residual-in_err-lazy.result c.in_err-lazy.field-0.0 _ (λ (j : Judged). plain_verdict j.verdict) _ plain_controller c.from_residual-in_err-lazy.ensures.1 c.in_err-lazy.ensures.calculus
    (subst (IsPart (trial_of a k)) (sym same) (candidate-part a k outside c.in_ok-outside.ensures.calculus edge c.in_ok-edge.ensures.calculus))

pub check-requires-clause-controller : goal.check-requires-clause-controller
check-requires-clause-controller c =
    c.in_ok-lazy.ensures.controller (subst (λ (xs : List (Vec PlainSystem)). AreOfController (plain_plant c.args.plant.now) (plain_region xs)) (sym c.deref.ensures.value) c.requires.controller.ctl)

pub returns-clause-made : goal.returns-clause-made
returns-clause-made c =
    let a = plain_plant c.args.plant.now in
    let k = plain_controller c.args.controller.now in
    let outside = plain_region c.in_ok-outside.outside.pieces.items in
    let edge = plain_region c.in_ok-edge.edge.items in
    let same = ap (λ (xs : List (Vec PlainSystem)). candidate a k.region (plain_region xs) (plain_region c.deref-2.result.now)) c.deref.ensures.value
    ∙ ap (λ (xs : List (Vec PlainSystem)). candidate a k.region k.guards (plain_region xs)) c.deref-2.ensures.value in
    c.in_ok-lazy.ensures.calculus ∙ ap (λ m. m.value) same ∙ (candidate-rest a k outside c.in_ok-outside.ensures.calculus edge c.in_ok-edge.ensures.calculus).same

pub returns-in_err-verdict-clause-calculus : goal.returns-in_err-verdict-clause-calculus
returns-in_err-verdict-clause-calculus c =
    let a = plain_plant c.args.plant.now in
    let k = plain_controller c.args.controller.now in
    let d = plain_controller c.in_ok-lazy.lazy in
    let outside = plain_region c.in_ok-outside.outside.pieces.items in
    let edge = plain_region c.in_ok-edge.edge.items in
    let same = ap (λ (xs : List (Vec PlainSystem)). candidate a k.region (plain_region xs) (plain_region c.deref-2.result.now)) c.deref.ensures.value
    ∙ ap (λ (xs : List (Vec PlainSystem)). candidate a k.region k.guards (plain_region xs)) c.deref-2.ensures.value in
    let made = c.in_ok-lazy.ensures.calculus ∙ ap (λ m. m.value) same ∙ (candidate-rest a k outside c.in_ok-outside.ensures.calculus edge c.in_ok-edge.ensures.calculus).same in
    part_halts c.from_residual-in_err-verdict.result c.in_err-verdict.field-0.0 _ (λ (j : Judged). plain_verdict j.verdict) _ plain_verdict c.from_residual-in_err-verdict.ensures.1 c.in_err-verdict.ensures.calculus
    (rest-is_part (trial_of a k) (check a d) (check-rest a k d made))

pub returns-clause-calculus : goal.returns-clause-calculus
returns-clause-calculus c =
    let a = plain_plant c.args.plant.now in
    let k = plain_controller c.args.controller.now in
    c.in_ok-verdict.ensures.calculus ∙ (check-rest a k (plain_controller c.in_ok-lazy.lazy) (returns-clause-made c)).same

pub returns-clause-controller : goal.returns-clause-controller
returns-clause-controller c =
    c.in_ok-lazy.ensures.controller (subst (λ (xs : List (Vec PlainSystem)). AreOfController (plain_plant c.args.plant.now) (plain_region xs)) (sym c.deref.ensures.value) c.requires.controller.ctl)

pub returns-clause-candidate : goal.returns-clause-candidate
returns-clause-candidate c =
    let a = plain_plant c.args.plant.now in
    let k = plain_controller c.args.controller.now in
    let d = plain_controller c.in_ok-lazy.lazy in
    let points = subst (λ (xs : List (Vec PlainSystem)). IsRim a k.region (plain_region xs)) (sym c.deref-2.ensures.value) c.in_ok-edge.ensures.points in
    subst (λ (xs : List (Vec PlainSystem)). IsCandidate a (record { region = k.region; guards = plain_region xs }) d) c.deref.ensures.value (c.in_ok-lazy.ensures.candidate points)
