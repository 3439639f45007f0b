use Rattle.std.proofs.Common.{◌<◌, List, [], ◌∷◌, ◌++◌, length, sym, ap, ◌∙◌, subst, arith}
use Rattle.std.proofs.lemmas.List.{length-map}
use Rattle.lhg_play.specs.Views.{plain_steps}
use Rattle.lhg_play.specs.declared.traces.Step.{Step}
use Rattle.lhg_play.specs.declared.traces.Step.TheVariants.{Start}
use Rattle.lhg_plant.specs.Run.{started, resting}
use Rattle.lhg_plant.specs.Views.{plain_plant, plain_state, plain_location}
use Rattle.lhg_union.specs.PolyLists.{AllVars}
use Rattle.lhg_union.specs.Regions.{polys_at, plain_region}
use Rattle.lhg_run.proofs.SightSteps.{list-at, polys-at, start-outside, start-inside}
use Rattle.lhg_run.proofs.runs.at_start.Goals as goal

pub contains-requires-clause-same : goal.contains-requires-clause-same
contains-requires-clause-same c =
    let p = c.args.plant.now in
    let s = c.args.start.now in
    let ps = c.args.controller.now.region.pieces.items in
    let size = length-map p.locs.items plain_location in
    let there : s.loc < length ps = omega (arith, c.requires.there, c.requires.controller.locs, size) in
    subst (λ n. AllVars n (polys_at ps s.loc)) (sym c.requires.start) (list-at (AllVars (length p.vars.items)) ps s.loc there c.requires.controller.region)

pub returns-then-not-inside : goal.returns-then-not-inside
returns-then-not-inside c =
    let p = c.args.plant.now in
    let a = plain_plant p in
    let s = c.args.start.now in
    let ps = c.args.controller.now.region.pieces.items in
    let size = length-map p.locs.items plain_location in
    let there : s.loc < length ps = omega (arith, c.requires.there, c.requires.controller.locs, size) in
    start-outside a (plain_region ps) (plain_state s) c.requires.inside c.requires.start _ (polys-at ps s.loc there) c.in_ok-inside.inside c.in_ok-inside.ensures.exact c.if-not-inside.true

pub returns : goal.returns
returns c =
    let p = c.args.plant.now in
    let a = plain_plant p in
    let s = c.args.start.now in
    let ps = c.args.controller.now.region.pieces.items in
    let size = length-map p.locs.items plain_location in
    let there : s.loc < length ps = omega (arith, c.requires.there, c.requires.controller.locs, size) in
    let inside = start-inside a (plain_region ps) (plain_state s) c.requires.inside c.requires.start _ (polys-at ps s.loc there) c.in_ok-inside.inside c.in_ok-inside.ensures.exact c.if-not-inside.false in
    let step = c.in_ok-copy_state.field-0 in
    record {
      inside = inside;
      steps = ap plain_steps (c.in_ok-push.ensures.items ∙ ap (λ (us : List Step). us ++ Start step ∷ []) c.new-steps.ensures.items) ∙ ap (λ u. started u ∷ []) c.in_ok-copy_state.ensures;
      place = ap resting c.in_ok-state.ensures;
    }
