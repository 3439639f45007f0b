use Rattle.std.proofs.Common.{◌≡◌, ◌≤◌, List, length, map, refl, ap, ◌∙◌, subst}
use Rattle.std.specs.Global.{Vec}
use Rattle.std.proofs.lemmas.List.{take_all}
use Rattle.lhg_row.specs.System.{PlainSystem}
use Rattle.lhg_union.specs.Regions.{polys_of}
use Rattle.lhg_forward.proofs.StageCode.{first-is, first_lists}
use Rattle.lhg_forward.proofs.stages.first_stage.Invariants.{none_older}
use Rattle.lhg_forward.proofs.stages.first_stage.Goals as goal

pub returns-clause-stage : goal.returns-clause-stage
returns-clause-stage c =
    let init = c.args.init.now.pieces.items in
    let past : length init ≤ c.loop-list.list-index = subst (λ (xs : List (Vec PlainSystem)). length xs ≤ c.loop-list.list-index) c.deref-list-items.ensures.value c.loop-list-test.false in
    let all = take_all c.loop-list.list-index init past in
    first-is init c.loop-list.pieces.items c.loop-list.older.items none_older (λ v. refl) (c.loop-list.invariant.copied ∙ ap polys_of all) (c.loop-list.invariant.none ∙ ap (map none_older) all)

pub returns-clause-lists : goal.returns-clause-lists
returns-clause-lists c =
    let init = c.args.init.now.pieces.items in
    let past : length init ≤ c.loop-list.list-index = subst (λ (xs : List (Vec PlainSystem)). length xs ≤ c.loop-list.list-index) c.deref-list-items.ensures.value c.loop-list-test.false in
    let all = take_all c.loop-list.list-index init past in
    first_lists c.args.plant.now init c.loop-list.pieces.items _ none_older (λ v. refl) c.requires refl (c.loop-list.invariant.copied ∙ ap polys_of all) (c.loop-list.invariant.none ∙ ap (map none_older) all)
