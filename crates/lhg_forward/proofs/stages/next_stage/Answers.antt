use Rattle.std.proofs.Common.{◌≡◌, length, map, refl, sym, ap, ◌∙◌}
use Rattle.lhg_union.specs.Regions.{plain_region}
use Rattle.lhg_forward.specs.Growth.{joined}
use Rattle.lhg_forward.proofs.StageCode.{stage_lists}
use Rattle.lhg_forward.proofs.stages.next_stage.Goals as goal

pub returns-clause-lists : goal.returns-clause-lists
returns-clause-lists c =
    let p = c.args.plant.now in
    let m = length p.locs.items in
    let old = c.args.stage.region.pieces.items in
    let new = c.in_ok-growth.growth.pieces.items in
    stage_lists p old new _ c.requires.stage.lists c.in_ok-growth.ensures.lists c.in_ok-pieces.ensures.lists
    (c.in_ok-pieces.ensures.calculus ∙ ap (λ xs. (joined m (plain_region xs) (plain_region c.deref-3.result.now)).value) c.deref-2.ensures.value ∙ ap (λ ys. (joined m (plain_region old) (plain_region ys)).value) c.deref-3.ensures.value)
    (c.in_ok-older.ensures ∙ ap (λ xs. map length (plain_region xs)) c.deref.ensures.value)
