use Rattle.std.proofs.Common.{[], ◌∷◌, ◌++◌, ap, ◌∙◌}
use Rattle.lhg_union.specs.PolyLists.{lines_of}
use Rattle.lhg_union.specs.Regions.{plain_region}
use Rattle.lhg_jump.proofs.RegionSteps.{region-push}
use Rattle.lhg_jump.proofs.RangeSteps.{lines-at}
use Rattle.lhg_iterate.proofs.passing.pass_place.Goals as goal

pub returns-clause-next : goal.returns-clause-next
returns-clause-next c =
    let xs = c.args.region.now.pieces.items in
    let old = c.args.so_far.now.next.pieces.items in
    ap plain_region c.in_ok-push.ensures.items ∙ region-push old c.in_ok-copy.copy
    ∙ ap (λ ps. plain_region old ++ ps ∷ []) (ap lines_of (c.in_ok-copy.ensures.copies ∙ c.deref.ensures.value) ∙ lines-at xs c.args.l c.index.result.now c.index.ensures c.requires.there)
