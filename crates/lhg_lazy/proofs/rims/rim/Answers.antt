use Rattle.std.proofs.Common.{length, ap, ◌∙◌, subst}
use Rattle.std.specs.Global.{Vec}
use Rattle.lhg_math.specs.Tests.{AllOf}
use Rattle.lhg_num.specs.FracArithmetic.{frac_arithmetic}
use Rattle.lhg_num.specs.Halting.{IsHaltedBy}
use Rattle.lhg_row.specs.System.{PlainSystem}
use Rattle.lhg_plant.specs.Inside.{IsRegionInside}
use Rattle.lhg_plant.specs.Views.{plain_plant}
use Rattle.lhg_union.specs.PolyLists.{ArePolys}
use Rattle.lhg_union.specs.Regions.{plain_region}
use Rattle.lhg_jump.proofs.Answering.{all_exact, region_over}
use Rattle.lhg_lazy.specs.RimCalculus.{rim}
use Rattle.lhg_lazy.specs.RimFacts.{IsRim}
use Rattle.lhg_lazy.proofs.RimStates.{rim-exact}
use Rattle.lhg_lazy.proofs.Inside.{rims-inside}
use Rattle.lhg_lazy.proofs.rims.rim.Goals as goal

pub returns-clause-calculus : goal.returns-clause-calculus
returns-clause-calculus c =
    let a = plain_plant c.args.plant.now in
    let region = plain_region c.args.region.now.pieces.items in
    let same = ap (λ rs. rim a (plain_region rs) (plain_region c.deref-4.result.now)) c.deref-3.ensures.value
    ∙ ap (λ os. rim a region (plain_region os)) c.deref-4.ensures.value in
    subst (λ m. IsHaltedBy c.rims_of.result m (λ v. plain_region v.items)) same c.rims_of.ensures.calculus

pub returns-clause-points : goal.returns-clause-points
returns-clause-points c =
    let p = c.args.plant.now in
    let a = plain_plant p in
    let n = length p.vars.items in
    let xs = c.args.region.now.pieces.items in
    let os = c.args.away.now.pieces.items in
    let region = plain_region xs in
    let away = plain_region os in
    let told : Vec PlainSystem → Type 0 = λ ps. ArePolys frac_arithmetic ps.items in
    let polys = subst (AllOf told) c.deref.ensures.value c.tell_lists.ensures in
    let away_polys = subst (AllOf told) c.deref-2.ensures.value c.tell_lists-2.ensures in
    let region_in : IsRegionInside a region = record { over = region_over n xs c.requires.region.has_lists.vars polys; inside = c.requires.region.inside } in
    all_exact c.rims_of.result (rim a region away) (λ v. plain_region v.items) (IsRim a region) (returns-clause-calculus c)
    (rim-exact a p.proper region away region_in (region_over n os c.requires.away.vars away_polys) c.requires.outside)

pub returns-clause-lists : goal.returns-clause-lists
returns-clause-lists c = rims-inside c.args.plant.now (plain_region c.args.region.now.pieces.items) c.rims_of.result c.rims_of.ensures.lists (returns-clause-points c)
