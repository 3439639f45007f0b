use Rattle.std.proofs.Common.{List, length, map, refl, sym, ap, ◌∙◌, subst}
use Rattle.std.specs.Global.{Vec}
use Rattle.std.specs.List.{range_with_len}
use Rattle.lhg_math.specs.Tests.{AllOf}
use Rattle.lhg_num.specs.FracArithmetic.{frac_arithmetic}
use Rattle.lhg_num.specs.Marked.{each}
use Rattle.lhg_num.specs.MarkedLaws.{IsPart}
use Rattle.lhg_num.proofs.Halted.{part_halts}
use Rattle.lhg_row.specs.System.{PlainSystem}
use Rattle.lhg_plant.specs.Invariants.{invariants}
use Rattle.lhg_plant.specs.OutCalculus.{PlainHit, PlainOuts, away, hits_at, out}
use Rattle.lhg_plant.specs.Region.{InRegion}
use Rattle.lhg_plant.specs.SwitchFacts.{IsOutOf}
use Rattle.lhg_plant.specs.Views.{plain_plant}
use Rattle.lhg_plant.proofs.OutStates.{out-states}
use Rattle.lhg_union.specs.PolyLists.{ArePolys}
use Rattle.lhg_union.specs.Regions.{plain_region}
use Rattle.lhg_union.proofs.Halts.{all_on_rows}
use Rattle.lhg_jump.specs.declared.hits.Hit.{Hit}
use Rattle.lhg_jump.specs.HitViews.{plain_hits}
use Rattle.lhg_jump.specs.OutViews.{plain_outs}
use Rattle.lhg_jump.proofs.Answering.{region_over}
use Rattle.lhg_jump.proofs.CallCode.{out-first, out-away, out-hits, out-rest}
use Rattle.lhg_jump.proofs.outs.out_with.Goals as goal

pub returns-in_err-away-clause-calculus : goal.returns-in_err-away-clause-calculus
returns-in_err-away-clause-calculus c =
    let a = plain_plant c.args.plant.now in
    let n = length c.args.plant.now.vars.items in
    let region = plain_region c.args.region.now.pieces.items in
    let invs = plain_region c.args.invs.now in
    let same = ap (λ rs. away n invs (plain_region rs)) c.deref-2.ensures.value in
    part_halts c.from_residual.result c.in_err-away.field-0.0 _ plain_outs _ (λ v. plain_region v.items) c.from_residual.ensures.1 c.in_err-away.ensures.calculus
    (subst (IsPart (out a region)) (sym same) (out-away a region invs c.requires.invs.same))

pub returns-in_err-hits-clause-calculus : goal.returns-in_err-hits-clause-calculus
returns-in_err-hits-clause-calculus c =
    let a = plain_plant c.args.plant.now in
    let n = length c.args.plant.now.vars.items in
    let region = plain_region c.args.region.now.pieces.items in
    let invs = plain_region c.args.invs.now in
    let outside = plain_region c.in_ok-away.away.items in
    let view : Vec Hit → List PlainHit = λ hs. plain_hits hs.items in
    let places = range_with_len 0 (length a.locs) in
    let same = ap (λ rs. away n invs (plain_region rs)) c.deref-2.ensures.value in
    let hits = ap (λ os. each (hits_at a invs (plain_region os) (plain_region c.deref-4.result.now)) places) c.deref-3.ensures.value
    ∙ ap (λ rs. each (hits_at a invs outside (plain_region rs)) places) c.deref-4.ensures.value in
    part_halts c.from_residual-in_err-hits.result c.in_err-hits.field-0.0 _ plain_outs _ (λ v. map view v.items) c.from_residual-in_err-hits.ensures.1 c.in_err-hits.ensures.calculus
    (subst (IsPart (out a region)) (sym hits) (out-hits a region invs c.requires.invs.same outside (c.in_ok-away.ensures.calculus ∙ ap (λ m. m.value) same)))

pub returns-clause-calculus : goal.returns-clause-calculus
returns-clause-calculus c =
    let a = plain_plant c.args.plant.now in
    let n = length c.args.plant.now.vars.items in
    let region = plain_region c.args.region.now.pieces.items in
    let invs = plain_region c.args.invs.now in
    let outside = plain_region c.in_ok-away.away.items in
    let places = range_with_len 0 (length a.locs) in
    let same = ap (λ rs. away n invs (plain_region rs)) c.deref-2.ensures.value in
    let hits = ap (λ os. (each (hits_at a invs (plain_region os) (plain_region c.deref-4.result.now)) places).value) c.deref-3.ensures.value
    ∙ ap (λ rs. (each (hits_at a invs outside (plain_region rs)) places).value) c.deref-4.ensures.value in
    let made : List (List PlainHit) → PlainOuts = λ hs. record { away = outside; hits = hs } in
    ap made (c.in_ok-hits.ensures.calculus ∙ hits) ∙ (out-rest a region invs c.requires.invs.same outside (c.in_ok-away.ensures.calculus ∙ ap (λ m. m.value) same)).same

pub returns-clause-points : goal.returns-clause-points
returns-clause-points c =
    let p = c.args.plant.now in
    let a = plain_plant p in
    let xs = c.args.region.now.pieces.items in
    let told : Vec PlainSystem → Type 0 = λ ps. ArePolys frac_arithmetic ps.items in
    let polys = subst (AllOf told) c.deref.ensures.value c.tell_lists.ensures in
    subst (IsOutOf a (InRegion a (plain_region xs))) (sym (returns-clause-calculus c)) (out-states a p.proper (plain_region xs) (region_over (length p.vars.items) xs c.requires.region.vars polys))
