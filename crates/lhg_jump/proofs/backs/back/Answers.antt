use Rattle.std.proofs.Common.{length, refl, sym, subst, rules}
use Rattle.std.specs.Global.{Vec}
use Rattle.lhg_math.specs.Tests.{AllOf}
use Rattle.lhg_num.specs.FracArithmetic.{frac_arithmetic}
use Rattle.lhg_num.proofs.Halted.{part_halts}
use Rattle.lhg_row.specs.System.{PlainSystem}
use Rattle.lhg_plant.specs.Invariants.{invariants}
use Rattle.lhg_plant.specs.BackCalculus.{back_by, back}
use Rattle.lhg_plant.specs.SwitchFacts.{AreBacks}
use Rattle.lhg_plant.specs.Inside.{IsRegionInside}
use Rattle.lhg_plant.specs.Views.{plain_plant}
use Rattle.lhg_plant.proofs.BackStates.{back-states}
use Rattle.lhg_union.specs.PolyLists.{lines_of, ArePolys}
use Rattle.lhg_union.specs.Regions.{plain_region}
use Rattle.lhg_union.proofs.Halts.{all_on_rows}
use Rattle.lhg_jump.proofs.Answering.{region_over}
use Rattle.lhg_jump.proofs.CallCode.{back-first, back-each}
use Rattle.lhg_jump.proofs.RegionSteps.{switched-proper, switched-part, switched-step, switched-end}
use Rattle.lhg_jump.proofs.backs.back.Goals as goal

pub returns-in_err-invs-clause-calculus : goal.returns-in_err-invs-clause-calculus
returns-in_err-invs-clause-calculus c =
    let p = c.args.plant.now in
    let a = plain_plant p in
    let n = length p.vars.items in
    let region = plain_region c.args.region.now.pieces.items in
    let outside = plain_region c.args.away.now.pieces.items in
    all_on_rows c.from_residual.result c.in_err-invs.field-0.0 _ (λ v. plain_region v.items) _ (λ v. plain_region v.items) c.from_residual.ensures.1 c.in_err-invs.ensures.calculus (back-first a region (invariants a).value refl outside)

pub back_by-requires-clause-switch : goal.back_by-requires-clause-switch
back_by-requires-clause-switch c =
    switched-proper c.args.plant.now c.deref-switch-items.result.now c.deref-switch-items.ensures.value c.loop-switch.switch-index c.switch-item.result c.switch-item.is c.loop-switch-test.true

pub returns-in_err-kept-clause-calculus : goal.returns-in_err-kept-clause-calculus
returns-in_err-kept-clause-calculus c =
    let p = c.args.plant.now in
    let a = plain_plant p in
    let region = c.args.region.now.pieces.items in
    let outside = c.args.away.now.pieces.items in
    let invs = c.in_ok-invs.invs.items in
    part_halts c.from_residual-in_err-kept.result c.in_err-kept.field-0.0 _ (λ v. plain_region v.items) _ (λ v. lines_of v.items) c.from_residual-in_err-kept.ensures.1 c.in_err-kept.ensures.calculus
    (switched-part (back_by (length p.vars.items)) p c.deref-switch-items.result.now c.deref-switch-items.ensures.value invs region outside c.loop-switch.backs.items c.loop-switch.switch-index c.loop-switch.invariant.built
    c.switch-item.result c.switch-item.is c.loop-switch-test.true c.deref-in-loop-switch.result.now c.deref-in-loop-switch-2.result.now c.deref-in-loop-switch-3.result.now
    c.deref-in-loop-switch.ensures.value c.deref-in-loop-switch-2.ensures.value c.deref-in-loop-switch-3.ensures.value
    (back a (plain_region region) (plain_region outside)) (back-each a (plain_region region) (plain_region invs) c.in_ok-invs.ensures.calculus (plain_region outside)))

pub loop-switch-preserved : goal.loop-switch-preserved
loop-switch-preserved c =
    let p = c.args.plant.now in
    let next =
    switched-step (back_by (length p.vars.items)) p c.deref-switch-items.result.now c.deref-switch-items.ensures.value c.in_ok-invs.invs.items c.args.region.now.pieces.items c.args.away.now.pieces.items
    c.loop-switch.backs.items c.loop-switch.switch-index c.loop-switch.invariant.built
    c.switch-item.result c.switch-item.is c.loop-switch-test.true c.deref-in-loop-switch.result.now c.deref-in-loop-switch-2.result.now c.deref-in-loop-switch-3.result.now
    c.deref-in-loop-switch.ensures.value c.deref-in-loop-switch-2.ensures.value c.deref-in-loop-switch-3.ensures.value
    c.loop-switch.invariant.vars c.in_ok-kept.kept c.push.new.self.items c.in_ok-kept.ensures.calculus c.in_ok-kept.ensures.vars c.in_ok-push.ensures.items in
    record { built = next.built; vars = next.vars; many = search rules }

pub returns-clause-calculus : goal.returns-clause-calculus
returns-clause-calculus c =
    let p = c.args.plant.now in
    let a = plain_plant p in
    let region = c.args.region.now.pieces.items in
    let outside = c.args.away.now.pieces.items in
    let invs = c.in_ok-invs.invs.items in
    switched-end (back_by (length p.vars.items)) p c.deref-switch-items.result.now c.deref-switch-items.ensures.value invs region outside c.loop-switch.backs.items c.loop-switch.switch-index c.loop-switch.invariant.built
    (back a (plain_region region) (plain_region outside)) (back-each a (plain_region region) (plain_region invs) c.in_ok-invs.ensures.calculus (plain_region outside)) c.loop-switch-test.false

pub returns-clause-points : goal.returns-clause-points
returns-clause-points c =
    let p = c.args.plant.now in
    let a = plain_plant p in
    let n = length p.vars.items in
    let region = plain_region c.args.region.now.pieces.items in
    let outside = plain_region c.args.away.now.pieces.items in
    let xs = c.args.region.now.pieces.items in
    let os = c.args.away.now.pieces.items in
    let told : Vec PlainSystem → Type 0 = λ ps. ArePolys frac_arithmetic ps.items in
    let polys = subst (AllOf told) c.deref.ensures.value c.tell_lists.ensures in
    let away_polys = subst (AllOf told) c.deref-2.ensures.value c.tell_lists-2.ensures in
    let region_in : IsRegionInside a region = record { over = region_over n xs c.requires.region.has_lists.vars polys; inside = c.requires.region.inside } in
    let away_over = region_over n os c.requires.away.vars away_polys in
    subst (AreBacks a region) (sym (returns-clause-calculus c)) (back-states a p.proper region outside region_in away_over c.requires.outside)

pub returns-clause-lists : goal.returns-clause-lists
returns-clause-lists c = record { many = search rules; vars = c.loop-switch.invariant.vars }
