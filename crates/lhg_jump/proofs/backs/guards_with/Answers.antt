use Rattle.std.proofs.Common.{length, refl, sym, ap, ◌∙◌, subst, rules}
use Rattle.std.specs.Global.{Vec}
use Rattle.lhg_math.specs.Tests.{AllOf}
use Rattle.lhg_num.specs.FracArithmetic.{frac_arithmetic}
use Rattle.lhg_num.specs.MarkedLaws.{IsPart}
use Rattle.lhg_num.proofs.Halted.{part_halts}
use Rattle.lhg_row.specs.System.{PlainSystem}
use Rattle.lhg_plant.specs.Region.{PlainGuards}
use Rattle.lhg_plant.specs.Invariants.{invariants}
use Rattle.lhg_plant.specs.OutCalculus.{away}
use Rattle.lhg_plant.specs.BackCalculus.{guard_by, guards}
use Rattle.lhg_plant.specs.Laws.{HasExactGuards}
use Rattle.lhg_plant.specs.Inside.{IsRegionInside}
use Rattle.lhg_plant.specs.Views.{plain_plant}
use Rattle.lhg_plant.proofs.KeepStates.{guards-states}
use Rattle.lhg_union.specs.PolyLists.{lines_of, ArePolys}
use Rattle.lhg_union.specs.Regions.{plain_region}
use Rattle.lhg_union.proofs.Halts.{all_on_rows}
use Rattle.lhg_jump.proofs.Answering.{region_over}
use Rattle.lhg_jump.proofs.CallCode.{guards-first, guards-away, guards-each}
use Rattle.lhg_jump.proofs.RegionSteps.{switched-proper, switched-part, switched-step, switched-end}
use Rattle.lhg_jump.proofs.backs.guards_with.Goals as goal

pub guard_by-requires-clause-switch : goal.guard_by-requires-clause-switch
guard_by-requires-clause-switch c =
    switched-proper c.args.plant.now c.deref-switch-items.result.now c.deref-switch-items.ensures.value c.loop-switch.switch-index c.switch-item.result c.switch-item.is c.loop-switch-test.true

pub returns-in_err-guard-clause-calculus : goal.returns-in_err-guard-clause-calculus
returns-in_err-guard-clause-calculus c =
    let p = c.args.plant.now in
    let a = plain_plant p in
    let region = c.args.region.now.pieces.items in
    let outside = c.args.away.now in
    let invs = c.args.invs.now in
    let outside_is = c.requires.away.same ∙ ap (λ is. (away (length p.vars.items) is (plain_region region)).value) (sym c.requires.invs.same) in
    part_halts c.from_residual-in_err-guard.result c.in_err-guard.field-0.0 _ (λ v. plain_region v.items) _ (λ v. lines_of v.items) c.from_residual-in_err-guard.ensures.1 c.in_err-guard.ensures.calculus
    (switched-part (guard_by (length p.vars.items)) p c.deref-switch-items.result.now c.deref-switch-items.ensures.value invs region outside c.loop-switch.guards.items c.loop-switch.switch-index c.loop-switch.invariant.built
    c.switch-item.result c.switch-item.is c.loop-switch-test.true c.args.invs.now c.deref-in-loop-switch.result.now c.args.away.now
    refl c.deref-in-loop-switch.ensures.value refl
    (guards a (plain_region region)) (guards-each a (plain_region region) (plain_region invs) c.requires.invs.same (plain_region outside) outside_is))

pub loop-switch-preserved : goal.loop-switch-preserved
loop-switch-preserved c =
    let p = c.args.plant.now in
    let next =
    switched-step (guard_by (length p.vars.items)) p c.deref-switch-items.result.now c.deref-switch-items.ensures.value c.args.invs.now c.args.region.now.pieces.items c.args.away.now
    c.loop-switch.guards.items c.loop-switch.switch-index c.loop-switch.invariant.built
    c.switch-item.result c.switch-item.is c.loop-switch-test.true c.args.invs.now c.deref-in-loop-switch.result.now c.args.away.now
    refl c.deref-in-loop-switch.ensures.value refl
    c.loop-switch.invariant.vars c.in_ok-guard.guard c.push.new.self.items c.in_ok-guard.ensures.calculus c.in_ok-guard.ensures.vars c.in_ok-push.ensures.items in
    record { built = next.built; vars = next.vars; many = search rules }

pub returns-clause-calculus : goal.returns-clause-calculus
returns-clause-calculus c =
    let p = c.args.plant.now in
    let a = plain_plant p in
    let region = c.args.region.now.pieces.items in
    let outside = c.args.away.now in
    let invs = c.args.invs.now in
    let outside_is = c.requires.away.same ∙ ap (λ is. (away (length p.vars.items) is (plain_region region)).value) (sym c.requires.invs.same) in
    switched-end (guard_by (length p.vars.items)) p c.deref-switch-items.result.now c.deref-switch-items.ensures.value invs region outside c.loop-switch.guards.items c.loop-switch.switch-index c.loop-switch.invariant.built
    (guards a (plain_region region)) (guards-each a (plain_region region) (plain_region invs) c.requires.invs.same (plain_region outside) outside_is) c.loop-switch-test.false

pub returns-clause-points : goal.returns-clause-points
returns-clause-points c =
    let p = c.args.plant.now in
    let a = plain_plant p in
    let n = length p.vars.items in
    let region = plain_region c.args.region.now.pieces.items in
    let xs = c.args.region.now.pieces.items in
    let told : Vec PlainSystem → Type 0 = λ ps. ArePolys frac_arithmetic ps.items in
    let polys = subst (AllOf told) c.deref.ensures.value c.tell_lists.ensures in
    let region_in : IsRegionInside a region = record { over = region_over n xs c.requires.region.has_lists.vars polys; inside = c.requires.region.inside } in
    let P : PlainGuards → Type 0 = λ g. HasExactGuards a (record { region = region; guards = g }) in
    subst P (sym (returns-clause-calculus c)) (guards-states a p.proper region region_in)

pub returns-clause-lists : goal.returns-clause-lists
returns-clause-lists c = record { many = search rules; vars = c.loop-switch.invariant.vars }
