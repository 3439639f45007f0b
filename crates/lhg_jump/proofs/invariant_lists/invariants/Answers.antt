use Rattle.std.proofs.Common.{◌≡◌, length, rules}
use Rattle.lhg_num.proofs.Halted.{part_halts_rows}
use Rattle.lhg_plant.specs.Invariants.{invariant_list, invariants}
use Rattle.lhg_plant.specs.Views.{plain_plant}
use Rattle.lhg_union.specs.PolyLists.{lines_of}
use Rattle.lhg_union.specs.Regions.{plain_region}
use Rattle.lhg_jump.proofs.RegionSteps.{invariants-each, placed-proper, placed-part, placed-step, placed-end}
use Rattle.lhg_jump.proofs.invariant_lists.invariants.Goals as goal

pub invariant_list-requires : goal.invariant_list-requires
invariant_list-requires c =
    let p = c.args.plant.now in
    let many : c.len-in-loop-location.result ≡ length p.vars.items = search rules in
    (placed-proper p c.deref-location-items.result.now c.deref-location-items.ensures.value c.loop-location.location-index c.len-in-loop-location.result many c.location-item.result c.location-item.is c.loop-location-test.true).inv.wide

pub returns-in_err-inv-clause-calculus : goal.returns-in_err-inv-clause-calculus
returns-in_err-inv-clause-calculus c =
    let p = c.args.plant.now in
    let a = plain_plant p in
    let many : c.len-in-loop-location.result ≡ length p.vars.items = search rules in
    part_halts_rows c.from_residual-in_err-inv.result c.in_err-inv.field-0.0 _ (λ r. plain_region r.items) _ (λ v. lines_of v.items) c.from_residual-in_err-inv.ensures.1 c.in_err-inv.ensures.calculus
    (placed-part invariant_list p c.deref-location-items.result.now c.deref-location-items.ensures.value (invariants a) (invariants-each a) c.loop-location.pieces.items c.loop-location.location-index c.loop-location.invariant.built
    c.len-in-loop-location.result many c.location-item.result c.location-item.is c.loop-location-test.true)

pub loop-location-preserved : goal.loop-location-preserved
loop-location-preserved c =
    let p = c.args.plant.now in
    let a = plain_plant p in
    let many : c.len-in-loop-location.result ≡ length p.vars.items = search rules in
    let next =
    placed-step invariant_list p c.deref-location-items.result.now c.deref-location-items.ensures.value (invariants a) (invariants-each a) c.loop-location.pieces.items c.loop-location.location-index c.loop-location.invariant.built
    c.len-in-loop-location.result many c.location-item.result c.location-item.is c.loop-location-test.true
    c.loop-location.invariant.vars c.in_ok-inv.inv c.push.new.self.items c.in_ok-inv.ensures.calculus c.in_ok-inv.ensures.vars c.in_ok-push.ensures.items in
    record { built = next.built; vars = next.vars; many = search rules }

pub returns-clause-calculus : goal.returns-clause-calculus
returns-clause-calculus c =
    let p = c.args.plant.now in
    let a = plain_plant p in
    placed-end invariant_list p c.deref-location-items.result.now c.deref-location-items.ensures.value (invariants a) (invariants-each a) c.loop-location.pieces.items c.loop-location.location-index c.loop-location.invariant.built
    c.loop-location-test.false

pub returns-clause-lists : goal.returns-clause-lists
returns-clause-lists c = record { many = search rules; vars = c.loop-location.invariant.vars }
