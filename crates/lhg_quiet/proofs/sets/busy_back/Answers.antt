use Rattle.std.proofs.Common.{length, refl, rules, arith}
use Rattle.lhg_num.specs.MarkedLaws.{rest_self}
use Rattle.lhg_num.proofs.Halted.{part_halts}
use Rattle.lhg_plant.specs.Views.{plain_plant}
use Rattle.lhg_union.specs.PolyLists.{lines_of}
use Rattle.lhg_union.specs.Regions.{plain_region}
use Rattle.lhg_jump.proofs.RegionSteps.{switched-proper, switched-part, switched-step, switched-end}
use Rattle.lhg_quiet.specs.Masked.{busy_back_by, busy_back}
use Rattle.lhg_quiet.proofs.sets.busy_back.Goals as goal

pub busy_back_by-requires-clause-switch : goal.busy_back_by-requires-clause-switch
busy_back_by-requires-clause-switch c =
    switched-proper c.args.plant.now c.deref-switch-items.result.now c.deref-switch-items.ensures.value c.loop-switch.switch-index c.switch-item.result c.switch-item.is c.loop-switch-test.true

pub bounds-quiet-switch : goal.bounds-quiet-switch
bounds-quiet-switch c =
    let proper =
    switched-proper c.args.plant.now c.deref-switch-items.result.now c.deref-switch-items.ensures.value c.loop-switch.switch-index c.switch-item.result c.switch-item.is c.loop-switch-test.true in
    let from = proper.from in
    let many = c.requires.quiet in
    omega arith

pub returns-in_err-kept-clause-calculus : goal.returns-in_err-kept-clause-calculus
returns-in_err-kept-clause-calculus c =
    let p = c.args.plant.now in
    let whole = busy_back (plain_plant p) c.args.quiet.now (plain_region c.args.invs.now) (plain_region c.args.region.now) (plain_region c.args.away.now) in
    part_halts c.from_residual-in_err-kept.result c.in_err-kept.field-0.0 _ (λ v. plain_region v.items) _ (λ v. lines_of v.items) c.from_residual-in_err-kept.ensures.1 c.in_err-kept.ensures.calculus
    (switched-part (busy_back_by (length p.vars.items) c.args.quiet.now) p c.deref-switch-items.result.now c.deref-switch-items.ensures.value c.args.invs.now c.args.region.now c.args.away.now
    c.loop-switch.backs.items c.loop-switch.switch-index c.loop-switch.invariant.built c.switch-item.result c.switch-item.is c.loop-switch-test.true c.args.invs.now c.args.region.now c.args.away.now refl refl refl
    whole (rest_self whole))

pub loop-switch-preserved : goal.loop-switch-preserved
loop-switch-preserved c =
    let p = c.args.plant.now in
    let next =
    switched-step (busy_back_by (length p.vars.items) c.args.quiet.now) p c.deref-switch-items.result.now c.deref-switch-items.ensures.value c.args.invs.now c.args.region.now c.args.away.now
    c.loop-switch.backs.items c.loop-switch.switch-index c.loop-switch.invariant.built c.switch-item.result c.switch-item.is c.loop-switch-test.true c.args.invs.now c.args.region.now c.args.away.now refl refl refl
    c.loop-switch.invariant.vars c.in_ok-kept.kept c.push.new.self.items c.in_ok-kept.ensures.calculus c.in_ok-kept.ensures.vars c.in_ok-push.ensures.items in
    record { built = next.built; vars = next.vars; many = search rules }

pub returns-clause-calculus : goal.returns-clause-calculus
returns-clause-calculus c =
    let p = c.args.plant.now in
    let whole = busy_back (plain_plant p) c.args.quiet.now (plain_region c.args.invs.now) (plain_region c.args.region.now) (plain_region c.args.away.now) in
    switched-end (busy_back_by (length p.vars.items) c.args.quiet.now) p c.deref-switch-items.result.now c.deref-switch-items.ensures.value c.args.invs.now c.args.region.now c.args.away.now
    c.loop-switch.backs.items c.loop-switch.switch-index c.loop-switch.invariant.built whole (rest_self whole) c.loop-switch-test.false

pub returns-clause-lists : goal.returns-clause-lists
returns-clause-lists c = record { many = search rules; vars = c.loop-switch.invariant.vars }
