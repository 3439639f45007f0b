use Rattle.lhg_num.proofs.Halted.{part_halts_rows}
use Rattle.lhg_union.specs.PolyLists.{lines_of}
use Rattle.lhg_lazy.proofs.RimSteps.{each-part, each-step, each-end}
use Rattle.lhg_lazy.proofs.rims.rim_from.Goals as goal

pub returns-in_err-push_crossing-clause-calculus : goal.returns-in_err-push_crossing-clause-calculus
returns-in_err-push_crossing-clause-calculus c =
    let s = c.args.from.now in
    part_halts_rows c.from_residual.result c.in_err-push_crossing.field-0.0 _ (λ v. lines_of v.items) _ (λ _. lines_of c.push_crossing.new.out.items) c.from_residual.ensures.1 c.in_err-push_crossing.ensures.list
    (each-part s.width c.args.flow.now s.lines c.args.outside.now c.loop-past.out.items c.loop-past.past-index c.past-item.result c.past-item.is c.loop-past-test.true c.loop-past.invariant.built)

pub loop-past-preserved : goal.loop-past-preserved
loop-past-preserved c =
    let s = c.args.from.now in
    record {
      built = each-step s.width c.args.flow.now s.lines c.args.outside.now c.loop-past.out.items c.loop-past.past-index c.past-item.result c.past-item.is c.loop-past-test.true c.loop-past.invariant.built
          c.push_crossing.new.out.items c.in_ok-push_crossing.ensures.list;
      vars = c.in_ok-push_crossing.ensures.vars;
    }

pub returns-clause-calculus : goal.returns-clause-calculus
returns-clause-calculus c =
    let s = c.args.from.now in
    each-end s.width c.args.flow.now s.lines c.args.outside.now c.loop-past.out.items c.loop-past.past-index c.loop-past-test.false c.loop-past.invariant.built
