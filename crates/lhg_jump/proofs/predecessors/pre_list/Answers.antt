use Rattle.lhg_union.specs.PolyLists.{lines_of}
use Rattle.lhg_union.proofs.Halts.{all_on_rows, all_on_pieces}
use Rattle.lhg_jump.proofs.PreSteps.{list-part, limit-part, list-end}
use Rattle.lhg_jump.proofs.predecessors.pre_list.Goals as goal

pub returns-in_err-found-clause-calculus : goal.returns-in_err-found-clause-calculus
returns-in_err-found-clause-calculus c =
    all_on_rows c.from_residual.result c.in_err-found.field-0.0 _ (λ v. lines_of v.items) _ (λ v. lines_of v.items) c.from_residual.ensures.1 c.in_err-found.ensures.calculus
    (list-part c.args.vars (lines_of c.args.invs.now) c.args.jump.now c.args.target.now c.loop-q.out.items c.loop-q.q-index c.q-item.result c.q-item.is c.loop-q-test.true c.loop-q.invariant.built)

pub returns-in_err-gather-clause-calculus : goal.returns-in_err-gather-clause-calculus
returns-in_err-gather-clause-calculus c =
    all_on_pieces c.from_residual-in_err-gather.result c.in_err-gather.field-0.0 _ (λ v. lines_of v.items) _ _ c.from_residual-in_err-gather.ensures.1 c.in_err-gather.ensures.limit
    (limit-part c.args.vars (lines_of c.args.invs.now) c.args.jump.now c.args.target.now c.loop-q.out.items c.loop-q.q-index c.q-item.result c.q-item.is c.loop-q-test.true c.loop-q.invariant.built c.in_ok-found.found.items c.in_ok-found.ensures.calculus)

pub returns-clause-calculus : goal.returns-clause-calculus
returns-clause-calculus c = list-end c.args.vars (lines_of c.args.invs.now) c.args.jump.now c.args.target.now c.loop-q.out.items c.loop-q.q-index c.loop-q-test.false c.loop-q.invariant.built
