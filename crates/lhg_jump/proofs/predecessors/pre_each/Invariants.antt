use Rattle.lhg_union.specs.PolyLists.{AllVars}
use Rattle.lhg_jump.proofs.PreSteps.{IsEach}
use Rattle.lhg_jump.proofs.predecessors.pre_each.Given as goal

abbrev pub invariant-loop-inv : goal.invariant-loop-inv
invariant-loop-inv l = record {
  built : IsEach l.vars l.jump l.q.lines l.invs l.out.items l.inv-index;
  vars : AllVars l.vars l.out.items;
}
