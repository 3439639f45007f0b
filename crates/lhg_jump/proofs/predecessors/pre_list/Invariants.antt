use Rattle.lhg_union.specs.PolyLists.{lines_of, AllVars}
use Rattle.lhg_jump.proofs.PreSteps.{IsListed}
use Rattle.lhg_jump.proofs.predecessors.pre_list.Given as goal

abbrev pub invariant-loop-q : goal.invariant-loop-q
invariant-loop-q l = record {
  built : IsListed l.vars (lines_of l.invs) l.jump l.target l.out.items l.q-index;
  vars : AllVars l.vars l.out.items;
}
