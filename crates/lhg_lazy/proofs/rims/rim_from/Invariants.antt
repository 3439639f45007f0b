use Rattle.lhg_union.specs.PolyLists.{AllVars}
use Rattle.lhg_lazy.proofs.RimSteps.{IsEach}
use Rattle.lhg_lazy.proofs.rims.rim_from.Given as goal

abbrev pub invariant-loop-past : goal.invariant-loop-past
invariant-loop-past l = record {
  built : IsEach l.from.width l.flow l.from.lines l.outside l.out.items l.past-index;
  vars : AllVars l.from.width l.out.items;
}
