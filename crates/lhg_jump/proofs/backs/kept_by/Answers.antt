use Rattle.std.proofs.Common.{sym, subst}
use Rattle.lhg_union.specs.PolyLists.{AllVars}
use Rattle.lhg_jump.proofs.backs.kept_by.Goals as goal

pub minus-requires : goal.minus-requires
minus-requires c = record {
  vars = c.args.vars;
  first = subst (AllVars c.args.vars) (sym c.deref-3.ensures.value) c.in_ok-all.ensures.vars;
  second = subst (AllVars c.args.vars) (sym c.deref-4.ensures.value) c.in_ok-lost.ensures.vars;
}
