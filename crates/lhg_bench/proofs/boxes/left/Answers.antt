use Rattle.std.proofs.Common.{sym, subst}
use Rattle.lhg_union.specs.PolyLists.{AllVars}
use Rattle.lhg_bench.proofs.boxes.left.Goals as goal

pub minus-requires : goal.minus-requires
minus-requires c = record {
  vars = c.args.vars;
  first = subst (AllVars c.args.vars) (sym c.deref.ensures.value) c.in_ok-push_box.ensures;
  second = subst (AllVars c.args.vars) (sym c.deref-2.ensures.value) c.in_ok-boxes.ensures;
}
