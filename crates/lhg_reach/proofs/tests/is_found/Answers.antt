use Rattle.std.proofs.Common.{◌≡◌, sym, subst}
use Rattle.lhg_row.specs.Width.{AllWide}
use Rattle.lhg_union.specs.PolyLists.{AllVars}
use Rattle.lhg_reach.proofs.tests.is_found.Goals as goal

pub reach-requires : goal.reach-requires
reach-requires c = record {
  vars = c.args.vars;
  over = record {
    first = subst (AllVars c.args.vars) (sym c.deref.ensures.value) c.in_ok-bad.ensures;
    second = subst (AllVars c.args.vars) (sym c.deref-2.ensures.value) c.in_ok-near.ensures;
    rows = subst (AllWide c.args.vars) (sym c.deref-3.ensures.value) c.in_ok-flow.ensures;
  };
}
