use Rattle.std.proofs.Common.{sym, subst}
use Rattle.lhg_row.specs.Width.{AllWide}
use Rattle.lhg_union.specs.PolyLists.{AllVars}
use Rattle.lhg_bench.proofs.lattice.Lattice.found.Goals as goal

pub reach-requires : goal.reach-requires
reach-requires c =
    let n = c.args.self.now.vars in
    record {
      vars = n;
      over = record {
        first = subst (AllVars n) (sym c.deref.ensures.value) c.in_ok-bad.ensures;
        second = subst (AllVars n) (sym c.deref-2.ensures.value) c.in_ok-near.ensures;
        rows = subst (AllWide n) (sym c.deref-3.ensures.value) c.in_ok-flow.ensures;
      };
    }

pub returns : goal.returns
returns c =
    let n = c.args.self.now.vars in
    c.in_ok-reached.ensures.vars n (record {
      first = subst (AllVars n) (sym c.deref.ensures.value) c.in_ok-bad.ensures;
      second = subst (AllVars n) (sym c.deref-2.ensures.value) c.in_ok-near.ensures;
      rows = subst (AllWide n) (sym c.deref-3.ensures.value) c.in_ok-flow.ensures;
    })
