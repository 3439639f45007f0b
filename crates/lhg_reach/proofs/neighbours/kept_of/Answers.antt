use Rattle.std.proofs.Common.{◌≡◌, sym, subst}
use Rattle.lhg_row.specs.System.{PlainSystem}
use Rattle.lhg_union.specs.PolyLists.{AllVars}
use Rattle.lhg_union.proofs.ListFacts.{all_at}
use Rattle.lhg_reach.specs.Neighbours.{AreEntries, EachWith, IsEdge, IsTold}
use Rattle.lhg_reach.proofs.Pairs.{with_take, with_taken, told-entries, edges_over}
use Rattle.lhg_reach.proofs.neighbours.kept_of.Goals as goal

pub entries-requires : goal.entries-requires
entries-requires g c =
    let v = c.requires.vars in
    let width : c.from-item.result.width ≡ v.vars = all_at (λ (p : PlainSystem). p.width ≡ v.vars) c.args.near.now c.loop-from.from-index c.from-item.result c.from-item.is c.loop-from-test.true v.first in
    edges_over g.N.Scalar.arithmetic c.from-item.result.width c.args.ways.now c.deref.result.now (subst (λ n. AllVars n c.args.ways.now) (sym width) v.second)
    (subst (λ es. EachWith (IsEdge g.N.Scalar.arithmetic) c.args.ways.now es) (sym c.deref.ensures.value) c.in_ok-edges.ensures.edges)

pub loop-from-preserved : goal.loop-from-preserved
loop-from-preserved g c =
    let a = g.N.Scalar.arithmetic in
    let v = c.requires.vars in
    let from = c.from-item.result in
    let width : from.width ≡ v.vars = all_at (λ (p : PlainSystem). p.width ≡ v.vars) c.args.near.now c.loop-from.from-index from c.from-item.is c.loop-from-test.true v.first in
    with_take (AreEntries a c.args.ways.now) c.args.near.now c.loop-from.from-index from c.from-item.is c.loop-from-test.true c.loop-from.table.items c.push.new.self.items c.in_ok-row.row c.loop-from.invariant c.in_ok-push.ensures.items
    (told-entries a from g.met.N.Scalar.lawful c.entries.ensures.wide c.args.ways.now c.in_ok-edges.edges.items c.in_ok-row.row.items (subst (λ n. AllVars n c.args.ways.now) (sym width) v.second) c.requires.ways c.in_ok-edges.ensures.edges
    (subst (λ es. EachWith (IsTold a from.width from.lines) es c.in_ok-row.row.items) c.deref.ensures.value c.in_ok-row.ensures.told))

pub returns-clause-kept : goal.returns-clause-kept
returns-clause-kept g c = record {
  pieces = c.requires.ways;
  closures = c.in_ok-edges.ensures.edges;
  entries = with_taken (AreEntries g.N.Scalar.arithmetic c.args.ways.now) c.args.near.now c.loop-from.from-index c.loop-from-test.false c.loop-from.table.items c.loop-from.invariant;
}
