use Rattle.lhg_row.specs.PieceFacts.{IsPoly}
use Rattle.lhg_union.proofs.ListFacts.{all_take, taken-step}
use Rattle.lhg_union.proofs.differences.copies.Goals as goal

pub loop-p-preserved : goal.loop-p-preserved
loop-p-preserved g c = record {
  copied = taken-step c.args.ps.now c.loop-p.p-index c.p-item.result c.p-item.is c.loop-p-test.true c.loop-p.out.items c.push.new.self.items c.in_ok-copy.copy c.loop-p.invariant.copied c.in_ok-push.ensures.items c.in_ok-copy.ensures.copy;
  polys = all_take (λ p. IsPoly g.N.Scalar.arithmetic p.width p.lines) c.args.ps.now c.loop-p.p-index c.p-item.result c.p-item.is c.loop-p-test.true c.loop-p.invariant.polys c.in_ok-copy.ensures.poly;
}
