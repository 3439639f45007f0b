use Rattle.std.proofs.Common.{arith, map}
use Rattle.lhg_num.proofs.Halted.{wide_halts}
use Rattle.lhg_elim.proofs.EntrySteps.{entries-step, entries-part}
use Rattle.lhg_elim.proofs.combining.entries.Goals as goal

pub returns-in_err-sum : goal.returns-in_err-sum
returns-in_err-sum g c =
    let m = g.N.Scalar.meaning in
    wide_halts c.from_residual-in_err-sum.result _ (λ v. map m v.items) c.from_residual-in_err-sum.ensures.1
    ((entries-part m g.N.Scalar.arithmetic (m c.args.f.now) (m c.args.g.now) c.args.cs.now c.args.ds.now c.loop-i.i c.index-cs-i.result c.index-ds-i.result c.index-cs-i.is c.index-ds-i.is c.loop-i-test.true (omega arith)
    _ c.loop-i.out.items c.loop-i.invariant).wide c.in_err-sum.ensures)

pub loop-i-preserved : goal.loop-i-preserved
loop-i-preserved g c =
    let m = g.N.Scalar.meaning in
    entries-step m g.N.Scalar.arithmetic (m c.args.f.now) (m c.args.g.now) c.args.cs.now c.args.ds.now c.loop-i.i c.index-cs-i.result c.index-ds-i.result c.index-cs-i.is c.index-ds-i.is c.loop-i-test.true (omega arith)
    _ c.loop-i.out.items c.loop-i.invariant c.push.new.self.items c.in_ok-sum.sum c.in_ok-push.ensures.items c.in_ok-sum.ensures
