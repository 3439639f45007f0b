use Rattle.std.proofs.Common.{◌∙◌, sym, arith}
use Rattle.lhg_simplex.proofs.MixSteps.{strict-found, strict-passed}
use Rattle.lhg_simplex.proofs.mixing.mixes_strict.Goals as goal

pub returns-then-mixes : goal.returns-then-mixes
returns-then-mixes g c =
    strict-found g.N.Scalar.meaning c.args.ms.now c.args.rows.now c.loop-i.i c.index-ms-i.result c.index-rows-i.result c.index-ms-i.is c.index-rows-i.is (omega arith) c.loop-i-test.true
    (sym c.mixes.ensures ∙ c.if-mixes.true) ∙ c.loop-i.invariant

pub loop-i-preserved : goal.loop-i-preserved
loop-i-preserved g c =
    strict-passed g.N.Scalar.meaning c.args.ms.now c.args.rows.now c.loop-i.i c.index-ms-i.result c.index-rows-i.result c.index-ms-i.is c.index-rows-i.is (omega arith) c.loop-i-test.true
    (sym c.mixes.ensures ∙ c.if-mixes.false) ∙ c.loop-i.invariant
