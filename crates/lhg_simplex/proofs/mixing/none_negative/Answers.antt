use Rattle.std.proofs.Common.{◌≡◌, ◌∙◌, sym, ap, true, false}
use Rattle.std.specs.Ordering.{is_lt}
use Rattle.lhg_math.specs.Number.{lt, nought}
use Rattle.lhg_math.specs.SignLaws.{is_lt-sign_of}
use Rattle.lhg_simplex.proofs.MixSteps.{negative-found, negative-passed}
use Rattle.lhg_simplex.proofs.mixing.none_negative.Goals as goal

pub returns-then-is_lt : goal.returns-then-is_lt
returns-then-is_lt g c =
    let m = g.N.Scalar.meaning in
    let e : lt (m c.m-item.result) nought ≡ true = sym (is_lt-sign_of (m c.m-item.result)) ∙ sym (ap is_lt c.sign.ensures) ∙ sym c.is_lt.ensures ∙ c.if-is_lt.true in
    negative-found m c.args.ms.now c.loop-m.m-index c.m-item.result c.m-item.is c.loop-m-test.true e ∙ c.loop-m.invariant

pub loop-m-preserved : goal.loop-m-preserved
loop-m-preserved g c =
    let m = g.N.Scalar.meaning in
    let e : lt (m c.m-item.result) nought ≡ false = sym (is_lt-sign_of (m c.m-item.result)) ∙ sym (ap is_lt c.sign.ensures) ∙ sym c.is_lt.ensures ∙ c.if-is_lt.false in
    negative-passed m c.args.ms.now c.loop-m.m-index c.m-item.result c.m-item.is c.loop-m-test.true e ∙ c.loop-m.invariant
