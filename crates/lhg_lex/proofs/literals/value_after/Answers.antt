use Rattle.std.proofs.Common.{◌<◌, ◌-◌, ◌/◌, arith, subst, get_or}
use Rattle.lhg_lex.specs.Literal.{limit}
use Rattle.lhg_lex.proofs.Values.{long_from, after_more, digit_at}
use Rattle.lhg_lex.proofs.Bytes.{digit_from}
use Rattle.lhg_lex.proofs.literals.value_after.Goals as goal

pub returns-then-n-digit : goal.returns-then-n-digit
returns-then-n-digit c =
    long_from c.args.start c.args.run.now c.loop-b.b-index c.loop-b.n c.requires.digits c.loop-b-test.true c.loop-b.invariant.value
    (subst (λ d. (limit - (d - 48)) / 10 < c.loop-b.n) c.from-digit.ensures c.if-n-digit.true)

pub loop-b-preserved : goal.loop-b-preserved
loop-b-preserved c =
    let s = after_more c.args.start c.args.run.now c.loop-b.b-index c.requires.digits c.loop-b-test.true in
    let p = digit_from (get_or c.args.run.now c.loop-b.b-index 0) (digit_at c.args.run.now c.loop-b.b-index c.requires.digits c.loop-b-test.true) in
    record {
      value = omega (arith, s, c.loop-b.invariant.value, c.from-digit.ensures);
      within = omega (arith, p.0, p.1, c.from-digit.ensures, c.if-n-digit.false);
    }
