use Rattle.std.proofs.Common.{rules, arith}
use Rattle.lhg_cli.proofs.WordSteps.{read_same, read_some}
use Rattle.lhg_cli.proofs.words.number_up_to.Goals as goal
use Rattle.lhg_cli.proofs.words.number_up_to.Goals.{then-n-eq0-via-then-n-eq0, then-n-eq0-via-else-n-eq0+then-n-most, then-n-eq0-via-else-n-eq0+else-n-most+then-ne}

pub returns-in_default-clause-none : goal.returns-in_default-clause-none
returns-in_default-clause-none c = λ none n low high e. c.in_default.not-Ok n (read_some n c.args.word.now c.parse.result (let r = c.ranges.most.fits in omega (arith, high, r)) e c.parse.ensures.value.0)

pub returns-then-n-eq0-clause-none : goal.returns-then-n-eq0-clause-none
returns-then-n-eq0-clause-none c = λ none m low high e.
    let same = read_same m c.in-Ok.n c.args.word.now c.parse.result (let r = c.ranges.most.fits in omega (arith, high, r)) e c.parse.ensures.value.0 c.in-Ok.is in
    elim c.then-n-eq0.branch [
      | then-n-eq0-via-then-n-eq0 w ↦ let z = w.if-n-eq0.true in omega (arith, same, z, low)
      | then-n-eq0-via-else-n-eq0+then-n-most w ↦ let z = w.if-n-most.true in omega (arith, same, z, high)
      | then-n-eq0-via-else-n-eq0+else-n-most+then-ne w ↦
          let f = w.format.ensures in
          let g = w.ne.ensures in
          let t = w.if-ne.true in
          search (rules, same, e, f, g, t)
    ]
