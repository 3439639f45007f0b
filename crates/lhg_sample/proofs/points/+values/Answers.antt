use Rattle.std.proofs.Common.{◌≡◌, suc, ◌-◌, true, sym, ap, ◌∙◌, arith}
use Rattle.lhg_num.proofs.Halted.{part_halts_rows, rows_from_wide, wide_halts}
use Rattle.lhg_row.specs.Sample.{value_of}
use Rattle.lhg_sample.proofs.PointSteps.{before-part, value-of_part}
use Rattle.lhg_sample.proofs.points.+values.Goals as goal

pub returns-in_err-at-clause-calculus : goal.returns-in_err-at-clause-calculus
returns-in_err-at-clause-calculus t c =
    let s = c.args.sys.now in
    let last = c.vars-last.result - 1 in
    let n_is : s.width ≡ suc last = omega arith in
    let less_is : c.in_ok-less.less.width ≡ last = omega (arith, c.in_ok-less.ensures.width) in
    part_halts_rows c.from_residual-in_err-at.result c.in_err-at.field-0.0 _ (λ v. v.items) _ (λ v. v.items) c.from_residual-in_err-at.ensures.1 c.in_err-at.ensures.calculus
    (before-part s.width last s.lines n_is c.in_ok-less.less.width c.in_ok-less.less.lines less_is c.in_ok-less.ensures.list)

pub returns-in_err-next-clause-calculus : goal.returns-in_err-next-clause-calculus
returns-in_err-next-clause-calculus t c =
    let s = c.args.sys.now in
    let last = c.vars-last.result - 1 in
    let n_is : s.width ≡ suc last = omega arith in
    let less_is : c.in_ok-less.less.width ≡ last = omega (arith, c.in_ok-less.ensures.width) in
    let at = c.in_ok-at.at.items in
    let wide : (value_of last at s.lines).wide ≡ true =
    sym (ap (λ rs. (value_of last at rs).wide) c.rows-rows.ensures.rows) ∙ sym (ap (λ p. (value_of last p c.rows-rows.result.now).wide) c.deref.ensures.value) ∙ c.in_err-next.ensures in
    let part = value-of_part s.width last s.lines n_is c.in_ok-less.less.width c.in_ok-less.less.lines at less_is c.in_ok-less.ensures.list c.in_ok-at.ensures.calculus in
    rows_from_wide c.from_residual-in_err-next.result _ (λ v. v.items) (wide_halts c.from_residual-in_err-next.result _ (λ v. v.items) c.from_residual-in_err-next.ensures.1 (part.wide wide))
