use Rattle.std.proofs.Common.{refl, ◌+◌, arith, sym, ◌∙◌, vec_len}
use Rattle.std.proofs.lemmas.Bool.{eqb-true, eqb-false}
use Rattle.std.proofs.lemmas.Result.{err_from_is_err_and}
use Rattle.lhg_lex.proofs.TextLines.{few_lines}
use Rattle.lhg_lex.proofs.ReadingSteps.{cut_short, cut_place, cut_tokens, cut_blank, cut_stop, end_lines}
use Rattle.lhg_lex.proofs.cursor.next_line.Goals as goal

pub overflow_add-number : goal.overflow_add-number
overflow_add-number c = omega (arith, few_lines c.args.bytes.now c.loop-place.place c.loop-place.number c.loop-place.invariant.at)

pub line_tokens-requires : goal.line_tokens-requires
line_tokens-requires c =
    let s = cut_short c.args.bytes.now c.loop-place.place c.first_line-line.result.now c.content.result.now (record { line_is = c.first_line-line.ensures; content_is = c.content.ensures }) c.loop-place-test.true in
    omega (arith, s)

pub returns-in_err-tokens-clause-stop : goal.returns-in_err-tokens-clause-stop
returns-in_err-tokens-clause-stop c =
    let p = err_from_is_err_and c.from_residual.result c.from_residual.ensures.1 in
    rw (p.1, p.2)
    (cut_stop c.args.bytes.now c.args.read c.loop-place.number c.loop-place.place c.first_line-line.result.now c.content.result.now c.in_err-tokens.field-0.0
    (record { line_is = c.first_line-line.ensures; content_is = c.content.ensures }) c.loop-place.invariant.passed c.loop-place.invariant.at c.loop-place-test.true c.in_err-tokens.ensures.err)

pub returns-then-not-is_empty-clause-at : goal.returns-then-not-is_empty-clause-at
returns-then-not-is_empty-clause-at c =
    cut_place c.args.bytes.now c.loop-place.number c.loop-place.place c.first_line-line.result.now c.content.result.now (record { line_is = c.first_line-line.ensures; content_is = c.content.ensures }) c.loop-place.invariant.at c.loop-place-test.true

pub returns-then-not-is_empty-clause-line : goal.returns-then-not-is_empty-clause-line
returns-then-not-is_empty-clause-line c =
    cut_tokens c.args.bytes.now c.args.read c.loop-place.number c.loop-place.place c.first_line-line.result.now c.content.result.now (record { number = c.loop-place.number + 1; tokens = c.in_ok-tokens.tokens }) refl
    (record { line_is = c.first_line-line.ensures; content_is = c.content.ensures }) c.loop-place.invariant.passed c.loop-place.invariant.at c.loop-place-test.true c.in_ok-tokens.ensures.ok
    (let e = eqb-false (vec_len c.in_ok-tokens.tokens) 0 (sym c.is_empty.ensures ∙ c.if-not-is_empty.true) in omega (arith, e, c.in_ok-tokens.tokens.ok))

pub loop-place-preserved : goal.loop-place-preserved
loop-place-preserved c = record {
  at = cut_place c.args.bytes.now c.loop-place.number c.loop-place.place c.first_line-line.result.now c.content.result.now (record { line_is = c.first_line-line.ensures; content_is = c.content.ensures }) c.loop-place.invariant.at c.loop-place-test.true;
  passed = cut_blank c.args.bytes.now c.args.read c.loop-place.number c.loop-place.place c.first_line-line.result.now c.content.result.now c.in_ok-tokens.tokens.items
      (record { line_is = c.first_line-line.ensures; content_is = c.content.ensures }) c.loop-place.invariant.passed c.loop-place.invariant.at c.loop-place-test.true c.in_ok-tokens.ensures.ok
      (let e = eqb-true (vec_len c.in_ok-tokens.tokens) 0 (sym c.is_empty.ensures ∙ c.if-not-is_empty.false) in omega (arith, e, c.in_ok-tokens.tokens.ok));
}

pub returns-clause-none : goal.returns-clause-none
returns-clause-none c = (end_lines c.args.bytes.now c.args.read c.loop-place.number c.loop-place.place c.loop-place.invariant.passed c.loop-place.invariant.at c.loop-place-test.false).0

pub returns-clause-all : goal.returns-clause-all
returns-clause-all c = (end_lines c.args.bytes.now c.args.read c.loop-place.number c.loop-place.place c.loop-place.invariant.passed c.loop-place.invariant.at c.loop-place-test.false).1
