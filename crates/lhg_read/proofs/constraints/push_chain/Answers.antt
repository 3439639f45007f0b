use Rattle.std.proofs.lemmas.Result.{err_from_is_err_and}
use Rattle.lhg_read.proofs.ChainSteps.{one_sum, no_pair, two_sums, four_sums, no_last, both_pairs}
use Rattle.lhg_read.proofs.RefusalSteps.{refused_whole, appended_last}
use Rattle.lhg_read.proofs.constraints.push_chain.Goals as goal

pub returns-then-first-tokens : goal.returns-then-first-tokens
returns-then-first-tokens c =
    one_sum c.args.form c.args.vars.now c.args.lines.now.bytes c.args.tokens.now c.before_operator-first.result c.before_operator-first.ensures.place c.if-first-tokens.true

pub returns-in_err-push_pair : goal.returns-in_err-push_pair
returns-in_err-push_pair c =
    let p = err_from_is_err_and c.from_residual.result c.from_residual.ensures.1 in
    rw (p.1, p.2)
    (refused_whole c.in_err-push_pair.field-0.0 _ _
    (no_pair c.args.form c.args.vars.now c.args.lines.now.bytes c.args.tokens.now c.before_operator-first.result c.before_operator-first.ensures.place
    c.if-first-tokens.false c.index-tokens-first.result c.index-tokens-first.is c.before_operator.result c.before_operator.ensures.place)
    c.in_err-push_pair.ensures)

pub returns-then-second-tokens : goal.returns-then-second-tokens
returns-then-second-tokens c =
    two_sums c.args.form c.args.vars.now c.args.lines.now.bytes c.args.tokens.now c.before_operator-first.result c.before_operator-first.ensures.place
    c.if-first-tokens.false c.index-tokens-first.result c.index-tokens-first.is c.before_operator.result c.before_operator.ensures.place
    c.if-second-tokens.true _ _ c.in_ok-push_pair.ensures

pub returns-then-last-before_operator : goal.returns-then-last-before_operator
returns-then-last-before_operator c =
    four_sums c.args.form c.args.vars.now c.args.lines.now.bytes c.args.tokens.now c.before_operator-first.result c.before_operator-first.ensures.place
    c.if-first-tokens.false c.index-tokens-first.result c.index-tokens-first.is c.before_operator.result c.before_operator.ensures.place
    c.if-second-tokens.false c.before_operator-2.result c.before_operator-2.ensures.place c.if-last-before_operator.true

pub returns : goal.returns
returns c =
    appended_last c.push_pair-2.result _ _ _ _ _
    (no_last c.args.form c.args.vars.now c.args.lines.now.bytes c.args.tokens.now c.before_operator-first.result c.before_operator-first.ensures.place
    c.if-first-tokens.false c.index-tokens-first.result c.index-tokens-first.is c.before_operator.result c.before_operator.ensures.place
    c.if-second-tokens.false c.before_operator-2.result c.before_operator-2.ensures.place c.index-tokens-second.result c.index-tokens-second.is c.if-last-before_operator.false)
    (both_pairs c.args.form c.args.vars.now c.args.lines.now.bytes c.args.tokens.now c.before_operator-first.result c.before_operator-first.ensures.place
    c.if-first-tokens.false c.index-tokens-first.result c.index-tokens-first.is c.before_operator.result c.before_operator.ensures.place
    c.if-second-tokens.false c.before_operator-2.result c.before_operator-2.ensures.place c.index-tokens-second.result c.index-tokens-second.is c.if-last-before_operator.false
    _ _ _ c.in_ok-push_pair.ensures)
    c.push_pair-2.ensures
