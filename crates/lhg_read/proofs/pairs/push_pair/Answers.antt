use Rattle.std.proofs.Common.{sym, ◌∙◌}
use Rattle.lhg_read.proofs.PairSteps.{pair_without, left_refused, right_refused, no_variable_here, appended}
use Rattle.lhg_read.proofs.pairs.push_pair.Goals as goal

pub returns-in_default : goal.returns-in_default
returns-in_default c = pair_without c.args.form c.args.vars.now _ _ _ (sym c.in_default.ensures)

pub returns-then-not-put_terms : goal.returns-then-not-put_terms
returns-then-not-put_terms c = left_refused c.args.form c.args.vars.now _ _ _ c.in-Some.op c.in-Some.ensures _ c.width.result c.in_ok-sum.ensures c.width.ensures c.if-not-put_terms.ensures.put

pub returns-then-not-put_terms-2 : goal.returns-then-not-put_terms-2
returns-then-not-put_terms-2 c =
    right_refused c.args.form c.args.vars.now _ _ _ c.in-Some.op c.in-Some.ensures _ c.width.result c.in_ok-sum.ensures c.width.ensures _ c.if-not-put_terms.ensures.put c.if-not-put_terms-2.ensures.put

pub returns-then-not-has_variable : goal.returns-then-not-has_variable
returns-then-not-has_variable c =
    no_variable_here c.args.form c.args.vars.now _ _ _ c.in-Some.op c.in-Some.ensures _ c.width.result c.in_ok-sum.ensures c.width.ensures _ c.if-not-put_terms.ensures.put _ c.if-not-put_terms-2.ensures.put
    (sym c.has_variable.ensures ∙ c.if-not-has_variable.true)

pub returns : goal.returns
returns c =
    appended c.args.form c.args.vars.now _ _ _ c.in-Some.op c.in-Some.ensures _ c.width.result c.in_ok-sum.ensures c.width.ensures _ c.if-not-put_terms.ensures.put _ c.if-not-put_terms-2.ensures.put _ _
    (sym c.has_variable.ensures ∙ c.if-not-has_variable.false) c.in_ok-push_by.ensures
