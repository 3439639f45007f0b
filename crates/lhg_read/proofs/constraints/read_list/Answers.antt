use Rattle.std.proofs.Common.{◌<◌, ◌≤◌, length, arith}
use Rattle.std.proofs.lemmas.Result.{err_from_is_err_and}
use Rattle.lhg_read.proofs.ListSteps.{no_constraint, too_many, last_constraint, goes_on}
use Rattle.lhg_read.proofs.RefusalSteps.{refused_whole}
use Rattle.lhg_read.proofs.constraints.read_list.Goals as goal

pub returns-in_err-push_constraint : goal.returns-in_err-push_constraint
returns-in_err-push_constraint c =
    let p = err_from_is_err_and c.from_residual.result c.from_residual.ensures.1 in
    rw (p.1, p.2)
    (refused_whole c.in_err-push_constraint.field-0.0 _ _
    (no_constraint c.args.form c.args.vars.now c.args.lines.now.bytes c.args.tokens.now c.loop-rows.at c.before_comma.result c.loop-rows.invariant.within c.before_comma.ensures.place
    _ c.loop-rows.rows.items c.loop-rows.invariant.left)
    c.in_err-push_constraint.ensures)

pub returns-then-len-gt-MOST_LINE_ROWS : goal.returns-then-len-gt-MOST_LINE_ROWS
returns-then-len-gt-MOST_LINE_ROWS c =
    let many : 64 < length c.push_constraint.new.rows.items = omega (arith, c.push_constraint.new.rows.ok.0) in
    too_many c.args.form c.args.vars.now c.args.lines.now.bytes c.args.tokens.now c.loop-rows.at c.before_comma.result c.loop-rows.invariant.within c.before_comma.ensures.place
    _ c.loop-rows.rows.items c.loop-rows.invariant.left c.push_constraint.new.rows.items c.in_ok-push_constraint.ensures many

pub returns-then-end-tokens : goal.returns-then-end-tokens
returns-then-end-tokens c =
    let few : length c.push_constraint.new.rows.items ≤ 64 = omega (arith, c.push_constraint.new.rows.ok.0) in
    last_constraint c.args.form c.args.vars.now c.args.lines.now.bytes c.args.tokens.now c.loop-rows.at c.before_comma.result c.loop-rows.invariant.within c.before_comma.ensures.place
    _ c.loop-rows.rows.items c.loop-rows.invariant.left c.push_constraint.new.rows.items c.in_ok-push_constraint.ensures few c.if-end-tokens.true

pub loop-rows-preserved : goal.loop-rows-preserved
loop-rows-preserved c = record {
  within = omega arith;
  few = omega (arith, c.push_constraint.new.rows.ok.0);
  left =
      goes_on c.args.form c.args.vars.now c.args.lines.now.bytes c.args.tokens.now c.loop-rows.at c.before_comma.result c.loop-rows.invariant.within c.before_comma.ensures.place
      _ c.loop-rows.rows.items c.loop-rows.invariant.left c.push_constraint.new.rows.items c.in_ok-push_constraint.ensures c.if-end-tokens.false;
}
