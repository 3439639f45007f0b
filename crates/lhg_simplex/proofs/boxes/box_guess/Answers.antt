use Rattle.std.proofs.Common.{◌∙◌, sym, Some, None, arith}
use Rattle.lhg_simplex.specs.BoundView.{plain_bounds}
use Rattle.lhg_simplex.proofs.BoxSteps.{value-is, values-push, refuted-promise, point-promise, wide-promise}
use Rattle.lhg_simplex.specs.declared.guesses.Guess.TheVariants.{Undecided}
use Rattle.lhg_simplex.proofs.boxes.box_guess.Goals as goal

pub returns-in-Ok-None-clause-promise : goal.returns-in-Ok-None-clause-promise
returns-in-Ok-None-clause-promise c =
    let k = c.loop-k.k in
    let rows = c.args.rows.now in
    let value = value-is k rows (plain_bounds c.lower_of.result) (plain_bounds c.upper_of.result) None c.lower_of.ensures c.upper_of.ensures (sym c.in-Ok-None.field-0-is ∙ c.in-Ok-None.ensures) in
    refuted-promise c.args.vars k rows c.in_ok-picked-in-Ok-None.field-0 c.requires c.in_ok-picked-in-Ok-None.ensures value

pub loop-k-preserved : goal.loop-k-preserved
loop-k-preserved c =
    let k = c.loop-k.k in
    let rows = c.args.rows.now in
    let value = value-is k rows (plain_bounds c.lower_of.result) (plain_bounds c.upper_of.result) (Some c.in-Ok-Some.x) c.lower_of.ensures c.upper_of.ensures (sym c.in-Ok-Some.field-0-is ∙ c.in-Ok-Some.ensures) in
    values-push k rows c.loop-k.at.items c.push.new.self.items c.in-Ok-Some.x c.loop-k.invariant value c.in_ok-push-in-Ok-Some.ensures.items

pub returns-clause-promise : goal.returns-clause-promise
returns-clause-promise c =
    point-promise c.args.vars c.loop-k.k c.args.rows.now c.loop-k.at.items c.requires (omega arith) c.loop-k.invariant

pub returns-in-Err-clause-promise : goal.returns-in-Err-clause-promise
returns-in-Err-clause-promise c =
    wide-promise c.args.vars c.loop-k.k c.args.rows.now Undecided (plain_bounds c.lower_of.result) (plain_bounds c.upper_of.result) c.requires c.loop-k-test.true c.lower_of.ensures c.upper_of.ensures c.in-Err.ensures
