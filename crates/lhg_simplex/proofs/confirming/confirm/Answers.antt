use Rattle.lhg_simplex.proofs.VerdictLaws.{confirm-exact, confirm-says}
use Rattle.lhg_simplex.proofs.confirming.confirm.Goals as goal

pub returns-clause-exact : goal.returns-clause-exact
returns-clause-exact c = confirm-exact c.args.sys.now.width c.vars.result c.args.sys.now.lines c.rows.result.now c.args.guess.now c.vars.ensures c.rows.ensures.rows c.confirm_rows.result c.confirm_rows.ensures

pub returns-clause-points : goal.returns-clause-points
returns-clause-points c =
    confirm-says c.args.sys.now.width c.vars.result c.args.sys.now.lines c.rows.result.now c.args.guess.now c.vars.ensures c.rows.ensures.rows c.rows.ensures.trimmed.wide c.confirm_rows.result c.confirm_rows.ensures
