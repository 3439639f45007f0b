use Rattle.std.proofs.Common.{sym, ◌∙◌}
use Rattle.lhg_poly.proofs.AskSteps.{none-known}
use Rattle.lhg_poly.proofs.asking.are_refuted.Goals as goal

pub returns-clause-points : goal.returns-clause-points
returns-clause-points g c = λ e. none-known c.args.vars c.args.rows.now c.in_ok-known.known c.in_ok-known.ensures.points (sym c.unwrap_or.ensures ∙ e)
