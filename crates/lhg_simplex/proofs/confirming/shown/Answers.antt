use Rattle.std.proofs.Common.{sym, ◌∙◌}
use Rattle.lhg_simplex.proofs.VerdictLaws.{shown-says}
use Rattle.lhg_simplex.proofs.confirming.shown.Goals as goal

pub returns-in-Ok-true : goal.returns-in-Ok-true
returns-in-Ok-true g c = shown-says c.args.vars c.args.rows.now c.args.point.now c.requires.same (sym c.in-Ok-true.ensures.exact ∙ c.in-Ok-true.field-0-test)
