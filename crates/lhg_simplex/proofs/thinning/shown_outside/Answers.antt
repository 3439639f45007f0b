use Rattle.lhg_simplex.specs.Others.{others}
use Rattle.lhg_simplex.proofs.VerdictLaws.{shown-says}
use Rattle.lhg_simplex.proofs.thinning.shown_outside.Goals as goal

pub returns-in-Ok-true : goal.returns-in-Ok-true
returns-in-Ok-true g c = shown-says c.args.vars (others c.args.rows.now c.args.i) c.args.point.now c.requires.same (c.in-Ok-true.ensures c.in-Ok-true.field-0-test)
