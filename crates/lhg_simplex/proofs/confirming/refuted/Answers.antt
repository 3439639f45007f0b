use Rattle.std.proofs.Common.{sym, ◌∙◌, map}
use Rattle.lhg_simplex.proofs.VerdictLaws.{refuted-says}
use Rattle.lhg_simplex.proofs.confirming.refuted.Goals as goal

pub returns-in-Ok-true : goal.returns-in-Ok-true
returns-in-Ok-true g c =
    refuted-says g.N.Scalar.arithmetic c.args.vars c.args.rows.now (map g.N.Scalar.meaning c.args.ms.now) c.requires (sym c.in-Ok-true.field-0-test ∙ c.in-Ok-true.ensures)
