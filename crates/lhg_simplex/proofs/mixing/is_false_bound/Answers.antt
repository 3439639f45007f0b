use Rattle.std.proofs.Common.{◌∙◌, sym}
use Rattle.std.specs.declared.cmp.Ordering.TheVariants.{Less, Equal, Greater}
use Rattle.lhg_simplex.proofs.MixSteps.{told-sign}
use Rattle.lhg_simplex.proofs.mixing.is_false_bound.Goals as goal

pub returns-in-Less : goal.returns-in-Less
returns-in-Less g c = told-sign c.args.strict (g.N.Scalar.meaning c.args.bound.now) Less (sym c.in-Less.is ∙ c.sign.ensures)

pub returns-in-Equal : goal.returns-in-Equal
returns-in-Equal g c = told-sign c.args.strict (g.N.Scalar.meaning c.args.bound.now) Equal (sym c.in-Equal.is ∙ c.sign.ensures)

pub returns-in-Greater : goal.returns-in-Greater
returns-in-Greater g c = told-sign c.args.strict (g.N.Scalar.meaning c.args.bound.now) Greater (sym c.in-Greater.is ∙ c.sign.ensures)
