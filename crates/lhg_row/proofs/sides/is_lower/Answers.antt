use Rattle.std.proofs.Common.{◌∙◌, ap}
use Rattle.std.specs.Ordering.{is_lt}
use Rattle.lhg_math.specs.SignLaws.{is_lt-sign_of}
use Rattle.lhg_row.specs.Column.{coef_at}
use Rattle.lhg_row.proofs.sides.is_lower.Goals as goal

pub returns : goal.returns
returns g c = c.is_lt.ensures ∙ ap is_lt c.sign_at.ensures ∙ is_lt-sign_of (coef_at c.args.k c.args.row.now)
