use Rattle.std.proofs.Common.{◌∙◌, ap}
use Rattle.std.specs.Ordering.{is_lt}
use Rattle.lhg_math.specs.SignLaws.{is_lt-sign_of}
use Rattle.lhg_math.specs.Number.{sign_of}
use Rattle.lhg_row.specs.Column.{coef_at}
use Rattle.lhg_simplex.proofs.boxes.is_lower.Goals as goal

pub returns : goal.returns
returns c = c.is_lt.ensures ∙ ap is_lt (c.sign.ensures ∙ ap sign_of c.coef.ensures) ∙ is_lt-sign_of (coef_at c.args.k c.args.row.now)
