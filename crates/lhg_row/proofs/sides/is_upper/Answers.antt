use Rattle.std.proofs.Common.{◌∙◌, ap}
use Rattle.std.specs.Ordering.{is_gt}
use Rattle.lhg_math.specs.SignLaws.{is_gt-sign_of}
use Rattle.lhg_row.specs.Column.{coef_at}
use Rattle.lhg_row.proofs.sides.is_upper.Goals as goal

pub returns : goal.returns
returns g c = c.is_gt.ensures ∙ ap is_gt c.sign_at.ensures ∙ is_gt-sign_of (coef_at c.args.k c.args.row.now)
