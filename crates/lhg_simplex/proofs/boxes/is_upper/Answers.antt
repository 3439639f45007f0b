use Rattle.std.proofs.Common.{◌∙◌, ap}
use Rattle.std.specs.Ordering.{is_gt}
use Rattle.lhg_math.specs.SignLaws.{is_gt-sign_of}
use Rattle.lhg_math.specs.Number.{sign_of}
use Rattle.lhg_row.specs.Column.{coef_at}
use Rattle.lhg_simplex.proofs.boxes.is_upper.Goals as goal

pub returns : goal.returns
returns c = c.is_gt.ensures ∙ ap is_gt (c.sign.ensures ∙ ap sign_of c.coef.ensures) ∙ is_gt-sign_of (coef_at c.args.k c.args.row.now)
