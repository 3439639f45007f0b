use Rattle.std.proofs.Common.{◌∙◌, ap, set}
use Rattle.lhg_read.proofs.AxisRows.{axis_set}
use Rattle.lhg_read.proofs.axes.axis.Goals as goal

pub returns : goal.returns
returns c = ap (λ xs. set xs c.args.v c.args.c) c.in_ok-coefs.ensures ∙ axis_set c.args.n c.args.v c.args.c c.requires
