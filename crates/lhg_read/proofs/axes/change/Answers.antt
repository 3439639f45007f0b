use Rattle.std.proofs.Common.{◌∙◌, ◌+◌, ap, set}
use Rattle.lhg_read.proofs.AxisRows.{change_set}
use Rattle.lhg_read.proofs.axes.change.Goals as goal

pub returns : goal.returns
returns c =
    ap (λ xs. set (set xs c.args.v c.args.a) (c.args.n + c.args.v) c.args.b) c.in_ok-coefs.ensures
    ∙ change_set c.args.n c.args.v c.args.a c.args.b c.requires.below
