use Rattle.std.proofs.Common.{◌∙◌, arith}
use Rattle.lhg_simplex.proofs.BoxSteps.{level-end}
use Rattle.lhg_simplex.proofs.boxes.are_level.Goals as goal

pub returns : goal.returns
returns c = let w = c.requires.wide in level-end c.args.row.now.coefs c.loop-k.k (omega arith) ∙ c.loop-k.invariant
