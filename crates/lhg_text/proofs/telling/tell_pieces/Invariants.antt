use Rattle.std.proofs.Common.{take}
use Rattle.lhg_math.specs.Tests.{AllOf}
use Rattle.lhg_num.specs.FracArithmetic.{frac_arithmetic}
use Rattle.lhg_row.specs.PieceFacts.{IsPoly}
use Rattle.lhg_text.proofs.telling.tell_pieces.Given as goal

abbrev pub invariant-loop-loss : goal.invariant-loop-loss
invariant-loop-loss l = AllOf (λ r. IsPoly frac_arithmetic r.piece.width r.piece.lines) (take l.loss-index l.losses)
