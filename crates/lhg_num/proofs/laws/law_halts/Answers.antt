use Rattle.lhg_num.specs.AnswerLaws.{part_halts_for}
use Rattle.lhg_num.proofs.Halted.{wide_halts}
use Rattle.lhg_num.proofs.laws.law_halts.Goals as goal

pub returns : goal.returns
returns c = record { wide = wide_halts; part = λ may r e m n f h. part_halts_for may r e m f n h }
