use Rattle.lhg_num.specs.Arithmetic.{scaled_multiple, scaled-held}
use Rattle.lhg_num.proofs.laws.law_scaled.Goals as goal

pub returns : goal.returns
returns c = record { multiple = scaled_multiple; held = scaled-held }
