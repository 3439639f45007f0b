use Rattle.lhg_row.specs.SampleLaws.{sample-in}
use Rattle.lhg_row.proofs.piece_laws.law_sample.Goals as goal

pub returns : goal.returns
returns c = sample-in
