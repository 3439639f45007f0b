use Rattle.lhg_text.proofs.OneReading.{one_reading}
use Rattle.lhg_text.proofs.laws.law_reports.Goals as goal

pub returns : goal.returns
returns c = record { one_reading = one_reading }
