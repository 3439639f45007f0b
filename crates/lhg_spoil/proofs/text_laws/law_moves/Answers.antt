use Rattle.lhg_spoil.proofs.MovesReading.{moves_reading, moves_end}
use Rattle.lhg_spoil.proofs.text_laws.law_moves.Goals as goal

pub returns-clause-reading : goal.returns-clause-reading
returns-clause-reading c = moves_reading

pub returns-clause-end : goal.returns-clause-end
returns-clause-end c = moves_end
