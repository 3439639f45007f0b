use Rattle.lhg_lazy.proofs.CutStates.{cut-exact}
use Rattle.lhg_lazy.proofs.RimStates.{away-exact, rim-exact}
use Rattle.lhg_lazy.proofs.laws.law_rim.Goals as goal

pub returns-clause-away : goal.returns-clause-away
returns-clause-away c = away-exact

pub returns-clause-rim : goal.returns-clause-rim
returns-clause-rim c = rim-exact

pub returns-clause-cut : goal.returns-clause-cut
returns-clause-cut c = cut-exact
