use Rattle.lhg_simplex.proofs.Farkas.{refutes_empty}
use Rattle.lhg_simplex.proofs.VerdictLaws.{verdict_says}
use Rattle.lhg_simplex.proofs.laws.law_refute.Goals as goal

pub returns-clause-refute : goal.returns-clause-refute
returns-clause-refute c = refutes_empty

pub returns-clause-verdict : goal.returns-clause-verdict
returns-clause-verdict c = verdict_says
