use Rattle.lhg_spoil.proofs.FibreResults.{fibre_right, fibre_found}
use Rattle.lhg_spoil.proofs.laws.law_fibres.Goals as goal

pub returns : goal.returns
returns c = λ a losses k j. record {
  right = λ proper known within. fibre_right a losses k known proper j within;
  found = λ proper known within. fibre_found a losses k known proper j within;
}
