use Rattle.lhg_spoil.proofs.ExchangeEnds.{plant_picks, named_past}
use Rattle.lhg_spoil.proofs.laws.law_last_case.Goals as goal

pub returns : goal.returns
returns c = λ a losses k j p. record {
  plant = λ proper known within state pass inside none. plant_picks a losses k known proper j within p state pass inside none;
  named = λ proper known within state pass inside none. named_past a losses k known proper j within p state pass inside none;
}
