use Rattle.lhg_spoil.proofs.ExchangeEnds.{exchange_past}
use Rattle.lhg_spoil.proofs.laws.law_exchange.Goals as goal

pub returns : goal.returns
returns c = λ a losses k proper known j within. exchange_past a losses k known proper j within
