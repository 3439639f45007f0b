use Rattle.lhg_spoil.proofs.Outside.{rank_once, past_gone, past_decided, gone_past}
use Rattle.lhg_spoil.proofs.laws.law_ranks.Goals as goal

pub returns : goal.returns
returns c = λ a losses k j. record {
  once = rank_once a;
  gone = past_gone a j;
  decided = λ proper known within. past_decided a losses k known proper j within;
  past = λ proper known within. gone_past a losses k known proper j within;
}
