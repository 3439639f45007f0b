use Rattle.lhg_spoil.specs.Exchange.{stands_at}
use Rattle.lhg_spoil.proofs.Determined.{spoils_once, spoils_or_illegal, illegal_once}
use Rattle.lhg_spoil.proofs.laws.law_outcomes.Goals as goal

pub returns : goal.returns
returns c = λ a losses start moves. record {
  once = λ n m. spoils_once a losses moves n m 0 (stands_at start);
  exclusive = λ n number trace made last h k. spoils_or_illegal a losses moves n k.0 0 (stands_at start) trace made last number h k.1;
  one_illegal = λ number other trace made h k. illegal_once a losses moves h.0 k.0 0 (stands_at start) trace made number other h.1 k.1;
}
