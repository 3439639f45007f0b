use Rattle.lhg_spoil.specs.Exchange.{stands_at}
use Rattle.lhg_spoil.proofs.Traces.{spoils_win}
use Rattle.lhg_spoil.proofs.laws.law_wins.Goals as goal

pub returns : goal.returns
returns c = λ a losses k i n start moves trace last. record {
  few = λ proper known offers within rank h. (spoils_win a losses k known proper offers moves n i 0 (stands_at start) trace last within rank h).few;
  legal = λ proper known offers within rank h. (spoils_win a losses k known proper offers moves n i 0 (stands_at start) trace last within rank h).legal;
  falls = λ proper known offers within rank h. (spoils_win a losses k known proper offers moves n i 0 (stands_at start) trace last within rank h).falls;
  unsafe = λ proper known offers within rank h. (spoils_win a losses k known proper offers moves n i 0 (stands_at start) trace last within rank h).unsafe;
}
