use Rattle.lhg_quiet.proofs.Renewing.{AreRenewed}
use Rattle.lhg_quiet.proofs.outside.renew_away.Given as goal

abbrev pub invariant-loop-l : goal.invariant-loop-l
invariant-loop-l l = AreRenewed l.plant l.region l.changed l.l l.away.items
