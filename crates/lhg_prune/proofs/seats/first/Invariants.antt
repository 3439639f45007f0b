use Rattle.std.proofs.Common.{◌≡◌, take}
use Rattle.lhg_prune.proofs.seats.first.Given as goal

abbrev pub invariant-loop-i : goal.invariant-loop-i
invariant-loop-i l = l.at.items ≡ take l.i l.point
