use Rattle.std.proofs.Common.{take, drop}
use Rattle.lhg_num.specs.MarkedLaws.{IsBuilt}
use Rattle.lhg_play.specs.Cut.{inserted}
use Rattle.lhg_play.proofs.cutting.slot.Given as goal

abbrev pub invariant-loop-i : goal.invariant-loop-i
invariant-loop-i l = IsBuilt (inserted l.place l.places) (take l.i l.places) (inserted l.place (drop l.i l.places))
