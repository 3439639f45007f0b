use Rattle.std.proofs.Common.{◌-◌, drop, get_or}
use Rattle.lhg_math.specs.Number.{nought}
use Rattle.lhg_num.specs.MarkedLaws.{IsBuilt}
use Rattle.lhg_play.specs.Cut.{middles_behind, with_middles}
use Rattle.lhg_play.proofs.cutting.with_middles.Given as goal

abbrev pub invariant-loop-i : goal.invariant-loop-i
invariant-loop-i l = IsBuilt (with_middles l.places) l.out.items (middles_behind (get_or l.places (l.i - 1) nought) (drop l.i l.places))
