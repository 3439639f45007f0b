use Rattle.std.proofs.Common.{drop}
use Rattle.lhg_num.specs.MarkedLaws.{IsBuilt}
use Rattle.lhg_play.specs.Cut.{each_two, coordinate_at, point_at}
use Rattle.lhg_play.proofs.places.coordinates.Given as goal

abbrev pub invariant-loop-i : goal.invariant-loop-i
invariant-loop-i l = IsBuilt (point_at l.from l.to l.place) l.out.items (each_two (coordinate_at l.place) (drop l.i l.from) (drop l.i l.to))
