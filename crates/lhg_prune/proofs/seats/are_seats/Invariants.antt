use Rattle.std.proofs.Common.{take}
use Rattle.lhg_math.specs.Tests.{AllOf}
use Rattle.lhg_prune.specs.Directions.{is_wanted}
use Rattle.lhg_prune.specs.Seat.{IsSeat}
use Rattle.lhg_prune.proofs.seats.are_seats.Given as goal

abbrev pub invariant-loop-point : goal.invariant-loop-point
invariant-loop-point g l = AllOf (IsSeat g.N.Scalar.arithmetic l.keep l.rows (is_wanted g.N.Scalar.arithmetic l.wanted)) (take l.point-index l.points)
