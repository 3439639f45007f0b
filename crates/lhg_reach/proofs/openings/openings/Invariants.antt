use Rattle.std.proofs.Common.{take}
use Rattle.lhg_row.specs.System.{PlainSystem}
use Rattle.lhg_reach.specs.Before.{IsOpening}
use Rattle.lhg_reach.specs.Neighbours.{EachWith}
use Rattle.lhg_reach.proofs.openings.openings.Given as goal

abbrev pub invariant-loop-start : goal.invariant-loop-start
invariant-loop-start g l = EachWith (λ (start : PlainSystem) b. IsOpening g.N.Scalar.arithmetic l.into.width l.into.lines l.flow start.lines b) (take l.start-index l.near) l.out.items
