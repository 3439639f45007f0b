use Rattle.std.proofs.Common.{◌≡◌, false, take}
use Rattle.lhg_math.specs.Tests.{AllOf}
use Rattle.lhg_row.specs.Members.{SomeOf}
use Rattle.lhg_row.specs.Row.{PlainRow, PlainPoint, holds_at}
use Rattle.lhg_prune.proofs.seats.fail_somewhere.Given as goal

abbrev pub invariant-loop-row : goal.invariant-loop-row
invariant-loop-row l = AllOf (λ (r : PlainRow). SomeOf (λ (c : PlainPoint). holds_at r c ≡ false) l.points) (take l.row-index l.rows)
