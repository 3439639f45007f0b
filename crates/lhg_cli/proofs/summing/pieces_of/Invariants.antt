use Rattle.std.proofs.Common.{◌≡◌, ◌*◌, ◌^◌, ◌≤◌, take}
use Rattle.lhg_union.specs.Regions.{plain_region}
use Rattle.lhg_cli.specs.Summary.{pieces_in}
use Rattle.lhg_cli.proofs.summing.pieces_of.Given as goal

abbrev pub invariant-loop-list : goal.invariant-loop-list
invariant-loop-list l = (l.count ≡ pieces_in (plain_region (take l.list-index l.lists))) × (l.count ≤ l.list-index * 2 ^ 64)
