use Rattle.std.proofs.Common.{◌≡◌, take}
use Rattle.lhg_union.specs.Regions.{polys_of}
use Rattle.lhg_union.proofs.regions.Region.copy.Given as goal

abbrev pub invariant-loop-list : goal.invariant-loop-list
invariant-loop-list g l = polys_of l.pieces.items ≡ take l.list-index (polys_of l.self.pieces.items)
