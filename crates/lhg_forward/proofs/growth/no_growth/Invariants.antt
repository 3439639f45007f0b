use Rattle.std.proofs.Common.{◌≡◌, [], replicate}
use Rattle.lhg_union.specs.Regions.{plain_region}
use Rattle.lhg_forward.proofs.growth.no_growth.Given as goal

abbrev pub invariant-loop-l : goal.invariant-loop-l
invariant-loop-l l = plain_region l.pieces.items ≡ replicate l._l []
