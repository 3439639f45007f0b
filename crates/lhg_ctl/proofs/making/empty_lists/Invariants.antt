use Rattle.std.proofs.Common.{◌≡◌, [], replicate}
use Rattle.lhg_union.specs.Regions.{plain_region}
use Rattle.lhg_ctl.proofs.making.empty_lists.Given as goal

abbrev pub invariant-loop-i : goal.invariant-loop-i
invariant-loop-i l = plain_region l.pieces.items ≡ replicate l._i []
