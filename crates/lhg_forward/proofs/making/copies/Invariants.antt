use Rattle.std.proofs.Common.{◌≡◌, map, take}
use Rattle.lhg_ctl.specs.Views.{plain_placed}
use Rattle.lhg_forward.proofs.making.copies.Given as goal

abbrev pub invariant-loop-i : goal.invariant-loop-i
invariant-loop-i l = map plain_placed l.out.items ≡ map plain_placed (take l.i l.lines)
