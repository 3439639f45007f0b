use Rattle.std.proofs.Common.{◌≡◌, map, take, length}
use Rattle.std.specs.Global.{Vec}
use Rattle.lhg_row.specs.System.{PlainSystem}
use Rattle.lhg_forward.proofs.joining.counts.Given as goal

abbrev pub invariant-loop-list : goal.invariant-loop-list
invariant-loop-list l = l.out.items ≡ map (λ (v : Vec PlainSystem). length v.items) (take l.list-index l.region)
