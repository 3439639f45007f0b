use Rattle.std.proofs.Common.{map, length, ap, ◌∙◌}
use Rattle.std.specs.Global.{Vec}
use Rattle.std.proofs.lemmas.List.{take_all}
use Rattle.lhg_row.specs.System.{PlainSystem}
use Rattle.lhg_forward.proofs.StageCode.{counted-lists}
use Rattle.lhg_forward.proofs.joining.counts.Goals as goal

pub returns : goal.returns
returns c =
    c.loop-list.invariant ∙ ap (map (λ (v : Vec PlainSystem). length v.items)) (take_all c.loop-list.list-index c.args.region.now c.loop-list-test.false) ∙ counted-lists c.args.region.now
