use Rattle.std.proofs.Common.{◌<◌, length, rules}
use Rattle.lhg_num.specs.Marked.{walk}
use Rattle.lhg_plant.specs.OutCalculus.{numbered}
use Rattle.lhg_plant.specs.Views.{plain_switch, plain_plant}
use Rattle.lhg_union.specs.Regions.{plain_region}
use Rattle.lhg_jump.proofs.WalkSteps.{numbered-step}
use Rattle.lhg_forward.specs.Growth.{add_switch}
use Rattle.lhg_forward.specs.Views.{plain_growth}
use Rattle.lhg_forward.proofs.growing.add_switches.Goals as goal

pub loop-e-preserved : goal.loop-e-preserved
loop-e-preserved c =
    let p = c.args.plant.now in
    let there : c.loop-e.e < length p.switches.items = search rules in
    let f = add_switch (plain_plant p) (plain_region c.args.region.now) c.args.loc c.args.piece.now.lines in
    let whole = walk f (plain_growth c.args.growth.now) (numbered 0 (plain_plant p).switches) in
    record {
      rest = numbered-step f plain_switch p.switches.items whole (plain_growth c.loop-e.growth) c.loop-e.e c.index-switch.result.now c.index-switch.ensures there c.loop-e.invariant.rest (plain_growth c.add_switch.new.growth) c.in_ok-add_switch.ensures.calculus;
      lists = c.in_ok-add_switch.ensures.lists;
    }
