use Rattle.lhg_plant.specs.Views.{plain_plant}
use Rattle.lhg_play.specs.Views.{plain_spoil_step}
use Rattle.lhg_math.specs.ListFacts.{all_map_at}
use Rattle.lhg_text.specs.SpoilText.{IsPlacedSpoilStep}
use Rattle.lhg_text.proofs.spoils.push_steps.Goals as goal

pub push_step_line-requires : goal.push_step_line-requires
push_step_line-requires c = all_map_at (IsPlacedSpoilStep (plain_plant c.args.plant.now)) plain_spoil_step c.args.steps.now c.loop-i.i c.index-steps-i.result c.requires c.loop-i-test.true c.index-steps-i.is
