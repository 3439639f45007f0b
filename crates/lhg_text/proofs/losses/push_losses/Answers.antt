use Rattle.std.proofs.Common.{◌≡◌, length}
use Rattle.lhg_plant.specs.Views.{plain_plant}
use Rattle.lhg_loss.specs.declared.losses.Loss.{Loss}
use Rattle.lhg_loss.specs.Views.{plain_loss}
use Rattle.lhg_union.proofs.ListFacts.{all_at}
use Rattle.lhg_math.specs.ListFacts.{all_map_at}
use Rattle.lhg_text.specs.ReportConditions.{IsPlacedLoss}
use Rattle.lhg_text.proofs.losses.push_losses.Goals as goal

pub push_loss-requires-clause-place : goal.push_loss-requires-clause-place
push_loss-requires-clause-place c = all_map_at (IsPlacedLoss (plain_plant c.args.plant.now)) plain_loss c.args.losses.now c.loop-i.i c.index-losses-i.result c.requires.places c.loop-i-test.true c.index-losses-i.is

pub push_loss-requires-clause-vars : goal.push_loss-requires-clause-vars
push_loss-requires-clause-vars c = all_at (λ (r : Loss). r.piece.width ≡ length c.args.plant.now.vars.items) c.args.losses.now c.loop-i.i c.index-losses-i.result c.index-losses-i.is c.loop-i-test.true c.requires.vars
