use Rattle.std.proofs.Common.{ap, ◌∙◌}
use Rattle.std.proofs.lemmas.List.{take_all}
use Rattle.lhg_play.specs.Views.{plain_moves}
use Rattle.lhg_spoil.specs.Exchange.{run_whole}
use Rattle.lhg_spoil.proofs.PlaySteps.{whole-more}
use Rattle.lhg_spoil.proofs.plays.whole.Goals as goal

pub loop-step-preserved : goal.loop-step-preserved
loop-step-preserved c =
    whole-more c.args.moves.now c.loop-step.step-index c.step-item.result c.step-item.is c.loop-step-test.true c.loop-step.steps.items _ c.in_ok-to.to c.loop-step.invariant c.in_ok-to.ensures c.in_ok-push.ensures.items

pub returns : goal.returns
returns c = c.loop-step.invariant ∙ ap (λ ms. run_whole (plain_moves ms)) (take_all c.loop-step.step-index c.args.moves.now c.loop-step-test.false)
