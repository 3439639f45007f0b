use Rattle.std.proofs.Common.{◌≡◌, ◌+◌, suc, take, subst, arith}
use Rattle.std.proofs.lemmas.List.{take_all}
use Rattle.lhg_math.specs.Tests.{AllOf}
use Rattle.lhg_explain.proofs.CodeSteps.{TellsWidth, all_taken, all_wide}
use Rattle.lhg_explain.proofs.telling.tell_losses.Goals as goal

pub loop-loss-preserved : goal.loop-loss-preserved
loop-loss-preserved c =
    let losses = c.args.losses.now in
    let i = c.loop-loss.loss-index in
    let next : suc i ≡ i + 1 = omega arith in
    subst (λ k. AllOf TellsWidth (take k losses)) next (all_taken TellsWidth losses i c.loss-item.result c.loop-loss.invariant c.loop-loss-test.true c.loss-item.is c.tell_loss.ensures)

pub returns : goal.returns
returns c = λ n v. all_wide n c.args.losses.now (subst (λ rs. AllOf TellsWidth rs) (take_all c.loop-loss.loss-index c.args.losses.now c.loop-loss-test.false) c.loop-loss.invariant) v
