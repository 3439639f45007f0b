use Rattle.std.proofs.Common.{◌≡◌, sym, ap, ◌∙◌, subst, arith}
use Rattle.lhg_plant.specs.Views.{plain_plant, plain_state}
use Rattle.lhg_loss.specs.Holding.{holding}
use Rattle.lhg_loss.specs.Iterate.{PlainStage}
use Rattle.lhg_iterate.specs.declared.seeking.SeekStop.TheVariants.{Stop}
use Rattle.lhg_iterate.specs.Stages.{IsAfter}
use Rattle.lhg_iterate.specs.Turns.{IsStillIn}
use Rattle.lhg_iterate.proofs.SeekSteps.{undecided_first, undecided_here, seek_stage, seek_spent, handed_on}
use Rattle.lhg_iterate.proofs.TurnSteps.{first_unheld}
use Rattle.lhg_iterate.proofs.seeking.seek_safe.Goals as goal

pub returns-in_err-stage-clause-stop : goal.returns-in_err-stage-clause-stop
returns-in_err-stage-clause-stop c =
    let a = plain_plant c.args.plant.now in
    let z = plain_state c.args.state.now in
    let e = c.in_err-stage.field-0.0 in
    handed_on a c.args.budget z c.from_residual.result (Stop e) c.from_residual.ensures.1 (seek_stage a c.args.budget z 0 e (undecided_first a z c.requires.safe) c.in_err-stage.ensures.stop)

pub loop-rounds-init : goal.loop-rounds-init
loop-rounds-init c = record {
  after = c.in_ok-stage.ensures.ok;
  kept = c.requires.safe;
  unheld = first_unheld c.args.plant.now c.args.budget (plain_state c.args.state.now) c.in_ok-stage.stage c.in_ok-stage.ensures.ok;
}

pub spent-requires-clause-stage : goal.spent-requires-clause-stage
spent-requires-clause-stage c =
    let e : c.loop-rounds.rounds ≡ c.args.budget = omega arith in
    subst (λ k. IsAfter c.args.plant.now c.args.budget k c.loop-rounds.stage) e c.loop-rounds.invariant.after

pub returns-clause-stop : goal.returns-clause-stop
returns-clause-stop c =
    let p = c.args.plant.now in
    let a = plain_plant p in
    let z = plain_state c.args.state.now in
    let e : c.loop-rounds.rounds ≡ c.args.budget = omega arith in
    let inv = subst (λ k. IsStillIn p c.args.budget k z c.loop-rounds.stage) e c.loop-rounds.invariant in
    let none = ap (λ (t : PlainStage). (holding z t.last).value) (sym inv.after.same) ∙ inv.unheld in
    seek_spent a c.args.budget z c.spent.result inv.kept (undecided_here a c.args.budget z inv.after.stage_is.removes inv.kept) none c.spent.ensures
