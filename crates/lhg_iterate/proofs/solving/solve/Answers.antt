use Rattle.std.proofs.Common.{◌≡◌, suc, subst, arith}
use Rattle.lhg_plant.specs.Views.{plain_plant}
use Rattle.lhg_iterate.specs.Stages.{IsAfter}
use Rattle.lhg_iterate.proofs.StopSteps.{refused_stage, spent_stops}
use Rattle.lhg_iterate.proofs.solving.solve.Goals as goal

pub returns-in_err-stage-clause-stop : goal.returns-in_err-stage-clause-stop
returns-in_err-stage-clause-stop c =
    refused_stage (plain_plant c.args.plant.now) c.args.budget 0 c.from_residual.result c.in_err-stage.field-0.0 c.from_residual.ensures.1 c.in_err-stage.ensures.stop

pub returns-in_err-passed-clause-stop : goal.returns-in_err-passed-clause-stop
returns-in_err-passed-clause-stop c =
    refused_stage (plain_plant c.args.plant.now) c.args.budget (suc c.loop-rounds.rounds) c.from_residual-in_err-passed.result c.in_err-passed.field-0.0 c.from_residual-in_err-passed.ensures.1 c.in_err-passed.ensures.stop

pub returns-in_err-stage-2-clause-stop : goal.returns-in_err-stage-2-clause-stop
returns-in_err-stage-2-clause-stop c =
    refused_stage (plain_plant c.args.plant.now) c.args.budget (suc c.loop-rounds.rounds) c.from_residual-in_err-stage-2.result c.in_err-stage-2.field-0.0 c.from_residual-in_err-stage-2.ensures.1 c.in_err-stage-2.ensures.stop

pub spent-requires-clause-stage : goal.spent-requires-clause-stage
spent-requires-clause-stage c =
    let e : c.loop-rounds.rounds ≡ c.args.budget = omega arith in
    subst (λ k. IsAfter c.args.plant.now c.args.budget k c.loop-rounds.stage) e c.loop-rounds.invariant

pub returns-clause-stop : goal.returns-clause-stop
returns-clause-stop c = spent_stops (plain_plant c.args.plant.now) c.args.budget c.spent.result (omega arith) c.spent.ensures

pub settled-requires-clause-passed : goal.settled-requires-clause-passed
settled-requires-clause-passed c = c.in_ok-passed.ensures.ok
