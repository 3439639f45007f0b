use Rattle.lhg_plant.specs.Views.{plain_plant, plain_state}
use Rattle.lhg_play.proofs.JoinSteps.{joined}
use Rattle.lhg_play.proofs.joining.join_flow.Goals as goal

pub returns-clause-legal : goal.returns-clause-legal
returns-clause-legal c =
    joined c.add.result _ (plain_plant c.args.plant.now) (plain_state c.args.a.now) c.args.s.now c.args.t.now c.args.b.now c.args.c.now c.law_flows.ensures.join c.requires.first c.requires.second c.add.ensures
