use Rattle.lhg_plant.specs.Views.{plain_state}
use Rattle.lhg_iterate.specs.Turns.{IsStillIn}
use Rattle.lhg_iterate.proofs.seeking.seek_safe.Given as goal

abbrev pub invariant-loop-rounds : goal.invariant-loop-rounds
invariant-loop-rounds l = IsStillIn l.plant l.budget l.rounds (plain_state l.state) l.stage
