use Rattle.lhg_plant.specs.Views.{plain_plant, plain_state}
use Rattle.lhg_union.specs.Regions.{plain_region}
use Rattle.lhg_uses.specs.Allowed.{AreAllowed}
use Rattle.lhg_uses.proofs.advising.allowed_at.Given as goal

abbrev pub invariant-loop-e : goal.invariant-loop-e
invariant-loop-e l = AreAllowed (plain_plant l.plant) (plain_region l.guards) (plain_state l.state) l.e l.allowed.items
