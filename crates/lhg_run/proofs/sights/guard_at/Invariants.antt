use Rattle.std.proofs.Common.{ℕ, ◌<◌}
use Rattle.lhg_plant.specs.Region.{InGuard}
use Rattle.lhg_plant.specs.Views.{plain_plant}
use Rattle.lhg_union.specs.Regions.{plain_region}
use Rattle.lhg_run.proofs.sights.guard_at.Given as goal

abbrev pub invariant-loop-e : goal.invariant-loop-e
invariant-loop-e l = (d : ℕ) → d < l.e → ¬ InGuard (plain_plant l.plant) (plain_region l.guards) d (record { loc = l.loc; at = l.at })
