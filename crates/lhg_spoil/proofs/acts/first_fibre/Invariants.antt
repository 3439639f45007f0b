use Rattle.std.proofs.Common.{◌≡◌, ◌<◌, ℕ, None}
use Rattle.lhg_plant.specs.declared.plants.Side.TheVariants.{Env}
use Rattle.lhg_plant.specs.Legal.{HasSide}
use Rattle.lhg_plant.specs.Views.{plain_plant, plain_state}
use Rattle.lhg_loss.specs.Views.{plain_losses}
use Rattle.lhg_spoil.specs.Fibres.{fibre}
use Rattle.lhg_spoil.proofs.acts.first_fibre.Given as goal

abbrev pub invariant-loop-e : goal.invariant-loop-e
invariant-loop-e l = (d : ℕ) → d < l.e → HasSide (plain_plant l.plant) d Env → (fibre (plain_plant l.plant) (plain_losses l.losses) l.j d (plain_state l.state)).value ≡ None
