-- Which text answers a plant and a controller that is to be written anew?
use Rattle.std.specs.Prelude.{◌≡◌, ℕ, List}
use Rattle.lhg_plant.specs.Plant.{PlainPlant}
use Rattle.lhg_ctl.specs.ControllerText.{second_text}
use Rattle.lhg_ctl.specs.Draft.{PlainDraft}
use Rattle.lhg_cli.specs.declared.status.Status.{Status}
use Rattle.lhg_cli.specs.declared.status.Status.TheVariants as status

-- the text of the controller in version 2
abbrev pub IsMigrated : PlainPlant × PlainDraft → Status → List ℕ → Type 0
IsMigrated written s text = (s ≡ status.Done) × (text ≡ second_text written.0 written.1)
