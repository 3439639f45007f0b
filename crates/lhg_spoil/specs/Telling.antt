-- What does a teller say of a state?
use Rattle.std.specs.Prelude.{◌≡◌, ◌⊎◌, ℕ, true, List}
use Rattle.lhg_num.specs.declared.refusals.Halt.{Halt}
use Rattle.lhg_num.specs.declared.refusals.Halt.TheVariants.{Wide, Rows, Pieces, Memory}
use Rattle.lhg_num.specs.FracArithmetic.{frac_arithmetic}
use Rattle.lhg_plant.specs.Explained.{IsExplained, FitsPlant}
use Rattle.lhg_plant.specs.Loss.{PlainLoss}
use Rattle.lhg_plant.specs.Plant.{PlainPlant}
use Rattle.lhg_plant.specs.Rank.{HasRank}
use Rattle.lhg_plant.specs.State.{PlainState}
use Rattle.lhg_play.specs.Views.{plain_escape}
use Rattle.lhg_loss.specs.Holding.{holding}
use Rattle.lhg_loss.specs.Iterate.{stage}
use Rattle.lhg_spoil.specs.declared.tellers.Told.{Told}
use Rattle.lhg_spoil.specs.declared.tellers.Told.TheVariants.{Unsafe, Lost}
use Rattle.lhg_spoil.specs.Exchange.{offer}
use Rattle.lhg_plant.specs.LegalTruths.{safe_truth}

-- the records of the rounds up to a number
abbrev pub records_upto : PlainPlant → ℕ → List PlainLoss
records_upto a upto = (stage a upto).value.losses

-- the state is unsafe, or it is lost and this is the escape that the plant offers
abbrev pub IsTold : PlainPlant → ℕ → PlainState → Told → Type 0
IsTold a upto s Unsafe = HasRank a 0 s
IsTold a upto s (Lost e) = (plain_escape e ≡ (offer a (records_upto a upto) s).value) × IsExplained a s (plain_escape e) × FitsPlant a (plain_escape e).way

-- a limit comes only by the escape, or by a row of a safe line or of a record at the state
abbrev pub IsTellHalt : PlainPlant → ℕ → PlainState → Halt → Type 0
IsTellHalt a upto s Wide =
    ((safe_truth frac_arithmetic a s).wide ≡ true) ⊎ (((holding s (records_upto a upto)).wide ≡ true) ⊎ ((offer a (records_upto a upto) s).wide ≡ true))
IsTellHalt a upto s Rows = (offer a (records_upto a upto) s).rows ≡ true
IsTellHalt a upto s Pieces = ⊥
IsTellHalt a upto s Memory = Unit {0}
