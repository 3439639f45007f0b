-- What is kept from round to round while a state is sought, and what does one turn give?
use Rattle.std.specs.Prelude.{◌≡◌, ℕ, length, None}
use Rattle.lhg_plant.specs.declared.plants.Plant.{Plant}
use Rattle.lhg_plant.specs.State.{PlainState}
use Rattle.lhg_plant.specs.Round.{InRound}
use Rattle.lhg_plant.specs.Views.{plain_plant}
use Rattle.lhg_loss.specs.Holding.{holding}
use Rattle.lhg_iterate.specs.declared.seeking.Turn.{Turn}
use Rattle.lhg_iterate.specs.declared.seeking.Turn.TheVariants.{Decided, Next}
use Rattle.lhg_iterate.specs.declared.stages.Stage.{Stage}
use Rattle.lhg_iterate.specs.Seeking.{IsSought, SoughtVars}
use Rattle.lhg_iterate.specs.Stages.{plain_stage, IsAfter}

-- the stage after round i, which the state is in: no record of that round holds it
pub record IsStillIn (p : Plant) (budget i : ℕ) (z : PlainState) (s : Stage) : Type 0 where
  pub after : IsAfter p budget i s
  pub kept : InRound (plain_plant p) i z
  pub unheld : (holding z (plain_stage s).last).value ≡ None

-- the round decides, or the state is still in it
abbrev pub IsTurn : Plant → ℕ → ℕ → PlainState → Turn → Type 0
IsTurn p budget i z (Decided s) = IsSought (plain_plant p) budget z s × SoughtVars (length p.vars.items) s
IsTurn p budget i z (Next t) = IsStillIn p budget i z t
