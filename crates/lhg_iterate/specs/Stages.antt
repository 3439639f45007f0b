-- What does the iteration keep from round to round?
use Rattle.std.specs.Prelude.{◌≡◌, ◌+◌, ◌<◌, ◌≤◌, ℕ, suc, length, drop}
use Rattle.lhg_union.specs.Regions.{plain_region}
use Rattle.lhg_plant.specs.declared.plants.Plant.{Plant}
use Rattle.lhg_plant.specs.Round.{IsRemovedIn}
use Rattle.lhg_plant.specs.Views.{plain_plant}
use Rattle.lhg_loss.specs.Records.{record_limit, record_row_limit, loss_rows}
use Rattle.lhg_loss.specs.Iterate.{PlainStage, stage, next_round, spent_state, solution, solution_within}
use Rattle.lhg_loss.specs.RoundFacts.{IsExactRound}
use Rattle.lhg_loss.specs.LimitFacts.{IsComputed}
use Rattle.lhg_loss.specs.StageFacts.{IsStage}
use Rattle.lhg_loss.specs.Views.{plain_losses, AllHaveVars}
use Rattle.lhg_quiet.specs.Quiet.{AreQuiet, AreChanges}
use Rattle.lhg_iterate.specs.Carrying.{IsCarriedTo}
use Rattle.lhg_iterate.specs.declared.rounds.Passed.{Passed}
use Rattle.lhg_iterate.specs.declared.rounds.Round.{Round}
use Rattle.lhg_iterate.specs.declared.stages.Stage.{Stage}
use Rattle.lhg_iterate.specs.RoundViews.{plain_round, IsOverPlant}

-- a stage as plain data
abbrev pub plain_stage : Stage → PlainStage
plain_stage s = record { region = plain_region s.region.pieces.items; losses = plain_losses s.losses.items; last = plain_losses (drop s.before s.losses.items) }

-- the stage after round i, each round up to which made a record; what is left of the budget gives the solution
pub record IsAfter (p : Plant) (budget i : ℕ) (s : Stage) : Type 0 where
  pub same : plain_stage s ≡ (stage (plain_plant p) i).value
  pub stage_is : IsStage (plain_plant p) i (plain_stage s)
  pub computed : IsComputed (plain_plant p) (suc i)
  pub rest : (left : ℕ) → left + i ≡ budget → solution (plain_plant p) budget ≡ solution_within left (plain_plant p) i (plain_stage s)
  pub removed : 0 < i → IsRemovedIn (plain_plant p) i (spent_state (plain_plant p) (plain_stage s).last).value
  pub some_last : 0 < i → s.before < length s.losses.items
  pub many : length s.region.pieces.items ≡ length p.locs.items
  pub vars : IsOverPlant p s.region.pieces.items
  pub losses_vars : AllHaveVars (length p.vars.items) s.losses.items
  pub few : length s.losses.items ≤ record_limit
  pub rows : s.rows_left + loss_rows (plain_losses s.losses.items) ≡ record_row_limit
  pub quiet : AreQuiet (plain_plant p) (plain_region s.region.pieces.items) s.quiet.items
  pub carried : IsCarriedTo p s.region.pieces.items s.carried

-- round i + 1 on the stage after round i
pub record IsRoundAfter (p : Plant) (i : ℕ) (s : Stage) (r : Round) : Type 0 where
  pub same : plain_round r ≡ (next_round (plain_plant p) (suc i) (plain_stage s)).value
  pub exact : IsExactRound (plain_plant p) (plain_region s.region.pieces.items) (suc i) (length (plain_stage s).losses + 1) (plain_round r)
  pub many : length r.next.pieces.items ≡ length p.locs.items
  pub vars : IsOverPlant p r.next.pieces.items
  pub losses_vars : AllHaveVars (length p.vars.items) r.losses.items
  pub few : length s.losses.items + length r.losses.items ≤ record_limit

-- the same, with marks for the locations that it may have changed
pub record IsPassedAfter (p : Plant) (i : ℕ) (s : Stage) (d : Passed) : Type 0 where
  pub round : IsRoundAfter p i s d.round
  pub changes : AreChanges (plain_plant p) (plain_region s.region.pieces.items) (plain_region d.round.next.pieces.items) d.changed.items
  pub marks : length d.changed.items ≡ length p.locs.items
