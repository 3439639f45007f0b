-- What does the iteration answer: what solves a game, and why there is no solution?
use Rattle.std.specs.Prelude.{◌≡◌, ℕ}
use Rattle.lhg_num.specs.declared.refusals.Halt.{Halt}
use Rattle.lhg_num.specs.declared.refusals.Halt.TheVariants as halt
use Rattle.lhg_union.specs.Regions.{plain_region}
use Rattle.lhg_plant.specs.Plant.{PlainPlant}
use Rattle.lhg_plant.specs.Views.{plain_state}
use Rattle.lhg_loss.specs.Iterate.{PlainSolution, solved, spent, solution}
use Rattle.lhg_loss.specs.StageFacts.{IsSolved, IsSpent}
use Rattle.lhg_loss.specs.Views.{plain_losses}
use Rattle.lhg_loss.specs.WorkLaws.{IsStopIn}
use Rattle.lhg_iterate.specs.declared.solving.Solved.{Solved}
use Rattle.lhg_iterate.specs.declared.stops.Stop.{Stop}
use Rattle.lhg_iterate.specs.declared.stops.Stop.TheVariants.{Wide, Rows, Pieces, Spent, Memory}

-- what solves a game, as plain data
abbrev pub plain_solved : Solved → PlainSolution
plain_solved s = solved s.rounds (plain_region s.region.pieces.items) (plain_region s.guards.items) (plain_losses s.losses.items)

-- it solves the game of the plant within the budget
abbrev pub IsSolvedBy : PlainPlant → ℕ → Solved → Type 0
IsSolvedBy a budget s = IsSolved a budget (record { region = plain_region s.region.pieces.items; guards = plain_region s.guards.items }) s.rounds (plain_losses s.losses.items)

-- why there is no solution: the work of the round that is named has the mark of the limit, or the budget is spent
abbrev pub IsStoppedBy : PlainPlant → ℕ → Stop → Type 0
IsStoppedBy a budget (Wide i) = IsStopIn a budget i (λ m. m.wide)
IsStoppedBy a budget (Rows i) = IsStopIn a budget i (λ m. m.rows)
IsStoppedBy a budget (Pieces i) = IsStopIn a budget i (λ m. m.pieces)
IsStoppedBy a budget (Spent s) = (solution a budget ≡ spent (plain_state s)) × IsSpent a budget (plain_state s)
IsStoppedBy a budget Memory = Unit {0}

-- a halt in the work of round i
abbrev pub stop_of : Halt → ℕ → Stop
stop_of halt.Wide i = Wide i
stop_of halt.Rows i = Rows i
stop_of halt.Pieces i = Pieces i
stop_of halt.Memory i = Memory
