-- Which text tells where a plant can get from its first states within a budget of levels, with which status?
use Rattle.std.specs.Prelude.{◌≡◌, ◌↔◌, ◌⊎◌, ◌<◌, ◌≤◌, ℕ, zero, suc, Bool, true, false, List, ◌++◌, codes, decimal}
use Rattle.lhg_num.specs.Marked.{Marked, valued}
use Rattle.lhg_row.specs.Piece.{PlainPiece}
use Rattle.lhg_plant.specs.Plant.{PlainPlant}
use Rattle.lhg_plant.specs.Region.{PlainRegion, InRegion}
use Rattle.lhg_plant.specs.State.{PlainState}
use Rattle.lhg_plant.specs.Views.{plain_state}
use Rattle.lhg_row_text.specs.PrintedLine.{line}
use Rattle.lhg_row_text.specs.PointText.{state_text}
use Rattle.lhg_forward.specs.Growth.{PlainForward, ended, spent, forward_sets, nothing, work}
use Rattle.lhg_forward.specs.InitStates.{InInit, init_of}
use Rattle.lhg_forward.specs.Level.{IsReachable, IsAddedIn, AddsSome, IsLastLevel}
use Rattle.lhg_forward.specs.declared.stops.ForwardStop.{ForwardStop}
use Rattle.lhg_forward.specs.declared.stops.ForwardStop.TheVariants.{Wide, Rows, Pieces, Spent, Memory}
use Rattle.lhg_text.specs.ForwardText.{forward_text, IsWrittenForward, SameForward}
use Rattle.lhg_text.specs.TraceText.{IsPlacedState}
use Rattle.lhg_input.specs.Inputs.{IsInitInput}
use Rattle.lhg_cli.specs.InputAnswer.{IsInput}
use Rattle.lhg_cli.specs.declared.status.Status.{Status}
use Rattle.lhg_cli.specs.declared.status.Status.TheVariants as status

-- a plant, and lines of rows that say its first states
abbrev pub PlantInit : Type 0
PlantInit = PlainPlant × List (ℕ × PlainPiece)

-- the end of the iteration of the calculus from the region of the first states on
abbrev pub reached : PlantInit → ℕ → PlainForward
reached v budget = forward_sets v.0 (init_of v.0 v.1).value budget

-- ---- what is told
-- the region is exactly the states to which legal flows and switches lead from the first states, and the number that of the first level that
-- adds nothing, within the budget; both are those of the calculus
pub record IsExplored (v : PlantInit) (budget rounds : ℕ) (region : PlainRegion) : Type 0 where
  pub exact : (z : PlainState) → InRegion v.0 region z ↔ IsReachable v.0 (InInit v.0 v.1) z
  pub last : IsLastLevel v.0 (InInit v.0 v.1) rounds
  pub within : rounds ≤ budget
  pub calculus : reached v budget ≡ ended rounds region

-- the text is that of such forward sets, and all forward sets of the plant with this text have the same pieces and number
pub record IsReachText (v : PlantInit) (budget : ℕ) (text : List ℕ) : Type 0 where
  pub rounds : ℕ
  pub region : PlainRegion
  pub explored : IsExplored v budget rounds region
  pub printed : text ≡ forward_text v.0 region rounds
  pub one_reading : (s : PlainRegion) (r : ℕ) → IsWrittenForward v.0 s r → forward_text v.0 s r ≡ text → SameForward region rounds s r

-- ---- what is not told
-- the work of level i, where that of level 0 is the region of the first states
abbrev pub reach_work : PlantInit → ℕ → ℕ → Marked (Unit {0})
reach_work v budget zero = valued nothing (init_of v.0 v.1)
reach_work v budget (suc i) = work v.0 (init_of v.0 v.1).value budget (suc i)

-- each level before level i of the budget adds a state, and the work of level i has the mark of a limit
pub record IsReachStop (v : PlantInit) (budget i : ℕ) (mark : Marked (Unit {0}) → Bool) : Type 0 where
  pub within : i ≤ budget
  pub adds : (j : ℕ) → 0 < j → j < i → AddsSome v.0 (InInit v.0 v.1) j
  pub marked : mark (reach_work v budget i) ≡ true

-- each level up to the budget adds a state, and the last of them this one, which is that of the calculus
pub record IsReachSpent (v : PlantInit) (budget : ℕ) (z : PlainState) : Type 0 where
  pub added : IsAddedIn v.0 (InInit v.0 v.1) budget z
  pub adds : (j : ℕ) → 0 < j → j ≤ budget → AddsSome v.0 (InInit v.0 v.1) j
  pub calculus : reached v budget ≡ spent z

-- why no region is told
abbrev pub IsUnexplored : PlantInit → ℕ → ForwardStop → Type 0
IsUnexplored v budget (Wide i) = IsReachStop v budget i (λ m. m.wide)
IsUnexplored v budget (Rows i) = IsReachStop v budget i (λ m. m.rows)
IsUnexplored v budget (Pieces i) = IsReachStop v budget i (λ m. m.pieces)
IsUnexplored v budget (Spent s) = IsReachSpent v budget (plain_state s)
IsUnexplored v budget Memory = Unit {0}

-- the state of a spent budget is one of the plant's locations, with a value for each variable
abbrev pub IsPlacedStop : PlainPlant → ForwardStop → Type 0
IsPlacedStop a (Wide i) = Unit {0}
IsPlacedStop a (Rows i) = Unit {0}
IsPlacedStop a (Pieces i) = Unit {0}
IsPlacedStop a (Spent s) = IsPlacedState a (plain_state s)
IsPlacedStop a Memory = Unit {0}

-- the line of a limit and a level
abbrev pub limit_line : List ℕ → ℕ → List ℕ
limit_line limit level = line (limit ++ codes " round " ++ decimal level)

-- the lines of a spent budget and a state
abbrev pub spent_lines : PlainPlant → ℕ → PlainState → List ℕ
spent_lines a budget z = line (codes "spent " ++ decimal budget) ++ line (codes "state " ++ state_text a z)

-- the status and the text of a stop
abbrev pub TellsReachStop : PlainPlant → ℕ → ForwardStop → Status → List ℕ → Type 0
TellsReachStop a budget (Wide i) s text = (s ≡ status.Wide) × (text ≡ limit_line (codes "wide") i)
TellsReachStop a budget (Rows i) s text = (s ≡ status.Lists) × (text ≡ limit_line (codes "rows") i)
TellsReachStop a budget (Pieces i) s text = (s ≡ status.Lists) × (text ≡ limit_line (codes "pieces") i)
TellsReachStop a budget (Spent z) s text = (s ≡ status.Spent) × (text ≡ spent_lines a budget (plain_state z))
TellsReachStop a budget Memory s text = ⊥

-- the answer names a limit, and a level in whose work it is passed
pub record IsReachLimit (v : PlantInit) (budget : ℕ) (limit : List ℕ) (mark : Marked (Unit {0}) → Bool) (text : List ℕ) : Type 0 where
  pub level : ℕ
  pub stop : IsReachStop v budget level mark
  pub printed : text ≡ limit_line limit level

-- the answer names the budget, and a state that its last level adds
pub record IsReachSpentText (v : PlantInit) (budget : ℕ) (text : List ℕ) : Type 0 where
  pub state : PlainState
  pub spent : IsReachSpent v budget state
  pub printed : text ≡ spent_lines v.0 budget state

-- ---- answers
-- the text that stands for the status where forward sets are asked for
abbrev pub IsReached : ℕ → PlantInit → Status → List ℕ → Type 0
IsReached budget v status.Done text = IsReachText v budget text
IsReached budget v status.No text = ⊥
IsReached budget v status.Words text = ⊥
IsReached budget v status.Text text = ⊥
IsReached budget v status.Wide text = IsReachLimit v budget (codes "wide") (λ m. m.wide) text
IsReached budget v status.Lists text = IsReachLimit v budget (codes "rows") (λ m. m.rows) text ⊎ IsReachLimit v budget (codes "pieces") (λ m. m.pieces) text
IsReached budget v status.Spent text = IsReachSpentText v budget text
IsReached budget v status.Read text = ⊥
IsReached budget v status.Write text = ⊥
IsReached budget v status.Memory text = ⊥

-- ---- where an answer is sure
-- the calculus is within its limits in the work of each level up to this one
pub record IsWithinLevels (v : PlantInit) (budget level : ℕ) : Type 0 where
  pub numbers : (i : ℕ) → i ≤ level → (reach_work v budget i).wide ≡ false
  pub rows : (i : ℕ) → i ≤ level → (reach_work v budget i).rows ≡ false
  pub pieces : (i : ℕ) → i ≤ level → (reach_work v budget i).pieces ≡ false

-- the input is a plant and first states; some level up to the budget adds nothing, and the calculus stays within its limits to that level
pub record IsExplorable (budget : ℕ) (bytes : List ℕ) : Type 0 where
  pub input : IsInput IsInitInput bytes
  pub level : ℕ
  pub within : level ≤ budget
  pub last : IsLastLevel input.value.0 (InInit input.value.0 input.value.1) level
  pub limits : IsWithinLevels input.value budget level

-- the input is a plant and first states; each level up to the budget adds a state, and the calculus stays within its limits to the last of them
pub record IsEndless (budget : ℕ) (bytes : List ℕ) : Type 0 where
  pub input : IsInput IsInitInput bytes
  pub adds : (j : ℕ) → 0 < j → j ≤ budget → AddsSome input.value.0 (InInit input.value.0 input.value.1) j
  pub limits : IsWithinLevels input.value budget budget
