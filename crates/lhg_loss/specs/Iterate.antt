-- Which region, guards and records does the iteration give, which state shows that a budget is spent, and what is formed in the work of each round?
use Rattle.std.specs.Prelude.{ℕ, zero, suc, ◌+◌, Bool, true, false, cond, List, [], ◌∷◌, ◌++◌, length, nat_lt, nat_eq}
use Rattle.lhg_num.specs.Marked.{Marked, done, and_then, valued}
use Rattle.lhg_row.specs.Sample.{sample}
use Rattle.lhg_plant.specs.Plant.{PlainPlant}
use Rattle.lhg_plant.specs.State.{PlainState}
use Rattle.lhg_plant.specs.Region.{PlainRegion, PlainGuards}
use Rattle.lhg_plant.specs.SafeRegion.{safe_region}
use Rattle.lhg_plant.specs.BackCalculus.{guards}
use Rattle.lhg_plant.specs.Loss.{PlainLoss}
use Rattle.lhg_loss.specs.Records.{PlainRound, record_row_limit, loss_rows, one_round}

-- ---- stages
-- after a round: its region, all records, and those of this round alone
pub record PlainStage : Type 0 where
  pub region : PlainRegion
  pub losses : List PlainLoss
  pub last : List PlainLoss

-- the stage, with the mark that the rows of all records are past their limit
abbrev pub counted_stage : PlainStage → Marked PlainStage
counted_stage s = record { value = s; wide = false; rows = false; pieces = nat_lt record_row_limit (loss_rows s.losses) }

-- the stage after a round
abbrev pub after_round : PlainStage → PlainRound → PlainStage
after_round s r = record { region = r.next; losses = s.losses ++ r.losses; last = r.losses }

-- round i on the stage before it
abbrev pub next_round : PlainPlant → ℕ → PlainStage → Marked PlainRound
next_round a i s = one_round a s.region i (length s.losses + 1)

-- the stage after round i on the stage before it
abbrev pub staged : PlainPlant → ℕ → PlainStage → Marked PlainStage
staged a i s = and_then (next_round a i s) (λ r. counted_stage (after_round s r))

-- the stage of round 0, which has a region
abbrev pub first_stage : PlainRegion → PlainStage
first_stage region = record { region = region; losses = []; last = [] }

-- the stage after round i, with the marks of round i alone
unfoldable pub stage : PlainPlant → ℕ → Marked PlainStage
stage a zero = valued first_stage (safe_region a)
stage a (suc i) = staged a (suc i) (stage a i).value

-- ---- the solution
-- the first round without a record, with its region, the guards and all records; or a state that the last round of a budget removes
pub data PlainSolution : Type 0 where
  solved : (rounds : ℕ) → (region : PlainRegion) → (guards : PlainGuards) → (losses : List PlainLoss) → PlainSolution
  spent : (state : PlainState) → PlainSolution

-- there is no record
abbrev pub none_lost : List PlainLoss → Bool
none_lost [] = true
none_lost (r ∷ rs) = false

-- the sample of the first record of a round that lost something
abbrev pub spent_state : PlainPlant → List PlainLoss → Marked PlainState
spent_state a [] = done (record { loc = 0; at = [] })
spent_state a (r ∷ rs) = valued (λ x. record { loc = r.loc; at = x }) (sample (length a.vars) r.piece)

-- the solution at the stage of round i
abbrev pub solved_by : PlainPlant → ℕ → PlainStage → Marked PlainSolution
solved_by a i s = valued (λ g. solved i s.region g s.losses) (guards a s.region)

-- from the stage of round i on, for at most so many rounds more
abbrev pub solution_within : ℕ → PlainPlant → ℕ → PlainStage → PlainSolution
solution_within zero a i s = spent (spent_state a s.last).value
solution_within (suc left) a i s =
    let t = (staged a (suc i) s).value in
    let on = solution_within left a (suc i) t in
    cond (none_lost t.last) (solved_by a (suc i) t).value on

-- the solution within a budget
unfoldable pub solution : PlainPlant → ℕ → PlainSolution
solution a budget = solution_within budget a 0 (stage a 0).value

-- ---- marks
-- a calculation of which the marks alone count
abbrev pub nothing : {A : Type 0} → A → Unit {0}
nothing x = tt

-- all that is formed in the work of round i: the guards belong to the round without records, the sample to the last round of the budget
unfoldable pub work : PlainPlant → ℕ → ℕ → Marked (Unit {0})
work a budget zero = valued nothing (stage a zero)
work a budget (suc i) =
    and_then (stage a (suc i)) (λ s.
    let kept = valued nothing (guards a s.region) in
    let lost = cond (nat_eq (suc i) budget) (valued nothing (spent_state a s.last)) (done tt) in
    cond (none_lost s.last) kept lost)
