-- Which marks are those of a stage, and which stops of the stages are stops of the iteration?
use Rattle.std.proofs.Common.{◌≡◌, ◌≤◌, ◌<◌, ℕ, zero, suc, Bool, true, false, Result, Ok, Err, refl, sym, subst, arith}
use Rattle.std.specs.Prelude.{IfErr, nat_eq, cond}
use Rattle.std.specs.Result.{IsErrAnd}
use Rattle.lhg_num.specs.Marked.{Marked, done, valued}
use Rattle.lhg_num.specs.MarkedLaws.{IsPart, and_then-part, and_then-rest, rest_part, part_self}
use Rattle.lhg_num.specs.Halting.{IsHaltedBy, IsHaltedByRows}
use Rattle.lhg_num.specs.declared.refusals.Halt.{Halt}
use Rattle.lhg_num.specs.declared.refusals.Halt.TheVariants as halt
use Rattle.lhg_plant.specs.Plant.{PlainPlant}
use Rattle.lhg_plant.specs.BackCalculus.{guards}
use Rattle.lhg_plant.specs.SafeRegion.{safe_region}
use Rattle.lhg_loss.specs.Iterate.{PlainStage, stage, next_round, after_round, counted_stage, none_lost, nothing, spent_state, work}
use Rattle.lhg_loss.specs.LimitFacts.{IsComputed}
use Rattle.lhg_loss.specs.WorkLaws.{IsStopIn}
use Rattle.lhg_loss.proofs.Works.{work_laws}
use Rattle.lhg_iterate.specs.Outcomes.{IsStoppedBy, stop_of}
use Rattle.lhg_iterate.specs.Stops.{IsStageStopIn, IsStageStop, IsSpentStop}
use Rattle.lhg_iterate.specs.declared.stops.Stop.{Stop}
use Rattle.lhg_iterate.specs.declared.stops.Stop.TheVariants.{Wide, Rows, Pieces, Spent, Memory}

-- ---- marks of a stage
-- those of the safe region
pub stage-safe : (a : PlainPlant) → IsPart (stage a 0) (safe_region a)
unfolding stage
stage-safe a = record { wide = λ h. h; rows = λ h. h; pieces = λ h. h }

-- those of the round
pub stage-round : (a : PlainPlant) (i : ℕ) → IsPart (stage a (suc i)) (next_round a (suc i) (stage a i).value)
unfolding stage
stage-round a i = and_then-part (next_round a (suc i) (stage a i).value) (λ r. counted_stage (after_round (stage a i).value r))

-- those of the totals of its records
pub stage-totals : (a : PlainPlant) (i : ℕ) → IsPart (stage a (suc i)) (counted_stage (after_round (stage a i).value (next_round a (suc i) (stage a i).value).value))
unfolding stage
stage-totals a i =
    let before = (stage a i).value in
    let r = next_round a (suc i) before in
    let next = counted_stage (after_round before r.value) in
    rest_part (stage a (suc i)) next next (and_then-rest r (λ x. counted_stage (after_round before x))) (part_self next)

-- they are marks of the work of its round
work-stage : (a : PlainPlant) (budget i : ℕ) → IsPart (work a budget i) (stage a i)
unfolding work
work-stage a budget zero = record { wide = λ h. h; rows = λ h. h; pieces = λ h. h }
work-stage a budget (suc i) =
    and_then-part (stage a (suc i)) (λ (s : PlainStage).
    let kept = valued nothing (guards a s.region) in
    let lost = cond (nat_eq (suc i) budget) (valued nothing (spent_state a s.last)) (done tt) in
    cond (none_lost s.last) kept lost)

-- ---- halts
-- a halt of a part of a stage that is computed
pub stage_stop : {T A : Type 0} (a : PlainPlant) (budget i number : ℕ) (e : Halt) (part : Marked A) (f : T → A) → number ≡ i → i ≤ budget → IsComputed a i → IsPart (stage a i) part
    → IsHaltedBy {T = T} (Err e) part f → IsStageStop a budget i (stop_of e number)
stage_stop a budget i number halt.Wide part f same within computed p h = record { number_is = same; within = within; computed = computed; marked = p.wide h }
stage_stop a budget i number halt.Rows part f same within computed p h = record { number_is = same; within = within; computed = computed; marked = p.rows h }
stage_stop a budget i number halt.Pieces part f same within computed p h = record { number_is = same; within = within; computed = computed; marked = p.pieces h }
stage_stop a budget i number halt.Memory part f same within computed p h = tt

-- the same of a part that halts for numbers and rows
pub stage_stop_rows : {T A : Type 0} (a : PlainPlant) (budget i number : ℕ) (e : Halt) (part : Marked A) (f : T → A) → number ≡ i → i ≤ budget → IsComputed a i → IsPart (stage a i) part
    → IsHaltedByRows {T = T} (Err e) part f → IsStageStop a budget i (stop_of e number)
stage_stop_rows a budget i number halt.Wide part f same within computed p h = record { number_is = same; within = within; computed = computed; marked = p.wide h }
stage_stop_rows a budget i number halt.Rows part f same within computed p h = record { number_is = same; within = within; computed = computed; marked = p.rows h }
stage_stop_rows a budget i number halt.Pieces part f same within computed p h = absurd h
stage_stop_rows a budget i number halt.Memory part f same within computed p h = tt

-- a halt of the sample of the last round, for numbers and rows
pub sample_stop : {T A : Type 0} (a : PlainPlant) (budget : ℕ) (e : Halt) (part : Marked A) (f : T → A) → IsComputed a budget → none_lost (stage a budget).value.last ≡ false
    → IsPart (spent_state a (stage a budget).value.last) part → IsHaltedByRows {T = T} (Err e) part f → IsSpentStop a budget (stop_of e budget)
sample_stop a budget halt.Wide part f computed lost p h = record { last = refl; computed = computed; lost = lost; marked = p.wide h }
sample_stop a budget halt.Rows part f computed lost p h = record { last = refl; computed = computed; lost = lost; marked = p.rows h }
sample_stop a budget halt.Pieces part f computed lost p h = absurd h
sample_stop a budget halt.Memory part f computed lost p h = tt

-- ---- stops
-- a limit of the stage is one of the work
stage_in : (a : PlainPlant) (budget i k : ℕ) (mark : Marked (Unit {0}) → Bool) → (mark (valued nothing (stage a i)) ≡ true → mark (work a budget i) ≡ true) → IsStageStopIn a budget i k mark → IsStopIn a budget k mark
stage_in a budget i k mark part h =
    subst (λ j. IsStopIn a budget j mark) (sym h.number_is) (record { within = h.within; computed = h.computed; marked = part h.marked })

-- the iteration stops where there is no further stage
pub stage_stops : (a : PlainPlant) (budget i : ℕ) (e : Stop) → IsStageStop a budget i e → IsStoppedBy a budget e
stage_stops a budget i (Wide k) h = stage_in a budget i k (λ m. m.wide) (work-stage a budget i).wide h
stage_stops a budget i (Rows k) h = stage_in a budget i k (λ m. m.rows) (work-stage a budget i).rows h
stage_stops a budget i (Pieces k) h = stage_in a budget i k (λ m. m.pieces) (work-stage a budget i).pieces h
stage_stops a budget i (Spent s) h = absurd h
stage_stops a budget i Memory h = tt

-- the marks of the sample are those of the work of the last round
work-sample : (a : PlainPlant) (budget i : ℕ) → 0 < budget → i ≡ budget → none_lost (stage a i).value.last ≡ false → IsPart (work a budget i) (spent_state a (stage a i).value.last)
work-sample a budget zero some last lost = absurd (omega arith)
work-sample a budget (suc j) some last lost = (work_laws a budget j).lost last lost

-- and where the budget is spent, or its sample is refused
pub spent_stops : (a : PlainPlant) (budget : ℕ) (e : Stop) → 0 < budget → IsSpentStop a budget e → IsStoppedBy a budget e
spent_stops a budget (Wide i) some h = record { within = let l = h.last in omega arith; computed = h.computed; marked = (work-sample a budget i some h.last h.lost).wide h.marked }
spent_stops a budget (Rows i) some h = record { within = let l = h.last in omega arith; computed = h.computed; marked = (work-sample a budget i some h.last h.lost).rows h.marked }
spent_stops a budget (Pieces i) some h = absurd h
spent_stops a budget (Spent s) some h = h
spent_stops a budget Memory some h = tt

-- an answer that a stage refuses
pub refused_stage : {T : Type 0} (a : PlainPlant) (budget i : ℕ) (r : Result T Stop) (e : Stop) → IsErrAnd r (λ d. d ≡ e) → IsStageStop a budget i e → IfErr r (IsStoppedBy a budget)
refused_stage a budget i (Ok x) e t h = tt
refused_stage a budget i (Err d) e t h = subst (IsStoppedBy a budget) (sym t) (stage_stops a budget i e h)
