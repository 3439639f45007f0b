-- What the stages say of a state that is sought.
use Rattle.std.proofs.Common.{◌≡◌, ◌<◌, ◌≤◌, ℕ, suc, Bool, true, cond, None, Result, Ok, Err, sym, subst, arith, eq-eqb}
use Rattle.std.specs.Prelude.{IfErr, nat_eq}
use Rattle.std.specs.Result.{IsErrAnd}
use Rattle.lhg_num.specs.Marked.{Marked, done, and_then, valued}
use Rattle.lhg_num.specs.MarkedLaws.{IsPart, and_then-part, and_then-rest, rest_part, part_self}
use Rattle.lhg_plant.specs.Plant.{PlainPlant}
use Rattle.lhg_plant.specs.State.{PlainState, IsSafe}
use Rattle.lhg_plant.specs.Round.{InRound}
use Rattle.lhg_plant.proofs.Rounds.{round_safe, rounds_shrink}
use Rattle.lhg_loss.specs.Holding.{holding}
use Rattle.lhg_loss.specs.Iterate.{PlainStage, stage, nothing, spent_state}
use Rattle.lhg_loss.specs.StageFacts.{RemovesSome}
use Rattle.lhg_iterate.specs.SeekWork.{IsUndecided, kept_work, seek_work}
use Rattle.lhg_iterate.specs.Seeking.{IsSeekStopIn, IsSeekStopped}
use Rattle.lhg_iterate.specs.Stops.{IsStageStopIn, IsStageStop, IsSampleStopIn, IsSpentStop}
use Rattle.lhg_iterate.specs.declared.seeking.SeekStop.{SeekStop}
use Rattle.lhg_iterate.specs.declared.seeking.SeekStop.TheVariants.{Stop}
use Rattle.lhg_iterate.specs.declared.stops.Stop.{Stop as Refusal}
use Rattle.lhg_iterate.specs.declared.stops.Stop.TheVariants as stop

-- ---- rounds
-- the next round is undecided for a state of round i, where each round so far removes a state
pub undecided_next : (a : PlainPlant) (i : ℕ) (z : PlainState) → ((j : ℕ) → 0 < j → j ≤ i → RemovesSome a j) → InRound a i z → IsUndecided a (suc i) z
undecided_next a i z removes k = record {
  safe = round_safe a i z k;
  kept = λ j l. rounds_shrink a j i z (omega arith) k;
  removes = λ j above l. removes j above (omega arith);
}

-- and so is round i
pub undecided_here : (a : PlainPlant) (i : ℕ) (z : PlainState) → ((j : ℕ) → 0 < j → j ≤ i → RemovesSome a j) → InRound a i z → IsUndecided a i z
undecided_here a i z removes k = record {
  safe = round_safe a i z k;
  kept = λ j l. rounds_shrink a j i z (omega arith) k;
  removes = λ j above l. removes j above (omega arith);
}

-- round 0 is undecided for a safe state
pub undecided_first : (a : PlainPlant) (z : PlainState) → IsSafe a z → IsUndecided a 0 z
undecided_first a z safe = record { safe = safe; kept = λ j l. absurd (omega arith); removes = λ j above l. absurd (omega arith) }

-- ---- work
-- the marks of a stage
seek-stage : (a : PlainPlant) (budget : ℕ) (z : PlainState) (i : ℕ) → IsPart (seek_work a budget z i) (stage a i)
unfolding seek_work
seek-stage a budget z i =
    and_then-part (stage a i) (λ (s : PlainStage).
    let last = kept_work a s.last (holding z s.last).value in
    cond (nat_eq i budget) last (done tt))

-- those of the sample of the last round, no record of which holds the state
seek-sample : (a : PlainPlant) (budget : ℕ) (z : PlainState) (i : ℕ) → i ≡ budget → (holding z (stage a i).value.last).value ≡ None → IsPart (seek_work a budget z i) (spent_state a (stage a i).value.last)
unfolding seek_work
seek-sample a budget z i last none =
    let losses = (stage a i).value.last in
    let sampled = valued nothing (spent_state a losses) in
    let beside = λ (s : PlainStage). (let last = kept_work a s.last (holding z s.last).value in cond (nat_eq i budget) last (done tt)) in
    let whole = and_then (stage a i) beside in
    let kept : IsPart whole (kept_work a losses (holding z losses).value) =
    subst (λ b. IsPart whole (cond b (kept_work a losses (holding z losses).value) (done tt))) (eq-eqb i budget last) (rest_part whole (beside (stage a i).value) (beside (stage a i).value) (and_then-rest (stage a i) beside) (part_self (beside (stage a i).value))) in
    let here : IsPart whole sampled = subst (λ o. IsPart whole (kept_work a losses o)) none kept in
    record { wide = here.wide; rows = here.rows; pieces = here.pieces }

-- ---- stops
stage_in : (a : PlainPlant) (budget : ℕ) (z : PlainState) (i k : ℕ) (mark : Marked (Unit {0}) → Bool) → (mark (valued nothing (stage a i)) ≡ true → mark (seek_work a budget z i) ≡ true) → IsUndecided a i z
    → IsStageStopIn a budget i k mark → IsSeekStopIn a budget z k mark
stage_in a budget z i k mark part u h =
    subst (λ j. IsSeekStopIn a budget z j mark) (sym h.number_is) (record { within = h.within; computed = h.computed; undecided = u; marked = part h.marked })

-- there is no further stage
pub seek_stage : (a : PlainPlant) (budget : ℕ) (z : PlainState) (i : ℕ) (e : Refusal) → IsUndecided a i z → IsStageStop a budget i e → IsSeekStopped a budget z (Stop e)
seek_stage a budget z i (stop.Wide k) u h = stage_in a budget z i k (λ m. m.wide) (seek-stage a budget z i).wide u h
seek_stage a budget z i (stop.Rows k) u h = stage_in a budget z i k (λ m. m.rows) (seek-stage a budget z i).rows u h
seek_stage a budget z i (stop.Pieces k) u h = stage_in a budget z i k (λ m. m.pieces) (seek-stage a budget z i).pieces u h
seek_stage a budget z i (stop.Spent s) u h = absurd h
seek_stage a budget z i stop.Memory u h = tt

sample_in : (a : PlainPlant) (budget : ℕ) (z : PlainState) (i : ℕ) (mark : Marked (Unit {0}) → Bool) → (mark (valued nothing (spent_state a (stage a i).value.last)) ≡ true → mark (seek_work a budget z i) ≡ true) → IsUndecided a i z
    → IsSampleStopIn a budget i mark → IsSeekStopIn a budget z i mark
sample_in a budget z i mark part u h = record { within = let l = h.last in omega arith; computed = h.computed; undecided = u; marked = part h.marked }

-- the budget is spent, or its sample is refused
pub seek_spent : (a : PlainPlant) (budget : ℕ) (z : PlainState) (e : Refusal) → InRound a budget z → IsUndecided a budget z → (holding z (stage a budget).value.last).value ≡ None → IsSpentStop a budget e → IsSeekStopped a budget z (Stop e)
seek_spent a budget z (stop.Wide i) kept u none h =
    sample_in a budget z i (λ m. m.wide) (seek-sample a budget z i h.last (subst (λ j. (holding z (stage a j).value.last).value ≡ None) (sym h.last) none)).wide (subst (λ j. IsUndecided a j z) (sym h.last) u) h
seek_spent a budget z (stop.Rows i) kept u none h =
    sample_in a budget z i (λ m. m.rows) (seek-sample a budget z i h.last (subst (λ j. (holding z (stage a j).value.last).value ≡ None) (sym h.last) none)).rows (subst (λ j. IsUndecided a j z) (sym h.last) u) h
seek_spent a budget z (stop.Pieces i) kept u none h = absurd h
seek_spent a budget z (stop.Spent s) kept u none h = (h.0, h.1, kept)
seek_spent a budget z stop.Memory kept u none h = tt

-- ---- answers
-- a refusal that is handed on
pub handed_on : {T : Type 0} (a : PlainPlant) (budget : ℕ) (z : PlainState) (r : Result T SeekStop) (e : SeekStop) → IsErrAnd r (λ d. d ≡ e) → IsSeekStopped a budget z e → IfErr r (IsSeekStopped a budget z)
handed_on a budget z (Ok x) e t h = tt
handed_on a budget z (Err d) e t h = subst (IsSeekStopped a budget z) (sym t) h
