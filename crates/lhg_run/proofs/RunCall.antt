-- Why a run stops at an entry, and what it keeps.
use Rattle.std.proofs.Common.{◌≡◌, ℕ, zero, suc, ◌+◌, ◌<◌, List, [], ◌∷◌, ◌++◌, length, take, get_or, slice_get, add-one, Bool, Some, Result, Ok, Err, sym, ap, ◌∙◌, subst, arith}
use Rattle.std.specs.Prelude.{IfErr}
use Rattle.std.specs.Result.{IsErrAnd}
use Rattle.lhg_math.specs.Tests.{AllOf}
use Rattle.lhg_num.specs.declared.refusals.Halt.{Halt}
use Rattle.lhg_num.specs.declared.refusals.Halt.TheVariants.{Wide, Rows, Pieces, Memory}
use Rattle.lhg_plant.specs.Plant.{PlainPlant}
use Rattle.lhg_plant.specs.State.{PlainState}
use Rattle.lhg_plant.specs.Controller.{PlainController}
use Rattle.lhg_plant.specs.Pick.{picks}
use Rattle.lhg_plant.specs.Run.{PlainEntry, PlainStep, RunPlace, IsLegalEntry, IsRun}
use Rattle.lhg_plant.specs.Log.{IsFirstIllegal}
use Rattle.lhg_plant.proofs.StaysInside.{IsKept}
use Rattle.lhg_run.specs.Answers.{IsAnswered, IsTraceBefore}
use Rattle.lhg_run.specs.Numbers.{IsWideEntry, IsLongEntry}
use Rattle.lhg_run.specs.Seen.{running_place, IsStanding}
use Rattle.lhg_run.specs.Stop.{IsStop}
use Rattle.lhg_run.specs.StopFor.{stop_for}
use Rattle.lhg_ctl.specs.LogViews.{plain_entry}
use Rattle.lhg_run.specs.Views.{plain_entries}
use Rattle.lhg_ctl.specs.declared.entries.Entry.{Entry}
use Rattle.lhg_run.specs.declared.running.Running.{Running}
use Rattle.lhg_run.specs.declared.stops.RunStop.{RunStop}
use Rattle.lhg_run.proofs.RunSteps.{run-illegal, turn}
use Rattle.lhg_run.proofs.SightSteps.{there_short}

-- an error that is handed on
pub err_on : {T E : Type 0} (r : Result T E) (e : E) (P : E → Type 0) → IsErrAnd r (λ d. d ≡ e) → P e → IfErr r P
err_on (Ok x) e P i h = tt
err_on (Err d) e P i h = subst P (sym i) h

-- the entry at a place
pub entry-there : (log : List Entry) (i : ℕ) (entry : Entry) → entry ≡ get_or log i entry → i < length log → slice_get (plain_entries log) i ≡ Some (plain_entry entry)
entry-there [] i entry is h = absurd (omega arith)
entry-there (x ∷ log) zero entry is h = ap (λ (y : Entry). Some (plain_entry y)) (sym is)
entry-there (x ∷ log) (suc i) entry is h = entry-there log i entry is (omega arith)

-- what holds of each entry holds of the one at a place
pub entry-at : (P : PlainEntry → Type 0) (log : List Entry) (i : ℕ) (entry : Entry) → AllOf P (plain_entries log) → i < length log → entry ≡ get_or log i entry → P (plain_entry entry)
entry-at P [] i entry h l is = absurd (omega arith)
entry-at P (x ∷ log) zero entry h l is = subst (λ (y : Entry). P (plain_entry y)) (sym is) h.0
entry-at P (x ∷ log) (suc i) entry h l is = entry-at P log i entry h.1 (omega arith) is

-- one entry more
pub take-entry : (entries : List PlainEntry) (i : ℕ) (entry : PlainEntry) → slice_get entries i ≡ Some entry → take (i + 1) entries ≡ take i entries ++ entry ∷ []
take-entry [] i entry is = absurd (missing i is)
  where
    missing : (i : ℕ) → slice_get [] i ≡ Some entry → ⊥
    missing i e = cc
take-entry (x ∷ entries) zero entry is = let same : x ≡ entry = cc in ap (λ y. y ∷ []) same
take-entry (x ∷ entries) (suc i) entry is =
    let rec = take-entry entries i entry is in
    ap (λ k. take k (x ∷ entries)) (add-one (suc i)) ∙ ap (λ us. x ∷ us) (ap (λ k. take k entries) (sym (add-one i)) ∙ rec)

-- a run that keeps its place stands in the region
pub kept-standing : (a : PlainPlant) (c : PlainController) (r : Running) → IsKept a c (running_place r) → IsStanding a c r
kept-standing a c r h = record { inside = h.inside; pending = λ e k. there_short a.switches e (λ w. w.from ≡ r.state.loc) (h.pending e k).leaves }

module _ (a : PlainPlant) (c : PlainController) (start : PlainState) (entries : List PlainEntry) (k : ℕ) (entry : PlainEntry) (is : slice_get entries k ≡ Some entry)
    (trace : List PlainStep) (place : RunPlace) (run : IsRun (picks a c.region) a c start (take k entries) trace place) where
  -- the entry is the first that is not legal
  pub illegal-at : ¬ IsLegalEntry a place entry → (n : ℕ) → n ≡ k + 1 → (told : List PlainStep) → told ≡ trace → IsFirstIllegal (picks a c.region) a c start entries n × IsTraceBefore a c start entries n told
  illegal-at not n e told f =
      let number : n ≡ suc k = e ∙ add-one k in
      subst (λ m. IsFirstIllegal (picks a c.region) a c start entries m × IsTraceBefore a c start entries m told) (sym number)
      (run-illegal a c k start entries trace place entry run is not, (place, subst (λ w. IsRun (picks a c.region) a c start (take k entries) w place) (sym f) run))

  -- a number or a list of the entry is refused
  halted-for : (halt : Halt) (P : Bool → Type 0) → IsAnswered {T = Bool} (Err halt) P (IsWideEntry a c place entry) (IsLongEntry a c place entry) → IsStop a c start entries (stop_for (suc k) halt)
  halted-for Wide P h = turn a c start entries k entry trace place (IsWideEntry a c) is run h
  halted-for Rows P h = turn a c start entries k entry trace place (IsLongEntry a c) is run h
  halted-for Pieces P h = absurd h
  halted-for Memory P h = tt

  pub halted-at : (halt : Halt) (P : Bool → Type 0) (n : ℕ) (stop : RunStop) → n ≡ k + 1 → stop ≡ stop_for n halt
      → IsAnswered {T = Bool} (Err halt) P (IsWideEntry a c place entry) (IsLongEntry a c place entry) → IsStop a c start entries stop
  halted-at halt P n stop e f h =
      let number : n ≡ suc k = e ∙ add-one k in
      subst (IsStop a c start entries) (sym (f ∙ ap (λ m. stop_for m halt) number)) (halted-for halt P h)

-- ---- entries
-- what is told where the run stands at equal places and entries
pub taken-at : {T : Type 0} (r : Result T Halt) (P : RunPlace → PlainEntry → T → Type 0) (W R : RunPlace → PlainEntry → Type 0) (place at : RunPlace) (entry this : PlainEntry) → place ≡ at → entry ≡ this
    → IsAnswered r (P at this) (W at this) (R at this) → IsAnswered r (P place entry) (W place entry) (R place entry)
taken-at r P W R place at entry this e f h =
    subst (λ p. IsAnswered r (P p entry) (W p entry) (R p entry)) (sym e) (subst (λ x. IsAnswered r (P at x) (W at x) (R at x)) (sym f) h)
