-- What does a verdict show, and which answer tells it?
use Rattle.std.proofs.Common.{◌≡◌, inl, inr, ℕ, Bool, false, List, [], ◌∷◌, ◌++◌, Result, Ok, codes, Err, IfOk, slice_get, ap, sym, ◌∙◌, subst, append_assoc, refl}
use Rattle.lhg_math.specs.Tests.{false_true}
use Rattle.lhg_num.specs.Marked.{Marked}
use Rattle.lhg_num.specs.Halting.{IsHaltedBy}
use Rattle.lhg_num.specs.declared.refusals.Halt.{Halt}
use Rattle.lhg_num.specs.declared.refusals.Halt.TheVariants.{Wide, Rows, Pieces, Memory}
use Rattle.lhg_plant.specs.Controller.{PlainController, IsValid}
use Rattle.lhg_plant.specs.Plant.{PlainPlant}
use Rattle.lhg_row_text.specs.PrintedLine.{line}
use Rattle.lhg_ctl.specs.Draft.{PlainDraft}
use Rattle.lhg_check.specs.Check.{PlainVerdict, valid, unsafe, bad_guard, escapes}
use Rattle.lhg_check.specs.CheckFacts.{IsVerdict}
use Rattle.lhg_check.specs.CheckLaws.{IsExactVerdict}
use Rattle.lhg_text.proofs.RecordPlaces.{there}
use Rattle.lhg_cli.specs.Verdict.{controller_in, check_of, KeepsWritten, verdict_text, status_of, IsPlacedVerdict, IsVerdictLine, IsCheckStop, IsChecked, IsWithinCheck, TellsHalt}
use Rattle.lhg_cli.specs.declared.solving.Answer.{Answer}
use Rattle.lhg_cli.specs.declared.status.Status.{Status}
use Rattle.lhg_cli.specs.declared.status.Status.TheVariants as status
use Rattle.lhg_cli.proofs.InputSteps.{ok_with}
use Rattle.lhg_cli.proofs.Placed.{placed_state}

-- words and a text, put together in order
pub put_together : (head name text : List ℕ) → line (((head ++ name) ++ 32 ∷ []) ++ text) ≡ line (head ++ (name ++ 32 ∷ text))
put_together head name text = ap line (append_assoc (head ++ name) (32 ∷ []) text ∙ append_assoc head name (32 ∷ text))

-- ---- the state that it shows
pub placed_verdict : (a : PlainPlant) (c : PlainController) (v : PlainVerdict) → IsVerdict a c v → IsPlacedVerdict a v
placed_verdict a c valid h = tt
placed_verdict a c (unsafe s) h = placed_state a s h.0.state
placed_verdict a c (bad_guard e s) h = (there _ a.switches e (slice_get a.switches e) refl h.breaks.0.leaves, placed_state a s h.breaks.0.state)
placed_verdict a c (escapes s) h = placed_state a s h.breaks.0.state

-- ---- the answer to it
-- it is yes
abbrev IsYes : PlainVerdict → Type 0
IsYes valid = Unit {0}
IsYes (unsafe s) = ⊥
IsYes (bad_guard e s) = ⊥
IsYes (escapes s) = ⊥

yes : (v : PlainVerdict) → v ≡ valid → IsYes v
yes v e = subst IsYes (sym e) tt

module _ (w : PlainPlant × PlainDraft) (text : List ℕ) (l : IsVerdictLine w text) where
  abbrev c : PlainController
  c = controller_in w

  no : (v : PlainVerdict) → IsExactVerdict w.0 c v → (IsYes v → ⊥) → IsChecked w status.No text
  no v exact not_yes = (λ k. not_yes (yes v (exact.at_valid.1 k)), l)

  by_verdict : (v : PlainVerdict) → IsExactVerdict w.0 c v → IsChecked w (status_of v) text
  by_verdict valid exact = (exact.at_valid.0 refl, l)
  by_verdict (unsafe s) exact = no (unsafe s) exact (λ h. h)
  by_verdict (bad_guard e s) exact = no (bad_guard e s) exact (λ h. h)
  by_verdict (escapes s) exact = no (escapes s) exact (λ h. h)

module _ (w : PlainPlant × PlainDraft) (c : PlainController) (v : PlainVerdict) (made : c ≡ controller_in w) (same : v ≡ (check_of w).value)
    (keeps : KeepsWritten w.0 w.1 c) (exact : IsExactVerdict w.0 c v) where
  exact_made : IsExactVerdict w.0 (controller_in w) v
  exact_made = subst (λ (k : PlainController). IsExactVerdict w.0 k v) made exact

  verdict_line : (text : List ℕ) → text ≡ line (verdict_text w.0 v) → IsVerdictLine w text
  verdict_line text told = record {
    keeps = subst (λ (k : PlainController). KeepsWritten w.0 w.1 k) made keeps;
    exact = subst (λ (u : PlainVerdict). IsExactVerdict w.0 (controller_in w) u) same exact_made;
    printed = told ∙ ap (λ (u : PlainVerdict). line (verdict_text w.0 u)) same;
  }

  pub told_verdict : {E : Type 0} (r : Result Answer E) → IfOk r (λ a. a.status ≡ status_of v) → IfOk r (λ a. a.text.items ≡ line (verdict_text w.0 v)) → IfOk r (λ a. IsChecked w a.status a.text.items)
  told_verdict r =
      ok_with (λ (a : Answer). a.status ≡ status_of v) (λ (a : Answer). a.text.items ≡ line (verdict_text w.0 v)) (λ (a : Answer). IsChecked w a.status a.text.items) r
      (λ a s t. subst (λ (k : Status). IsChecked w k a.text.items) (sym s) (by_verdict w a.text.items (verdict_line a.text.items t) v exact_made))

-- ---- the answer where it is not known
told_halt : {T : Type 0} (w : PlainPlant × PlainDraft) (f : T → PlainVerdict) (halt : Halt) (s : Status) (text : List ℕ) → IsHaltedBy (Err halt) (check_of w) f → TellsHalt (codes "check") halt s text → IsChecked w s text
told_halt w f Wide s text h t = subst (λ (k : Status). IsChecked w k text) (sym t.0) (record { marked = h; printed = t.1 })
told_halt w f Rows s text h t = subst (λ (k : Status). IsChecked w k text) (sym t.0) (inl (record { marked = h; printed = t.1 }))
told_halt w f Pieces s text h t = subst (λ (k : Status). IsChecked w k text) (sym t.0) (inr (record { marked = h; printed = t.1 }))
told_halt w f Memory s text h t = absurd t

pub halt_told : {T E : Type 0} (w : PlainPlant × PlainDraft) (f : T → PlainVerdict) (halt : Halt) (r : Result Answer E) → IsHaltedBy (Err halt) (check_of w) f → IfOk r (λ a. TellsHalt (codes "check") halt a.status a.text.items)
    → IfOk r (λ a. IsChecked w a.status a.text.items)
halt_told w f halt (Ok a) h t = told_halt w f halt a.status a.text.items h t
halt_told w f halt (Err e) h t = tt

-- ---- where the calculus stays within its limits there is one
no_stop : {P : Type 0} (w : PlainPlant × PlainDraft) (limit text : List ℕ) (mark : Marked PlainVerdict → Bool) → mark (check_of w) ≡ false → IsCheckStop w limit mark text → P
no_stop w limit text mark unmarked h = false_true (sym unmarked ∙ h.marked)

-- yes, where the controller is valid
pub valid_done : (w : PlainPlant × PlainDraft) → IsWithinCheck w → IsValid w.0 (controller_in w) → (s : Status) (text : List ℕ) → IsChecked w s text → s ≡ status.Done
valid_done w within is status.Done text h = refl
valid_done w within is status.No text h = absurd (h.0 is)
valid_done w within is status.Words text h = absurd h
valid_done w within is status.Text text h = absurd h
valid_done w within is status.Wide text h = no_stop w _ text _ within.numbers h
valid_done w within is status.Lists text h = elim h [ inl rows ↦ no_stop w _ text _ within.rows rows | inr pieces ↦ no_stop w _ text _ within.pieces pieces ]
valid_done w within is status.Spent text h = absurd h
valid_done w within is status.Read text h = absurd h
valid_done w within is status.Write text h = absurd h
valid_done w within is status.Memory text h = absurd h

-- else no
pub invalid_no : (w : PlainPlant × PlainDraft) → IsWithinCheck w → ¬ IsValid w.0 (controller_in w) → (s : Status) (text : List ℕ) → IsChecked w s text → s ≡ status.No
invalid_no w within not status.Done text h = absurd (not h.0)
invalid_no w within not status.No text h = refl
invalid_no w within not status.Words text h = absurd h
invalid_no w within not status.Text text h = absurd h
invalid_no w within not status.Wide text h = no_stop w _ text _ within.numbers h
invalid_no w within not status.Lists text h = elim h [ inl rows ↦ no_stop w _ text _ within.rows rows | inr pieces ↦ no_stop w _ text _ within.pieces pieces ]
invalid_no w within not status.Spent text h = absurd h
invalid_no w within not status.Read text h = absurd h
invalid_no w within not status.Write text h = absurd h
invalid_no w within not status.Memory text h = absurd h
