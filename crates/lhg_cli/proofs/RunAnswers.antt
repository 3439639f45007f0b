-- Where does a run over a log have a sure answer?
use Rattle.std.proofs.Common.{◌≡◌, ℕ, List, Result, IfOk, inl, inr, refl, sym, ◌∙◌}
use Rattle.lhg_lex.specs.Lines.{lines_of}
use Rattle.lhg_math.specs.Tests.{false_true}
use Rattle.lhg_plant.specs.Controller.{PlainController, IsValid}
use Rattle.lhg_plant.specs.Inside.{IsRegionInside}
use Rattle.lhg_plant.specs.Pick.{picks}
use Rattle.lhg_plant.specs.Plant.{PlainPlant}
use Rattle.lhg_plant.proofs.LogDecided.{legal_or_illegal}
use Rattle.lhg_ctl.specs.Conditions.{IsInsideController}
use Rattle.lhg_ctl.specs.Draft.{PlainDraft}
use Rattle.lhg_ctl.specs.LogText.{PlainLog}
use Rattle.lhg_check.specs.CheckFacts.{IsCheckable}
use Rattle.lhg_check.proofs.CheckGuards.{region_over}
use Rattle.lhg_input.specs.Inputs.{IsLogInput}
use Rattle.lhg_input.proofs.Wholes.{logs_one}
use Rattle.lhg_cli.specs.InputAnswer.{IsInput, IsBytesAnswer}
use Rattle.lhg_cli.specs.RunAnswer.{IsRunOutcome, IsCheckNo, IsRan, IsWithinRun, IsSureRun}
use Rattle.lhg_cli.specs.Verdict.{controller_in, IsWithinCheck}
use Rattle.lhg_cli.specs.declared.solving.Answer.{Answer}
use Rattle.lhg_cli.specs.declared.status.Status.{Status}
use Rattle.lhg_cli.specs.declared.status.Status.TheVariants as status
use Rattle.lhg_cli.proofs.AnswerSteps.{ok_by}
use Rattle.lhg_cli.proofs.InputSteps.{of_value}

-- the region of a controller that lies inside the invariants does so too
pub inside_region : (a : PlainPlant) (c : PlainController) → IsInsideController a c → IsRegionInside a c.region
inside_region a c h =
    let checkable : IsCheckable a c = record {
      region_is = record { listed = h.locs; polys = h.region_polys; inside = h.inside.region };
      guard_polys = h.guard_polys;
      guards_inside = h.inside.guards;
      uncontrollable = h.ctl;
    } in
    record { over = region_over a c checkable; inside = h.inside.region }

-- ---- where the answer is sure
module _ (input : (PlainPlant × PlainDraft) × PlainLog) (t : IsWithinRun input) (is : IsValid input.0.0 (controller_in input.0)) where
  by_check : (s : Status) (text : List ℕ) → IsCheckNo input.0 s text → ⊥
  by_check status.Done text h = h
  by_check status.No text h = h.0 is
  by_check status.Words text h = h
  by_check status.Text text h = h
  by_check status.Wide text h = false_true (sym t.check.numbers ∙ h.marked)
  by_check status.Lists text (inl h) = false_true (sym t.check.rows ∙ h.marked)
  by_check status.Lists text (inr h) = false_true (sym t.check.pieces ∙ h.marked)
  by_check status.Spent text h = h
  by_check status.Read text h = h
  by_check status.Write text h = h
  by_check status.Memory text h = h

  by_run : (s : Status) (text : List ℕ) → IsRunOutcome input.0.0 (controller_in input.0) input.1.start input.1.entries s text → IsSureRun input s
  by_run status.Done text h = inl (refl, h.is_trace.legal)
  by_run status.No text h = inr (refl, λ legal. legal_or_illegal (picks input.0.0 (controller_in input.0).region) input.0.0 (controller_in input.0) input.1.start input.1.entries h.number legal h.illegal)
  by_run status.Words text h = absurd h
  by_run status.Text text h = absurd h
  by_run status.Wide text h = absurd (t.numbers h.number h.stop)
  by_run status.Lists text h = absurd (t.rows h.number h.stop)
  by_run status.Spent text h = absurd h
  by_run status.Read text h = absurd h
  by_run status.Write text h = absurd h
  by_run status.Memory text h = absurd h

  pub sure_ran : (s : Status) (text : List ℕ) → IsRan input s text → IsSureRun input s
  sure_ran s text (inl h) = absurd (by_check s text h)
  sure_ran s text (inr h) = by_run s text h.outcome

-- ---- where the controller is not valid
module _ (input : (PlainPlant × PlainDraft) × PlainLog) (t : IsWithinCheck input.0) (fails : ¬ IsValid input.0.0 (controller_in input.0)) where
  told_no : (s : Status) (text : List ℕ) → IsCheckNo input.0 s text → s ≡ status.No
  told_no status.Done text h = absurd h
  told_no status.No text h = refl
  told_no status.Words text h = absurd h
  told_no status.Text text h = absurd h
  told_no status.Wide text h = false_true (sym t.numbers ∙ h.marked)
  told_no status.Lists text (inl h) = false_true (sym t.rows ∙ h.marked)
  told_no status.Lists text (inr h) = false_true (sym t.pieces ∙ h.marked)
  told_no status.Spent text h = absurd h
  told_no status.Read text h = absurd h
  told_no status.Write text h = absurd h
  told_no status.Memory text h = absurd h

  pub not_ran : (s : Status) (text : List ℕ) → IsRan input s text → s ≡ status.No
  not_ran s text (inl h) = told_no s text h
  not_ran s text (inr h) = absurd (fails h.valid)

-- ---- an input
pub sure_run : {E : Type 0} (bytes : List ℕ) (r : Result Answer E) → IfOk r (λ a. IsBytesAnswer IsLogInput IsRan bytes a.status a.text.items)
    → IfOk r (λ a. (input : IsInput IsLogInput bytes) → IsWithinRun input.value → IsValid input.value.0.0 (controller_in input.value.0) → IsSureRun input.value a.status)
sure_run bytes r =
    ok_by (λ (a : Answer). IsBytesAnswer IsLogInput IsRan bytes a.status a.text.items)
    (λ (a : Answer). (input : IsInput IsLogInput bytes) → IsWithinRun input.value → IsValid input.value.0.0 (controller_in input.value.0) → IsSureRun input.value a.status) r
    (λ a h input t is. sure_ran input.value t is a.status a.text.items (of_value IsLogInput IsRan bytes (logs_one.one_value (lines_of bytes)) input a.status a.text.items h))
