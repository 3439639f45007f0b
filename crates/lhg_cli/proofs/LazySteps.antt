-- Which answer tells the verdict on a candidate?
use Rattle.std.proofs.Common.{◌≡◌, inl, inr, ℕ, List, ◌++◌, Result, Ok, Err, IfOk, codes, refl, sym, ap, ◌∙◌, subst}
use Rattle.lhg_num.specs.Halting.{IsHaltedBy}
use Rattle.lhg_num.specs.declared.refusals.Halt.{Halt}
use Rattle.lhg_num.specs.declared.refusals.Halt.TheVariants.{Wide, Rows, Pieces, Memory}
use Rattle.lhg_plant.specs.Controller.{PlainController, IsValid}
use Rattle.lhg_plant.specs.Plant.{PlainPlant}
use Rattle.lhg_plant.specs.Views.{plain_state}
use Rattle.lhg_row_text.specs.PrintedLine.{line}
use Rattle.lhg_ctl.specs.ControllerText.{controller_text}
use Rattle.lhg_check.specs.Check.{PlainVerdict, valid, unsafe, bad_guard, escapes}
use Rattle.lhg_check.specs.Views.{plain_verdict}
use Rattle.lhg_check.specs.declared.verdicts.Verdict.{Verdict}
use Rattle.lhg_check.specs.declared.verdicts.Verdict.TheVariants as verdict
use Rattle.lhg_lazy.specs.Rim.{IsCandidate}
use Rattle.lhg_lazy.proofs.CutStates.{candidate-laws}
use Rattle.lhg_cli.specs.LazyAnswer.{candidate_of, trial_of, IsCutText, IsFullText, IsTried}
use Rattle.lhg_cli.specs.Verdict.{TellsHalt}
use Rattle.lhg_cli.specs.declared.solving.Answer.{Answer}
use Rattle.lhg_cli.specs.declared.status.Status.{Status}
use Rattle.lhg_cli.specs.declared.status.Status.TheVariants as status
use Rattle.lhg_cli.proofs.InputSteps.{ok_with}

-- ---- the answer where a candidate is decided
module _ (a : PlainPlant) (c d : PlainController) (made : d ≡ (candidate_of a c).value) (is : IsCandidate a c d) where
  of_calculus : IsCandidate a c (candidate_of a c).value
  of_calculus = subst (λ (k : PlainController). IsCandidate a c k) made is

  -- it is valid
  cut_text : IsValid a d → (text : List ℕ) → text ≡ line (codes "lazy cut") ++ controller_text a d → IsCutText a c text
  cut_text v text e = record {
    candidate = of_calculus;
    keeps = record {
      valid = subst (λ (k : PlainController). IsValid a k) made v;
      region = of_calculus.region;
      lies_in = (candidate-laws a c).lies_in (candidate_of a c).value of_calculus;
    };
    printed = e ∙ ap (λ (k : PlainController). line (codes "lazy cut") ++ controller_text a k) made;
  }

  -- it is not
  full_text : IsValid a c → ¬ IsValid a d → (text : List ℕ) → text ≡ line (codes "lazy full") ++ controller_text a c → IsFullText a c text
  full_text v fails text e = record {
    candidate = of_calculus;
    none_valid = λ other p w. fails (((candidate-laws a c).same other d p is).0 w);
    keeps = record { valid = v; region = refl; lies_in = λ k s g. g };
    printed = e;
  }

  pub cut_told : {E : Type 0} (r : Result Answer E) → IsValid a d → IfOk r (λ x. x.status ≡ status.Done) → IfOk r (λ x. x.text.items ≡ line (codes "lazy cut") ++ controller_text a d) → IfOk r (λ x. IsTried a c x.status x.text.items)
  cut_told r v =
      ok_with (λ (x : Answer). x.status ≡ status.Done) (λ (x : Answer). x.text.items ≡ line (codes "lazy cut") ++ controller_text a d) (λ (x : Answer). IsTried a c x.status x.text.items) r
      (λ x s t. subst (λ (k : Status). IsTried a c k x.text.items) (sym s) (inl (cut_text v x.text.items t)))

  pub full_told : {E : Type 0} (r : Result Answer E) → IsValid a c → ¬ IsValid a d → IfOk r (λ x. x.status ≡ status.Done) → IfOk r (λ x. x.text.items ≡ line (codes "lazy full") ++ controller_text a c) → IfOk r (λ x. IsTried a c x.status x.text.items)
  full_told r v fails =
      ok_with (λ (x : Answer). x.status ≡ status.Done) (λ (x : Answer). x.text.items ≡ line (codes "lazy full") ++ controller_text a c) (λ (x : Answer). IsTried a c x.status x.text.items) r
      (λ x s t. subst (λ (k : Status). IsTried a c k x.text.items) (sym s) (inr (full_text v fails x.text.items t)))

-- the verdict of the code is valid exactly where the plain one is
pub says_valid : (v : Verdict) → plain_verdict v ≡ valid → v ≡ verdict.Valid
says_valid verdict.Valid e = refl
says_valid (verdict.Unsafe s) e = absurd (unlike e)
  where
    unlike : unsafe (plain_state s) ≡ valid → ⊥
    unlike e = cc
says_valid (verdict.BadGuard k s) e = absurd (unlike e)
  where
    unlike : bad_guard k (plain_state s) ≡ valid → ⊥
    unlike e = cc
says_valid (verdict.Escapes s) e = absurd (unlike e)
  where
    unlike : escapes (plain_state s) ≡ valid → ⊥
    unlike e = cc

-- ---- the answer where it is not
halted : {T : Type 0} (a : PlainPlant) (c : PlainController) (f : T → PlainVerdict) (halt : Halt) (s : Status) (text : List ℕ) → IsHaltedBy (Err halt) (trial_of a c) f → TellsHalt (codes "lazy") halt s text → IsTried a c s text
halted a c f Wide s text h t = subst (λ (k : Status). IsTried a c k text) (sym t.0) (record { marked = h; printed = t.1 })
halted a c f Rows s text h t = subst (λ (k : Status). IsTried a c k text) (sym t.0) (inl (record { marked = h; printed = t.1 }))
halted a c f Pieces s text h t = subst (λ (k : Status). IsTried a c k text) (sym t.0) (inr (record { marked = h; printed = t.1 }))
halted a c f Memory s text h t = absurd t

pub halt_tried : {T E : Type 0} (a : PlainPlant) (c : PlainController) (f : T → PlainVerdict) (halt : Halt) (r : Result Answer E) → IsHaltedBy (Err halt) (trial_of a c) f → IfOk r (λ x. TellsHalt (codes "lazy") halt x.status x.text.items)
    → IfOk r (λ x. IsTried a c x.status x.text.items)
halt_tried a c f halt (Ok x) h t = halted a c f halt x.status x.text.items h t
halt_tried a c f halt (Err e) h t = tt
