-- Where nothing but the trial can stop an answer, what is its status?
use Rattle.std.proofs.Common.{◌≡◌, ◌<◌, ◌≤◌, ◌⊎◌, inl, inr, ℕ, Bool, false, List, refl, sym, ◌∙◌}
use Rattle.lhg_math.specs.Tests.{false_true}
use Rattle.lhg_num.specs.Marked.{Marked}
use Rattle.lhg_plant.specs.Controller.{PlainController}
use Rattle.lhg_plant.specs.Plant.{PlainPlant}
use Rattle.lhg_plant.specs.Proper.{IsProper}
use Rattle.lhg_loss.specs.StageFacts.{RemovesSome}
use Rattle.lhg_loss.proofs.Seeking.{outcome_laws}
use Rattle.lhg_check.specs.Check.{PlainVerdict}
use Rattle.lhg_cli.specs.LazyAnswer.{IsSynthesised, trial_of, IsTrialStop, IsTried, IsTriedText, IsWithinTrial}
use Rattle.lhg_cli.specs.PlantAnswer.{IsStopText}
use Rattle.lhg_cli.specs.declared.status.Status.{Status}
use Rattle.lhg_cli.specs.declared.status.Status.TheVariants as status

-- a trial within its limits is not stopped
module _ (a : PlainPlant) (c : PlainController) (t : IsWithinTrial a c) where
  no_stop : {P : Type 0} (limit text : List ℕ) (mark : Marked PlainVerdict → Bool) → mark (trial_of a c) ≡ false → IsTrialStop a c limit mark text → P
  no_stop limit text mark unmarked h = false_true (sym unmarked ∙ h.marked)

  tried_done : (s : Status) (text : List ℕ) → IsTried a c s text → (s ≡ status.Done) ⊎ (s ≡ status.Memory)
  tried_done status.Done text h = inl refl
  tried_done status.No text h = absurd h
  tried_done status.Words text h = absurd h
  tried_done status.Text text h = absurd h
  tried_done status.Wide text h = no_stop _ text _ t.numbers h
  tried_done status.Lists text h = elim h [ inl rows ↦ no_stop _ text _ t.rows rows | inr pieces ↦ no_stop _ text _ t.pieces pieces ]
  tried_done status.Spent text h = absurd h
  tried_done status.Read text h = absurd h
  tried_done status.Write text h = absurd h
  tried_done status.Memory text h = absurd h

-- a plant that is settled has its controller, where its trial stays within its limits
pub lazy_done : (a : PlainPlant) (n : ℕ) → IsProper a → (s : Status) (text : List ℕ) → IsTriedText a n s text ⊎ IsStopText a n s text → (IsStopText a n s text → (s ≡ status.Done) ⊎ (s ≡ status.Memory))
    → ((c : PlainController) → IsSynthesised a n c → IsWithinTrial a c) → (s ≡ status.Done) ⊎ (s ≡ status.Memory)
lazy_done a n proper s text (inl h) stop limits = tried_done a h.controller (limits h.controller h.synthesised) s text h.told
lazy_done a n proper s text (inr h) stop limits = stop h

-- a plant each round of which removes a state has none to try
pub lazy_spent : (a : PlainPlant) (n : ℕ) → ((j : ℕ) → 0 < j → j ≤ n → RemovesSome a j) → (s : Status) (text : List ℕ) → IsTriedText a n s text ⊎ IsStopText a n s text → (IsStopText a n s text → (s ≡ status.Spent) ⊎ (s ≡ status.Memory))
    → (s ≡ status.Spent) ⊎ (s ≡ status.Memory)
lazy_spent a n removes s text (inl h) stop = absurd ((outcome_laws a n).not_solved h.controller h.synthesised.rounds h.synthesised.losses h.synthesised.solves removes)
lazy_spent a n removes s text (inr h) stop = stop h
