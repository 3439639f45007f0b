-- A plant whose outcome is determined has that answer, and any other input is refused.
use Rattle.std.proofs.Common.{◌≡◌, ◌<◌, ◌≤◌, ℕ, Bool, false, List, Option, Some, None, IfSome, ◌⊎◌, inl, inr, refl, sym, ◌∙◌, subst}
use Rattle.lhg_lex.specs.Lines.{lines_of}
use Rattle.lhg_math.specs.Tests.{false_true}
use Rattle.lhg_num.specs.Marked.{Marked}
use Rattle.lhg_plant.specs.Plant.{PlainPlant}
use Rattle.lhg_plant.specs.Proper.{IsProper}
use Rattle.lhg_read.specs.PlantText.{IsPlantText}
use Rattle.lhg_read.proofs.TextLawProofs.{plant_reading}
use Rattle.lhg_loss.specs.Iterate.{work}
use Rattle.lhg_loss.specs.LimitFacts.{IsComputed}
use Rattle.lhg_loss.specs.StageFacts.{RemovesSome}
use Rattle.lhg_loss.proofs.LastRounds.{last_law}
use Rattle.lhg_loss.proofs.Seeking.{outcome_laws}
use Rattle.lhg_gen.specs.GeneratedPlant.{generated_plant}
use Rattle.lhg_input.specs.Inputs.{IsControllerInput, IsInitInput, IsLogInput}
use Rattle.lhg_input.proofs.InitWholes.{inits_one}
use Rattle.lhg_input.proofs.Wholes.{controllers_one, logs_one}
use Rattle.lhg_cli.specs.Answer.{IsAnswer, AnswersBytes, IsTextFor, IsSolvable, IsUsedUp}
use Rattle.lhg_cli.specs.InputAnswer.{IsInput}
use Rattle.lhg_cli.specs.LazyAnswer.{IsLazied, IsLazySolvable}
use Rattle.lhg_cli.specs.Migration.{IsMigrated}
use Rattle.lhg_cli.specs.PlantAnswer.{IsOutcome, IsReport, IsStopped, IsSynthesis}
use Rattle.lhg_cli.specs.ReachAnswer.{IsReached, IsExplorable, IsEndless}
use Rattle.lhg_cli.specs.RunAnswer.{IsRan, IsRunnable, IsUnrunnable, IsSureRun}
use Rattle.lhg_cli.specs.SpoilAnswer.{IsSpoilable, IsSureSpoil}
use Rattle.lhg_cli.specs.StateAnswer.{IsExplainable, IsSureStatus}
use Rattle.lhg_cli.specs.Settling.{IsWithin, IsSettled, IsUnsettled}
use Rattle.lhg_cli.specs.Summary.{IsSummary}
use Rattle.lhg_cli.specs.Verdict.{IsChecked, IsValidInput, IsInvalidInput}
use Rattle.lhg_cli.specs.Words.{Asks, NeedsInput, AsksSynth, AsksExplain, AsksLazy, AsksSpoil, AsksReach, AsksGen, AskForInput, most_rounds}
use Rattle.lhg_cli.specs.declared.request.Request.{Request}
use Rattle.lhg_cli.specs.declared.request.Request.TheVariants.{Synth, Check, Run, Explain, Migrate, Lazy, Spoil, Reach, Gen}
use Rattle.lhg_cli.specs.declared.status.Status.{Status}
use Rattle.lhg_cli.specs.declared.status.Status.TheVariants as status
use Rattle.lhg_cli.proofs.AnswerSteps.{its_answer, its_bytes}
use Rattle.lhg_cli.proofs.GeneratedGame.{settles}
use Rattle.lhg_cli.proofs.InputSteps.{of_value, no_value}
use Rattle.lhg_cli.proofs.LazyComplete.{lazy_done, lazy_spent}
use Rattle.lhg_cli.proofs.ReachComplete.{reached_done, reached_spent}
use Rattle.lhg_cli.proofs.RunAnswers.{sure_ran, not_ran}
use Rattle.lhg_cli.proofs.SeekComplete.{sure_of}
use Rattle.lhg_cli.proofs.SpoilComplete.{sure_spoil_of}
use Rattle.lhg_cli.proofs.VerdictSteps.{valid_done, invalid_no}
use Rattle.lhg_cli.proofs.WordSteps.{one_request}

-- ---- a plant that is settled within the budget
module _ (tells : List ℕ → Type 0) (a : PlainPlant) (n : ℕ) (proper : IsProper a) (t : IsSettled a n) where
  -- no limit is passed
  no_stop : {P : Type 0} (limit text : List ℕ) (mark : Marked (Unit {0}) → Bool) → ((i : ℕ) → i ≤ t.round → mark (work a n i) ≡ false) → IsStopped a n limit mark text → P
  no_stop limit text mark unmarked h = let upto = last_law a n t.round h.round proper t.last t.limits.pieces h.stop.computed in false_true (sym (unmarked h.round upto) ∙ h.stop.marked)

  settled_done : (s : Status) (text : List ℕ) → IsOutcome tells a n s text → (s ≡ status.Done) ⊎ (s ≡ status.Memory)
  settled_done status.Done text h = inl refl
  settled_done status.No text h = absurd h
  settled_done status.Words text h = absurd h
  settled_done status.Text text h = absurd h
  settled_done status.Wide text h = no_stop _ text _ t.limits.numbers h
  settled_done status.Lists text h = elim h [ inl rows ↦ no_stop _ text _ t.limits.rows rows | inr pieces ↦ no_stop _ text _ t.limits.pieces pieces ]
  settled_done status.Spent text h = absurd ((outcome_laws a n).not_spent h.state t.round h.removed t.last t.within)
  settled_done status.Read text h = absurd h
  settled_done status.Write text h = absurd h
  settled_done status.Memory text h = absurd h

-- ---- a plant of which not each round removes a state
module _ (tells : List ℕ → Type 0) (a : PlainPlant) (n : ℕ) (t : IsWithin a n) (ends : ((j : ℕ) → 0 < j → j ≤ n → RemovesSome a j) → ⊥) where
  no_mark : {P : Type 0} (limit text : List ℕ) (mark : Marked (Unit {0}) → Bool) → ((i : ℕ) → i ≤ n → IsComputed a i → mark (work a n i) ≡ false) → IsStopped a n limit mark text → P
  no_mark limit text mark unmarked h = false_true (sym (unmarked h.round h.stop.within h.stop.computed) ∙ h.stop.marked)

  within_done : (s : Status) (text : List ℕ) → IsOutcome tells a n s text → (s ≡ status.Done) ⊎ (s ≡ status.Memory)
  within_done status.Done text h = inl refl
  within_done status.No text h = absurd h
  within_done status.Words text h = absurd h
  within_done status.Text text h = absurd h
  within_done status.Wide text h = no_mark _ text _ t.numbers h
  within_done status.Lists text h = elim h [ inl rows ↦ no_mark _ text _ t.rows rows | inr pieces ↦ no_mark _ text _ t.pieces pieces ]
  within_done status.Spent text h = absurd (ends h.removed.removes)
  within_done status.Read text h = absurd h
  within_done status.Write text h = absurd h
  within_done status.Memory text h = absurd h

-- ---- a plant that is not settled, where no text tells of a solution
module _ (tells : List ℕ → Type 0) (a : PlainPlant) (n : ℕ) (t : IsUnsettled a n) (untold : (text : List ℕ) → tells text → ⊥) where
  no_limit : {P : Type 0} (limit text : List ℕ) (mark : Marked (Unit {0}) → Bool) → ((i : ℕ) → i ≤ n → mark (work a n i) ≡ false) → IsStopped a n limit mark text → P
  no_limit limit text mark unmarked h = false_true (sym (unmarked h.round h.stop.within) ∙ h.stop.marked)

  unsettled_spent : (s : Status) (text : List ℕ) → IsOutcome tells a n s text → (s ≡ status.Spent) ⊎ (s ≡ status.Memory)
  unsettled_spent status.Done text h = absurd (untold text h)
  unsettled_spent status.No text h = absurd h
  unsettled_spent status.Words text h = absurd h
  unsettled_spent status.Text text h = absurd h
  unsettled_spent status.Wide text h = no_limit _ text _ t.limits.numbers h
  unsettled_spent status.Lists text h = elim h [ inl rows ↦ no_limit _ text _ t.limits.rows rows | inr pieces ↦ no_limit _ text _ t.limits.pieces pieces ]
  unsettled_spent status.Spent text h = inl refl
  unsettled_spent status.Read text h = absurd h
  unsettled_spent status.Write text h = absurd h
  unsettled_spent status.Memory text h = absurd h

-- no report tells of one
no_report : (a : PlainPlant) (n : ℕ) → IsUnsettled a n → (text : List ℕ) → IsReport a n text → ⊥
no_report a n t text h = (outcome_laws a n).not_solved h.controller h.rounds h.losses h.solves t.removes

-- ---- an input
module _ (n : ℕ) (bytes : List ℕ) (s : Status) (text : List ℕ) (h : AnswersBytes (Synth n) bytes s text) where
  -- an answer to an input is one to the plant that it is
  of_plant : (t : IsInput IsPlantText bytes) → IsSynthesis n t.value s text
  of_plant t = of_value IsPlantText (IsSynthesis n) bytes (plant_reading.one_value (lines_of bytes)) t s text h

  solvable_done : IsSolvable bytes n → (s ≡ status.Done) ⊎ (s ≡ status.Memory)
  solvable_done t = let p = of_plant t.input in settled_done (IsReport t.input.value n) t.input.value n p.0 t.settled s text p.1

  used_up_spent : IsUsedUp bytes n → (s ≡ status.Spent) ⊎ (s ≡ status.Memory)
  used_up_spent t = let p = of_plant t.input in unsettled_spent (IsReport t.input.value n) t.input.value n t.unsettled (no_report t.input.value n t.unsettled) s text p.1

-- ---- words
module _ (words : List (List ℕ)) (P Q : Type 0) (s : Status) (text : List ℕ) where
  -- the answer to a source that tells its bytes
  to_bytes : (r : Request) → NeedsInput r → (bytes : List ℕ) → IsAnswer words (Some bytes) s text → Asks words r → AnswersBytes r bytes s text
  to_bytes r needs bytes h asked = its_bytes r needs bytes s text (its_answer words (Some bytes) s text r asked h)

  pub complete : (input : Option (List ℕ)) → IsAnswer words input s text → (n : ℕ) → AsksSynth words n
      → IfSome input (λ bytes. IsSolvable bytes n → P → Q → (s ≡ status.Done) ⊎ (s ≡ status.Memory))
  complete None h n asked = tt
  complete (Some bytes) h n asked = λ t p q. solvable_done n bytes s text (to_bytes (Synth n) tt bytes h asked) t

  pub used_up : (input : Option (List ℕ)) → IsAnswer words input s text → (n : ℕ) → AsksSynth words n
      → IfSome input (λ bytes. IsUsedUp bytes n → P → Q → (s ≡ status.Spent) ⊎ (s ≡ status.Memory))
  used_up None h n asked = tt
  used_up (Some bytes) h n asked = λ t p q. used_up_spent n bytes s text (to_bytes (Synth n) tt bytes h asked) t

  -- an input that is no text of what is asked for
  no_text : (r : Request) (bytes : List ℕ) → AnswersBytes r bytes s text → ¬ IsTextFor r bytes → s ≡ status.Text
  no_text (Gen k) bytes h t = absurd h
  no_text r bytes h t = no_value bytes s text t h

  pub refused : (input : Option (List ℕ)) → IsAnswer words input s text → (r : Request) → Asks words r
      → IfSome input (λ bytes. ¬ IsTextFor r bytes → P → Q → (s ≡ status.Text) ⊎ (s ≡ status.Memory))
  refused None h r asked = tt
  refused (Some bytes) h (Gen k) asked = λ t p q. absurd (t tt)
  refused (Some bytes) h r asked = λ t p q. inl (no_text r bytes (to_bytes r tt bytes h asked) t)

  -- what is checked is a controller that is written, and what is migrated too
  checked : (bytes : List ℕ) → IsAnswer words (Some bytes) s text → Asks words Check → (input : IsInput IsControllerInput bytes) → IsChecked input.value s text
  checked bytes h asked input = of_value IsControllerInput IsChecked bytes (controllers_one.one_value (lines_of bytes)) input s text (to_bytes Check tt bytes h asked)

  pub valid : (input : Option (List ℕ)) → IsAnswer words input s text → Asks words Check
      → IfSome input (λ bytes. IsValidInput bytes → P → Q → (s ≡ status.Done) ⊎ (s ≡ status.Memory))
  valid None h asked = tt
  valid (Some bytes) h asked = λ t p q. inl (valid_done t.decided.input.value t.decided.limits t.holds s text (checked bytes h asked t.decided.input))

  pub invalid : (input : Option (List ℕ)) → IsAnswer words input s text → Asks words Check
      → IfSome input (λ bytes. IsInvalidInput bytes → P → Q → (s ≡ status.No) ⊎ (s ≡ status.Memory))
  invalid None h asked = tt
  invalid (Some bytes) h asked = λ t p q. inl (invalid_no t.decided.input.value t.decided.limits t.fails s text (checked bytes h asked t.decided.input))

  pub migrated : (input : Option (List ℕ)) → IsAnswer words input s text → Asks words Migrate
      → IfSome input (λ bytes. IsTextFor Migrate bytes → P → Q → (s ≡ status.Done) ⊎ (s ≡ status.Memory))
  migrated None h asked = tt
  migrated (Some bytes) h asked = λ t p q.
      inl (of_value IsControllerInput IsMigrated bytes (controllers_one.one_value (lines_of bytes)) t s text (to_bytes Migrate tt bytes h asked)).0

  -- a controller that is written runs over a log that is recorded
  run_over : (bytes : List ℕ) → IsAnswer words (Some bytes) s text → Asks words Run → (input : IsInput IsLogInput bytes) → IsRan input.value s text
  run_over bytes h asked input = of_value IsLogInput IsRan bytes (logs_one.one_value (lines_of bytes)) input s text (to_bytes Run tt bytes h asked)

  pub ran : (input : Option (List ℕ)) → IsAnswer words input s text → Asks words Run
      → IfSome input (λ bytes. (t : IsRunnable bytes) → P → Q → IsSureRun t.input.value s ⊎ (s ≡ status.Memory))
  ran None h asked = tt
  ran (Some bytes) h asked = λ t p q. inl (sure_ran t.input.value t.limits t.valid s text (run_over bytes h asked t.input))

  pub unrun : (input : Option (List ℕ)) → IsAnswer words input s text → Asks words Run
      → IfSome input (λ bytes. IsUnrunnable bytes → P → Q → (s ≡ status.No) ⊎ (s ≡ status.Memory))
  unrun None h asked = tt
  unrun (Some bytes) h asked = λ t p q. inl (not_ran t.input.value t.limits t.fails s text (run_over bytes h asked t.input))

  pub explained : (input : Option (List ℕ)) → IsAnswer words input s text → (n : ℕ) → AsksExplain words n
      → IfSome input (λ bytes. (t : IsExplainable n bytes) → P → Q → IsSureStatus n t.input.value s ⊎ (s ≡ status.Memory))
  explained None h n asked = tt
  explained (Some bytes) h n asked = λ t p q.
      inl (sure_of n bytes t.input s text (to_bytes (Explain n) tt bytes h asked) t.limits)

  -- a plant for which a controller is asked that switches at the rim alone
  lazied : (bytes : List ℕ) → IsAnswer words (Some bytes) s text → (n : ℕ) → AsksLazy words n → (input : IsInput IsPlantText bytes) → IsLazied n input.value s text
  lazied bytes h n asked input = of_value IsPlantText (IsLazied n) bytes (plant_reading.one_value (lines_of bytes)) input s text (to_bytes (Lazy n) tt bytes h asked)

  pub lazy : (input : Option (List ℕ)) → IsAnswer words input s text → (n : ℕ) → AsksLazy words n
      → IfSome input (λ bytes. IsLazySolvable bytes n → P → Q → (s ≡ status.Done) ⊎ (s ≡ status.Memory))
  lazy None h n asked = tt
  lazy (Some bytes) h n asked = λ t p q. let l = lazied bytes h n asked t.input in lazy_done t.input.value n l.0 s text l.1 (λ stop. settled_done (λ told. ⊥) t.input.value n l.0 t.settled s text stop) t.limits

  pub lazy_used_up : (input : Option (List ℕ)) → IsAnswer words input s text → (n : ℕ) → AsksLazy words n
      → IfSome input (λ bytes. IsUsedUp bytes n → P → Q → (s ≡ status.Spent) ⊎ (s ≡ status.Memory))
  lazy_used_up None h n asked = tt
  lazy_used_up (Some bytes) h n asked = λ t p q.
      let l = lazied bytes h n asked t.input in lazy_spent t.input.value n t.unsettled.removes s text l.1 (λ stop. unsettled_spent (λ told. ⊥) t.input.value n t.unsettled (λ told h. h) s text stop)

  pub spoiled : (input : Option (List ℕ)) → IsAnswer words input s text → (n : ℕ) → AsksSpoil words n
      → IfSome input (λ bytes. (t : IsSpoilable n bytes) → P → Q → IsSureSpoil n t.input.value s ⊎ (s ≡ status.Memory))
  spoiled None h n asked = tt
  spoiled (Some bytes) h n asked = λ t p q.
      inl (sure_spoil_of n bytes t.input s text (to_bytes (Spoil n) tt bytes h asked) t.limits)

  -- a plant and first states, of which it is asked where they lead
  reached_by : (bytes : List ℕ) → IsAnswer words (Some bytes) s text → (n : ℕ) → AsksReach words n → (input : IsInput IsInitInput bytes) → IsReached n input.value s text
  reached_by bytes h n asked input = of_value IsInitInput (IsReached n) bytes (inits_one.one_value (lines_of bytes)) input s text (to_bytes (Reach n) tt bytes h asked)

  pub reach : (input : Option (List ℕ)) → IsAnswer words input s text → (n : ℕ) → AsksReach words n
      → IfSome input (λ bytes. IsExplorable n bytes → P → Q → (s ≡ status.Done) ⊎ (s ≡ status.Memory))
  reach None h n asked = tt
  reach (Some bytes) h n asked = λ t p q. reached_done t.input.value n t.level t.last t.within t.limits s text (reached_by bytes h n asked t.input)

  pub reach_endless : (input : Option (List ℕ)) → IsAnswer words input s text → (n : ℕ) → AsksReach words n
      → IfSome input (λ bytes. IsEndless n bytes → P → Q → (s ≡ status.Spent) ⊎ (s ≡ status.Memory))
  reach_endless None h n asked = tt
  reach_endless (Some bytes) h n asked = λ t p q. reached_spent t.input.value n t.adds t.limits s text (reached_by bytes h n asked t.input)

-- ---- a generated plant
module _ (words : List (List ℕ)) (input : Option (List ℕ)) (s : Status) (text : List ℕ) (h : IsAnswer words input s text) (k : ℕ) (asked : AsksGen words k) where
  pub generated : IsWithin (generated_plant k) most_rounds → (s ≡ status.Done) ⊎ (s ≡ status.Memory)
  generated t = within_done (IsSummary k) (generated_plant k) most_rounds t (λ removes. settles k asked.1 removes) s text (its_answer words input s text (Gen k) asked h)

-- for it nothing is read
pub gen_unread : (words : List (List ℕ)) (k : ℕ) → AsksGen words k → ¬ AskForInput words
gen_unread words k asked (r, h, needs) = subst NeedsInput (one_request words r (Gen k) h asked) needs
