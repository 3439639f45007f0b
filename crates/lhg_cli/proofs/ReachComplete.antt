-- Where some level adds nothing, or each one adds a state, and no limit is passed, what is the status?
use Rattle.std.proofs.Common.{◌≡◌, ◌<◌, ◌≤◌, ◌⊎◌, inl, inr, ℕ, Bool, true, false, List, refl, sym, ◌∙◌, arith}
use Rattle.std.proofs.lemmas.Bool.{cases_lt}
use Rattle.lhg_math.specs.Tests.{false_true}
use Rattle.lhg_num.specs.Marked.{Marked}
use Rattle.lhg_forward.specs.InitStates.{InInit}
use Rattle.lhg_forward.specs.Level.{AddsSome, IsLastLevel}
use Rattle.lhg_cli.specs.ReachAnswer.{PlantInit, reach_work, IsReachStop, IsReachLimit, IsReached, IsWithinLevels}
use Rattle.lhg_cli.specs.declared.status.Status.{Status}
use Rattle.lhg_cli.specs.declared.status.Status.TheVariants as status

module _ (v : PlantInit) (budget : ℕ) where
  -- a limit is not passed in a level without its mark
  no_limit : {P : Type 0} (level : ℕ) (limit text : List ℕ) (mark : Marked (Unit {0}) → Bool) → ((i : ℕ) → IsReachStop v budget i mark → i ≤ level) → ((i : ℕ) → i ≤ level → mark (reach_work v budget i) ≡ false) → IsReachLimit v budget limit mark text → P
  no_limit level limit text mark upto unmarked h = false_true (sym (unmarked h.level (upto h.level h.stop)) ∙ h.stop.marked)

  -- ---- some level adds nothing
  module _ (level : ℕ) (last : IsLastLevel v.0 (InInit v.0 v.1) level) (within : level ≤ budget) (t : IsWithinLevels v budget level) where
    -- no later level is worked on
    upto : (mark : Marked (Unit {0}) → Bool) (i : ℕ) → IsReachStop v budget i mark → i ≤ level
    upto mark i h = elim (cases_lt level i) [ inl less ↦ (let x = h.adds level last.counted less in absurd (last.settled x.0 x.1)) | inr few ↦ few ]

    pub reached_done : (s : Status) (text : List ℕ) → IsReached budget v s text → (s ≡ status.Done) ⊎ (s ≡ status.Memory)
    reached_done status.Done text h = inl refl
    reached_done status.No text h = absurd h
    reached_done status.Words text h = absurd h
    reached_done status.Text text h = absurd h
    reached_done status.Wide text h = no_limit level _ text _ (upto _) t.numbers h
    reached_done status.Lists text h = elim h [ inl rows ↦ no_limit level _ text _ (upto _) t.rows rows | inr pieces ↦ no_limit level _ text _ (upto _) t.pieces pieces ]
    reached_done status.Spent text h = let x = h.spent.adds level last.counted within in absurd (last.settled x.0 x.1)
    reached_done status.Read text h = absurd h
    reached_done status.Write text h = absurd h
    reached_done status.Memory text h = absurd h

  -- ---- each level adds a state
  module _ (adds : (j : ℕ) → 0 < j → j ≤ budget → AddsSome v.0 (InInit v.0 v.1) j) (t : IsWithinLevels v budget budget) where
    inside : (mark : Marked (Unit {0}) → Bool) (i : ℕ) → IsReachStop v budget i mark → i ≤ budget
    inside mark i h = h.within

    pub reached_spent : (s : Status) (text : List ℕ) → IsReached budget v s text → (s ≡ status.Spent) ⊎ (s ≡ status.Memory)
    reached_spent status.Done text h = let e = h.explored in let x = adds h.rounds e.last.counted e.within in absurd (e.last.settled x.0 x.1)
    reached_spent status.No text h = absurd h
    reached_spent status.Words text h = absurd h
    reached_spent status.Text text h = absurd h
    reached_spent status.Wide text h = no_limit budget _ text _ (inside _) t.numbers h
    reached_spent status.Lists text h = elim h [ inl rows ↦ no_limit budget _ text _ (inside _) t.rows rows | inr pieces ↦ no_limit budget _ text _ (inside _) t.pieces pieces ]
    reached_spent status.Spent text h = inl refl
    reached_spent status.Read text h = absurd h
    reached_spent status.Write text h = absurd h
    reached_spent status.Memory text h = absurd h
