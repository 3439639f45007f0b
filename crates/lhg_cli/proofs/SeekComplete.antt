-- Where no limit is passed, what becomes of a state is told, or the budget is spent; and what is told is told exactly where it is so.
use Rattle.std.proofs.Common.{◌≡◌, ◌≤◌, ℕ, Bool, false, List, inl, inr, refl, sym, ◌∙◌, codes}
use Rattle.lhg_lex.specs.Lines.{lines_of}
use Rattle.lhg_math.specs.Tests.{false_true}
use Rattle.lhg_num.specs.Marked.{Marked}
use Rattle.lhg_plant.specs.Plant.{PlainPlant}
use Rattle.lhg_plant.specs.State.{PlainState}
use Rattle.lhg_plant.specs.Loss.{PlainLoss}
use Rattle.lhg_iterate.specs.Seeking.{IsLost, IsWideState}
use Rattle.lhg_iterate.specs.SeekWork.{IsUndecided, seek_work}
use Rattle.lhg_iterate.specs.SeekLaws.{SoughtLaws}
use Rattle.lhg_iterate.proofs.SoughtAnswers.{sought_laws}
use Rattle.lhg_input.specs.Inputs.{IsStateInput}
use Rattle.lhg_input.proofs.Wholes.{states_one}
use Rattle.lhg_cli.specs.InputAnswer.{IsInput, IsBytesAnswer}
use Rattle.lhg_cli.specs.StateAnswer.{IsNotLostText, IsTold, IsUnsoughtText, IsStateAnswer, IsSeekLimit, IsSoughtWithin, IsWithinSeek, IsStillIn, IsSureStatus, IsToldExactly}
use Rattle.lhg_cli.specs.declared.status.Status.{Status}
use Rattle.lhg_cli.specs.declared.status.Status.TheVariants as status
use Rattle.lhg_cli.proofs.InputSteps.{of_value}

module _ (budget : ℕ) (a : PlainPlant) (z : PlainState) where
  abbrev laws : SoughtLaws a budget z
  laws = sought_laws a budget z

  -- what is told is not told of a state that is still in the last round
  pub not_lost_out : (text : List ℕ) → IsNotLostText a budget z text → ¬ IsStillIn budget (a, z)
  not_lost_out text (inl outside) k = outside.1 (laws.spent_safe k.kept).state
  not_lost_out text (inr (inl unsafe)) k = unsafe.2 (laws.spent_safe k.kept)
  not_lost_out text (inr (inr kept)) k = let removed = k.removes kept.rounds kept.kept.last.counted kept.kept.within in kept.kept.last.settled removed.0 removed.1

  told_out : (text : List ℕ) → IsTold a budget z text → ¬ IsStillIn budget (a, z)
  told_out text (inl told) k = not_lost_out text told k
  told_out text (inr lost) k = laws.lost_not_spent lost.number lost.losses lost.lost k.kept

  -- nor of one that is lost
  pub not_lost : (text : List ℕ) → IsNotLostText a budget z text → (m : ℕ) (losses : List PlainLoss) → ¬ IsLost a budget m losses z
  not_lost text (inl outside) m ls l = outside.1 (laws.lost_safe m ls l).state
  not_lost text (inr (inl unsafe)) m ls l = unsafe.2 (laws.lost_safe m ls l)
  not_lost text (inr (inr kept)) m ls l = laws.kept_not_lost kept.rounds m ls kept.kept l

  told_exactly : (text : List ℕ) → IsTold a budget z text → IsToldExactly budget (a, z) text
  told_exactly text (inl (inl outside)) =
      record {
        outside = λ o. outside.0;
        unsafe = λ s u. absurd (outside.1 s);
        kept = λ r k. absurd (outside.1 (laws.kept_safe r k).state);
        lost = λ m ls l. absurd (not_lost text (inl outside) m ls l);
      }
  told_exactly text (inl (inr (inl unsafe))) =
      record {
        outside = λ o. absurd (o unsafe.1);
        unsafe = λ s u. unsafe.0;
        kept = λ r k. absurd (unsafe.2 (laws.kept_safe r k));
        lost = λ m ls l. absurd (not_lost text (inr (inl unsafe)) m ls l);
      }
  told_exactly text (inl (inr (inr kept))) =
      record {
        outside = λ o. absurd (o (laws.kept_safe kept.rounds kept.kept).state);
        unsafe = λ s u. absurd (u (laws.kept_safe kept.rounds kept.kept));
        kept = λ r k. kept.printed;
        lost = λ m ls l. absurd (not_lost text (inr (inr kept)) m ls l);
      }
  told_exactly text (inr lost) =
      record {
        outside = λ o. absurd (o (laws.lost_safe lost.number lost.losses lost.lost).state);
        unsafe = λ s u. absurd (u (laws.lost_safe lost.number lost.losses lost.lost));
        kept = λ r k. absurd (laws.kept_not_lost r lost.number lost.losses k lost.lost);
        lost = λ m ls l. lost;
      }

  -- no number is too wide at the state
  pub narrow : IsSoughtWithin budget a z → IsWideState a budget z → ⊥
  narrow t (inl invariant) = false_true (sym t.invariant ∙ invariant)
  narrow t (inr (inl safe)) = false_true (sym t.safe ∙ safe)
  narrow t (inr (inr held)) = false_true (sym (t.records held.round held.counted held.within held.undecided) ∙ held.wide)

  -- and no limit is passed in the work of a round
  pub unpassed : {P : Type 0} (limit : List ℕ) (mark : Marked (Unit {0}) → Bool) (text : List ℕ) → ((i : ℕ) → i ≤ budget → IsUndecided a i z → mark (seek_work a budget z i) ≡ false) → IsSeekLimit a budget z limit mark text → P
  unpassed limit mark text h work = false_true (sym (h work.round work.stop.within work.stop.undecided) ∙ work.stop.marked)

  module _ (t : IsWithinSeek budget (a, z)) where
    sure_status : (s : Status) (text : List ℕ) → IsStateAnswer budget (a, z) s text → IsSureStatus budget (a, z) s
    sure_status status.Done text h = inl (refl, told_out text h)
    sure_status status.No text h = absurd h
    sure_status status.Words text h = absurd h
    sure_status status.Text text h = absurd h
    sure_status status.Wide text (inl wide) = absurd (narrow t.sought wide.wide)
    sure_status status.Wide text (inr (inl work)) = unpassed (codes "wide") (λ m. m.wide) text t.sought.numbers work
    sure_status status.Wide text (inr (inr way)) = false_true (sym (t.explained_numbers way.number way.losses way.lost) ∙ way.marked)
    sure_status status.Lists text (inl work) = unpassed (codes "rows") (λ m. m.rows) text t.sought.rows work
    sure_status status.Lists text (inr (inl work)) = unpassed (codes "pieces") (λ m. m.pieces) text t.sought.pieces work
    sure_status status.Lists text (inr (inr way)) = false_true (sym (t.explained_rows way.number way.losses way.lost) ∙ way.marked)
    sure_status status.Spent text h = inr (refl, record { removes = h.removed.removes; kept = h.kept })
    sure_status status.Read text h = absurd h
    sure_status status.Write text h = absurd h
    sure_status status.Memory text h = absurd h

-- what is not told of a sought state is not explained
pub unsought_answer : (budget : ℕ) (a : PlainPlant) (z : PlainState) (s : Status) (text : List ℕ) → IsUnsoughtText budget (a, z) s text → IsStateAnswer budget (a, z) s text
unsought_answer budget a z status.Done text h = absurd h
unsought_answer budget a z status.No text h = h
unsought_answer budget a z status.Words text h = h
unsought_answer budget a z status.Text text h = h
unsought_answer budget a z status.Wide text (inl wide) = inl wide
unsought_answer budget a z status.Wide text (inr work) = inr (inl work)
unsought_answer budget a z status.Lists text (inl rows) = inl rows
unsought_answer budget a z status.Lists text (inr pieces) = inr (inl pieces)
unsought_answer budget a z status.Spent text h = h
unsought_answer budget a z status.Read text h = h
unsought_answer budget a z status.Write text h = h
unsought_answer budget a z status.Memory text h = h

exactly_of : (budget : ℕ) (a : PlainPlant) (z : PlainState) (s : Status) (text : List ℕ) → s ≡ status.Done → IsStateAnswer budget (a, z) s text → IsToldExactly budget (a, z) text
exactly_of budget a z status.Done text e h = told_exactly budget a z text h
exactly_of budget a z status.No text e h = absurd cc
exactly_of budget a z status.Words text e h = absurd cc
exactly_of budget a z status.Text text e h = absurd cc
exactly_of budget a z status.Wide text e h = absurd cc
exactly_of budget a z status.Lists text e h = absurd cc
exactly_of budget a z status.Spent text e h = absurd cc
exactly_of budget a z status.Read text e h = absurd cc
exactly_of budget a z status.Write text e h = absurd cc
exactly_of budget a z status.Memory text e h = absurd cc

-- ---- an input
module _ (budget : ℕ) (bytes : List ℕ) (input : IsInput IsStateInput bytes) (s : Status) (text : List ℕ) (h : IsBytesAnswer IsStateInput (IsStateAnswer budget) bytes s text) where
  its : IsStateAnswer budget input.value s text
  its = of_value IsStateInput (IsStateAnswer budget) bytes (states_one.one_value (lines_of bytes)) input s text h

  pub sure_of : IsWithinSeek budget input.value → IsSureStatus budget input.value s
  sure_of t = sure_status budget input.value.0 input.value.1 t s text its

  pub exactly_told : s ≡ status.Done → IsToldExactly budget input.value text
  exactly_told e = exactly_of budget input.value.0 input.value.1 s text e its
