-- Where no limit is passed, the exchanges are told to their end or to the first move that is not legal, or the budget is spent.
use Rattle.std.proofs.Common.{◌≡◌, ℕ, Bool, List, inl, inr, refl, sym, ap, ◌∙◌, subst, codes}
use Rattle.lhg_lex.specs.Lines.{lines_of}
use Rattle.lhg_num.specs.Marked.{Marked}
use Rattle.lhg_plant.specs.Loss.{PlainLoss}
use Rattle.lhg_plant.specs.Plant.{PlainPlant}
use Rattle.lhg_plant.specs.State.{PlainState}
use Rattle.lhg_plant.proofs.Rounds.{removed_once}
use Rattle.lhg_loss.specs.Iterate.{stage}
use Rattle.lhg_iterate.specs.Seeking.{IsLost}
use Rattle.lhg_iterate.proofs.SoughtAnswers.{sought_laws}
use Rattle.lhg_spoil.specs.Exchanges.{IsFirstIllegal}
use Rattle.lhg_spoil.specs.Moves.{PlainCtlMove}
use Rattle.lhg_spoil.specs.Stops.{IsMarkedIn}
use Rattle.lhg_spoil.specs.Exchange.{stands_at}
use Rattle.lhg_spoil.proofs.Determined.{spoils_or_illegal}
use Rattle.lhg_input.specs.Inputs.{IsSpoilInput}
use Rattle.lhg_input.proofs.MovesWholes.{spoils_one}
use Rattle.lhg_cli.specs.InputAnswer.{IsInput, IsBytesAnswer}
use Rattle.lhg_cli.specs.SpoilAnswer.{IsWonText, IsExchangeText, IsSpoilOutcome, IsWithinSpoil, HasIllegalMove, IsSureSpoil}
use Rattle.lhg_cli.specs.StateAnswer.{IsUnsoughtText, IsStillIn}
use Rattle.lhg_cli.specs.declared.status.Status.{Status}
use Rattle.lhg_cli.specs.declared.status.Status.TheVariants as status
use Rattle.lhg_cli.proofs.InputSteps.{of_value}
use Rattle.lhg_cli.proofs.SeekComplete.{not_lost_out, not_lost, narrow, unpassed}

-- the records of a lost state are determined
one_list : (a : PlainPlant) (budget m n : ℕ) (ls ks : List PlainLoss) (z : PlainState) → IsLost a budget m ls z → IsLost a budget n ks z → ls ≡ ks
one_list a budget m n ls ks z h k = h.same ∙ ap (λ (i : ℕ). (stage a i).value.losses) (removed_once a h.round k.round z h.removed k.removed) ∙ sym k.same

-- what is not told of a sought state is not told of moves
pub unsought_outcome : (budget : ℕ) (a : PlainPlant) (z : PlainState) (moves : List PlainCtlMove) (s : Status) (text : List ℕ) → IsUnsoughtText budget (a, z) s text → IsSpoilOutcome budget ((a, z), moves) s text
unsought_outcome budget a z moves status.Done text h = absurd h
unsought_outcome budget a z moves status.No text h = absurd h
unsought_outcome budget a z moves status.Words text h = h
unsought_outcome budget a z moves status.Text text h = h
unsought_outcome budget a z moves status.Wide text (inl wide) = inl wide
unsought_outcome budget a z moves status.Wide text (inr work) = inr (inl work)
unsought_outcome budget a z moves status.Lists text h = inl h
unsought_outcome budget a z moves status.Spent text h = h
unsought_outcome budget a z moves status.Read text h = h
unsought_outcome budget a z moves status.Write text h = h
unsought_outcome budget a z moves status.Memory text h = h

module _ (budget : ℕ) (a : PlainPlant) (z : PlainState) (moves : List PlainCtlMove) where
  abbrev value : (PlainPlant × PlainState) × List PlainCtlMove
  value = ((a, z), moves)

  -- what is won is not told of a state that is still in the last round, nor where some move is not legal
  won_out : (text : List ℕ) → IsWonText a budget z moves text → ¬ IsStillIn budget (a, z)
  won_out text h k = (sought_laws a budget z).lost_not_spent h.number h.losses h.lost k.kept

  won_legal : (text : List ℕ) → IsWonText a budget z moves text → ¬ HasIllegalMove budget value
  won_legal text h k =
      let illegal : IsFirstIllegal a h.losses z moves k.move k.steps =
      subst (λ (ls : List PlainLoss). IsFirstIllegal a ls z moves k.move k.steps) (one_list a budget k.number h.number k.losses h.losses z k.lost h.lost) k.first in
      spoils_or_illegal a h.losses moves h.exchanges illegal.0 0 (stands_at z) h.steps k.steps h.last k.move h.spoils illegal.1

  -- no exchange passes a limit
  no_exchange : {P : Type 0} (limit : List ℕ) (mark : Marked (Unit {0}) → Bool) (text : List ℕ)
      → ((m : ℕ) (losses : List PlainLoss) (j : ℕ) → IsLost a budget m losses z → ¬ IsMarkedIn a losses z moves j mark) → IsExchangeText a budget z moves limit mark text → P
  no_exchange limit mark text h stop = absurd (h stop.number stop.losses stop.exchange stop.lost stop.stop)

  module _ (t : IsWithinSpoil budget value) where
    sure_spoil : (s : Status) (text : List ℕ) → IsSpoilOutcome budget value s text → IsSureSpoil budget value s
    sure_spoil status.Done text (inl h) = inl (refl, not_lost_out budget a z text h, λ k. not_lost budget a z text h k.number k.losses k.lost)
    sure_spoil status.Done text (inr h) = inl (refl, won_out text h, won_legal text h)
    sure_spoil status.No text h = inr (inl (refl, record { number = h.number; losses = h.losses; lost = h.lost; move = h.move; steps = h.steps; first = h.first }))
    sure_spoil status.Words text h = absurd h
    sure_spoil status.Text text h = absurd h
    sure_spoil status.Wide text (inl wide) = absurd (narrow budget a z t.sought wide.wide)
    sure_spoil status.Wide text (inr (inl work)) = unpassed budget a z (codes "wide") (λ m. m.wide) text t.sought.numbers work
    sure_spoil status.Wide text (inr (inr stop)) = no_exchange (codes "wide") (λ m. m.wide) text t.numbers stop
    sure_spoil status.Lists text (inl (inl work)) = unpassed budget a z (codes "rows") (λ m. m.rows) text t.sought.rows work
    sure_spoil status.Lists text (inl (inr work)) = unpassed budget a z (codes "pieces") (λ m. m.pieces) text t.sought.pieces work
    sure_spoil status.Lists text (inr (inl stop)) = no_exchange (codes "rows") (λ m. m.rows) text t.rows stop
    sure_spoil status.Lists text (inr (inr stop)) = no_exchange (codes "pieces") (λ m. m.pieces) text t.pieces stop
    sure_spoil status.Spent text h = inr (inr (refl, record { removes = h.removed.removes; kept = h.kept }))
    sure_spoil status.Read text h = absurd h
    sure_spoil status.Write text h = absurd h
    sure_spoil status.Memory text h = absurd h

-- ---- an input
module _ (budget : ℕ) (bytes : List ℕ) (input : IsInput IsSpoilInput bytes) (s : Status) (text : List ℕ) (h : IsBytesAnswer IsSpoilInput (IsSpoilOutcome budget) bytes s text) where
  its : IsSpoilOutcome budget input.value s text
  its = of_value IsSpoilInput (IsSpoilOutcome budget) bytes (spoils_one.one_value (lines_of bytes)) input s text h

  pub sure_spoil_of : IsWithinSpoil budget input.value → IsSureSpoil budget input.value s
  sure_spoil_of t = sure_spoil budget input.value.0.0 input.value.0.1 input.value.1 t s text its
