-- The first record that holds a state that is unsafe or lost tells which of the two it is, and explains it.
use Rattle.std.proofs.Common.{◌≡◌, ◌≤◌, ℕ, zero, suc, Bool, true, List, [], ◌∷◌, Some, None, Result, Err, inl, inr, sym, ap, ◌∙◌, subst, arith}
use Rattle.std.specs.Prelude.{Contains}
use Rattle.lhg_num.specs.declared.refusals.Halt.{Halt}
use Rattle.lhg_num.specs.declared.refusals.Halt.TheVariants.{Wide, Rows, Pieces, Memory}
use Rattle.lhg_num.specs.Halting.{IsHaltedByRows}
use Rattle.lhg_num.specs.Marked.{Marked}
use Rattle.lhg_plant.specs.Explained.{PlainEscape}
use Rattle.lhg_plant.specs.Loss.{PlainLoss}
use Rattle.lhg_plant.specs.Plant.{PlainPlant}
use Rattle.lhg_plant.specs.Rank.{HasRank, IsPast}
use Rattle.lhg_plant.specs.State.{PlainState, IsState}
use Rattle.lhg_loss.specs.ExplainFacts.{IsHeldBy}
use Rattle.lhg_loss.specs.Explanation.{explanation}
use Rattle.lhg_loss.specs.Holding.{HoldsState, IsFirstHolding, holding}
use Rattle.lhg_loss.specs.Views.{plain_losses}
use Rattle.lhg_loss.specs.declared.losses.Loss.{Loss}
use Rattle.lhg_spoil.specs.Exchange.{offer, explained_by}
use Rattle.lhg_spoil.specs.Telling.{records_upto, IsTellHalt}
use Rattle.lhg_explain.proofs.HeldRecords.{there_listed}
use Rattle.lhg_cli.specs.Knowing.{AreRecordsUpto}
use Rattle.lhg_cli.proofs.LostSteps.{holder}
use Rattle.lhg_cli.proofs.Placed.{round_state}

-- a state with a rank is one of the plant
rank_state : (a : PlainPlant) (rank : ℕ) (s : PlainState) → HasRank a rank s → IsState a s
rank_state a zero s h = h.0
rank_state a (suc i) s h = round_state a h.round s h.kept

pub past_state : (a : PlainPlant) (upto : ℕ) (s : PlainState) → IsPast a upto s → IsState a s
past_state a upto s h = rank_state a h.rank s h.ranked

-- where no record is the first that holds the state, none of the list holds it
none_holds : (s : PlainState) (losses : List PlainLoss) → IsFirstHolding s losses None → (loss : PlainLoss) → Contains losses loss → ¬ HoldsState loss s
none_holds s [] h loss (k, less, is) held = absurd (omega (arith, less))
none_holds s (r ∷ losses) (inl h) loss listed held = absurd cc
none_holds s (r ∷ losses) (inr h) loss (zero, less, is) held = h.0 (subst (λ (x : PlainLoss). HoldsState x s) (sym is) held)
none_holds s (r ∷ losses) (inr h) loss (suc k, less, is) held = none_holds s losses h.1 loss (k, (omega (arith, less)), is) held

module _ (a : PlainPlant) (upto : ℕ) (losses : List Loss) (knows : AreRecordsUpto a upto losses) (s : PlainState) where
  -- then it is unsafe
  not_removed : IsFirstHolding s (plain_losses losses) None → (rank : ℕ) → rank ≤ upto → HasRank a rank s → HasRank a 0 s
  not_removed none zero within h = h
  not_removed none (suc i) within h =
      let k = knows.known s (suc i) within h in
      absurd (none_holds s (plain_losses losses) none k.0 k.1 (record { here = sym k.2.here; inside = k.2.inside }))

  pub is_unsafe : IsFirstHolding s (plain_losses losses) None → IsPast a upto s → HasRank a 0 s
  is_unsafe none past = not_removed none past.rank past.within past.ranked

  -- else the record with the number that is found holds it
  pub is_held : (m : ℕ) → IsState a s → IsFirstHolding s (plain_losses losses) (Some m) → IsHeldBy a (plain_losses losses) m s
  is_held m state first =
      let its = holder s (plain_losses losses) m first in
      record {
        loss = its.loss;
        listed = there_listed (plain_losses losses) its.place its.loss its.is_there;
        number = its.number;
        holds = record { state = state; here = sym its.holds.here; inside = its.holds.inside };
      }

  -- what the plant offers is the explanation by it
  offered : (m : ℕ) → Some m ≡ (holding s (plain_losses losses)).value → explanation a (plain_losses losses) m s ≡ offer a (records_upto a upto) s
  unfolding offer
  offered m e = ap (explained_by a (plain_losses losses) s) e ∙ ap (λ (ls : List PlainLoss). explained_by a ls s (holding s ls).value) knows.same

  pub escape_is : (m : ℕ) (e : PlainEscape) → Some m ≡ (holding s (plain_losses losses)).value → e ≡ (explanation a (plain_losses losses) m s).value → e ≡ (offer a (records_upto a upto) s).value
  escape_is m e f g = g ∙ ap (λ (x : Marked PlainEscape). x.value) (offered m f)

  pub escape_marks : (m : ℕ) (mark : Marked PlainEscape → Bool) → Some m ≡ (holding s (plain_losses losses)).value → mark (explanation a (plain_losses losses) m s) ≡ true → mark (offer a (records_upto a upto) s) ≡ true
  escape_marks m mark f g = sym (ap mark (offered m f)) ∙ g

  pub holding_marks : (holding s (plain_losses losses)).wide ≡ true → (holding s (records_upto a upto)).wide ≡ true
  holding_marks g = sym (ap (λ (ls : List PlainLoss). (holding s ls).wide) knows.same) ∙ g

  -- a halt of the explanation is one of what is told
  pub escape_halt : {T : Type 0} (m : ℕ) (view : T → PlainEscape) (h : Halt) → Some m ≡ (holding s (plain_losses losses)).value → (let r : Result T Halt = Err h in IsHaltedByRows r (explanation a (plain_losses losses) m s) view) → IsTellHalt a upto s h
  escape_halt m view Wide f g = inr (inr (escape_marks m (λ x. x.wide) f g))
  escape_halt m view Rows f g = escape_marks m (λ x. x.rows) f g
  escape_halt m view Pieces f g = absurd g
  escape_halt m view Memory f g = tt
