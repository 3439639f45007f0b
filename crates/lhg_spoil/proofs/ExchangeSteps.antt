-- What an exchange comes to is told by what the plant offers, and by the reply to the move that is asked for.
use Rattle.std.proofs.Common.{◌≡◌, inl, inr, ◌<◌, ◌-◌, ℕ, suc, Bool, false, List, [], ◌∷◌, length, slice_get, Option, Some, None, Result, Ok, Err, refl, sym, ap, ◌∙◌, subst, append_assoc, arith}
use Rattle.std.specs.Result.{IsErrAnd}
use Rattle.std.specs.Prelude.{nat_eq}
use Rattle.lhg_math.specs.Number.{nought}
use Rattle.lhg_math.specs.Tests.{false_true}
use Rattle.lhg_num.specs.FracArithmetic.{frac_arithmetic}
use Rattle.lhg_num.specs.Marked.{Marked}
use Rattle.lhg_num.specs.declared.refusals.Halt.{Halt}
use Rattle.lhg_num.specs.declared.refusals.Halt.TheVariants.{Wide, Rows, Pieces, Memory}
use Rattle.lhg_row.specs.Row.{PlainPoint}
use Rattle.lhg_motion.specs.Play.{PlainMove}
use Rattle.lhg_plant.specs.Explained.{PlainEscape, IsExplained}
use Rattle.lhg_plant.specs.LegalTruths.{safe_truth}
use Rattle.lhg_plant.specs.Loss.{PlainLoss}
use Rattle.lhg_plant.specs.Plant.{PlainPlant}
use Rattle.lhg_plant.specs.Proper.{IsProper}
use Rattle.lhg_plant.specs.Rank.{IsPast}
use Rattle.lhg_plant.specs.Round.{IsRemovedIn}
use Rattle.lhg_plant.specs.SpoilSteps.{ranked}
use Rattle.lhg_plant.specs.State.{PlainState, IsState}
use Rattle.lhg_plant.specs.Views.{plain_state}
use Rattle.lhg_plant.proofs.Rounds.{removed_once}
use Rattle.lhg_play.specs.Views.{plain_spoil_steps}
use Rattle.lhg_loss.specs.Holding.{holding}
use Rattle.lhg_spoil.specs.declared.answers.Answer.{Answer}
use Rattle.lhg_spoil.specs.declared.exchanges.Stand.{Stand}
use Rattle.lhg_spoil.specs.declared.exchanges.Step.{Step}
use Rattle.lhg_spoil.specs.declared.exchanges.Step.TheVariants.{Answered, Stuck}
use Rattle.lhg_spoil.specs.Exchange.{offer, SpoilPlace, asked, asked_again, Answers}
use Rattle.lhg_spoil.specs.Facing.{IsOffer, IsFaced, MayRepeat}
use Rattle.lhg_spoil.specs.Known.{AreKnown}
use Rattle.lhg_spoil.specs.Moves.{PlainCtlMove, acts}
use Rattle.lhg_spoil.specs.Replies.{IsAnsweredBy, IsReply}
use Rattle.lhg_spoil.specs.Standing.{stand_place, PlainStand, plain_stand, plain_reply, step_after, plain_step_to, IsStanding, IsOn, IsStep, IsStandWork}
use Rattle.lhg_spoil.specs.Telling.{records_upto, IsTellHalt}
use Rattle.lhg_spoil.specs.Views.{plain_answer}
use Rattle.lhg_spoil.specs.Work.{only, IsMoveWork}
use Rattle.lhg_spoil.proofs.Decided.{illegal_at, answer_repeats}
use Rattle.lhg_spoil.proofs.ExchangeEnds.{offered, exchange_past}
use Rattle.lhg_spoil.proofs.Outside.{rank_state}

-- a play with a flow is acted on again at its start
pub again-acts : (moves : List PlainMove) (act : ℕ × Option PlainPoint) → false ≡ (nat_eq (length moves) 0) → asked_again moves act ≡ acts 1 nought act.0 act.1
again-acts [] act h = absurd (false_true h)
again-acts (m ∷ ms) act h = refl

-- a mark of what is told is one of what an exchange from there forms
pub tell-answered : {T : Type 0} (r : Result T Halt) (e : Halt) (P : T → Type 0) (a : PlainPlant) (losses : List PlainLoss) (upto : ℕ) (moves : List PlainCtlMove) (old : Stand) → losses ≡ records_upto a upto
    → IsStanding a losses upto old → IsErrAnd r (λ d. d ≡ e) → IsTellHalt a upto (plain_state old.state) e → IsAnsweredBy r P (IsStandWork a losses moves old)
tell-answered (Ok x) e P a losses upto moves old same standing i h = absurd i
tell-answered {T} (Err d) e P a losses upto moves old same standing i h = subst (λ (x : Halt). IsAnsweredBy {T = T} (Err x) P (IsStandWork a losses moves old)) (sym i) (on e h)
  where
    s : PlainState
    s = plain_state old.state

    on : (e : Halt) → IsTellHalt a upto (plain_state old.state) e → IsAnsweredBy {T = T} (Err e) P (IsStandWork a losses moves old)
    on Wide (inl k) = (only (safe_truth frac_arithmetic a (plain_state old.state)), (standing.lost.before, standing.lost.removed, inr (inl (inl refl))), k)
    on Wide (inr (inl k)) =
        (only (holding (plain_state old.state) losses), (standing.lost.before, standing.lost.removed, inr (inl (inr refl))), ap (λ (ls : List PlainLoss). (holding (plain_state old.state) ls).wide) same ∙ k)
    on Wide (inr (inr k)) =
        (only (offer a losses (plain_state old.state)), (standing.lost.before, standing.lost.removed, inl refl), ap (λ (ls : List PlainLoss). (offer a ls (plain_state old.state)).wide) same ∙ k)
    on Rows k =
        (only (offer a losses (plain_state old.state)), (standing.lost.before, standing.lost.removed, inl refl), ap (λ (ls : List PlainLoss). (offer a ls (plain_state old.state)).rows) same ∙ k)
    on Pieces k = absurd k
    on Memory k = tt

-- an escape that explains the state at which exchanges stand, and is the one that the plant offers there
module _ (a : PlainPlant) (losses : List PlainLoss) (upto : ℕ) (old : Stand) (standing : IsStanding a losses upto old) (e : PlainEscape) (told : e ≡ (offer a losses (plain_state old.state)).value)
    (explained : IsExplained a (plain_state old.state) e) where
  abbrev j : ℕ
  j = e.round - 1

  abbrev s : PlainState
  s = plain_state old.state

  abbrev shown : PlainEscape
  shown = (offer a losses (plain_state old.state)).value

  pub from-rank : 0 < e.round
  from-rank = let n = explained.number in omega arith

  round_is : e.round ≡ suc j
  round_is = let n = explained.number in omega arith

  pub removed : IsRemovedIn a (suc j) s
  removed = subst (λ (n : ℕ). IsRemovedIn a n s) round_is explained.removed

  shows : IsExplained a s shown
  shows = subst (IsExplained a s) told explained

  offers : IsOffer a j s shown.way
  offers = offered a j s shown removed shows

  known : AreKnown a losses j
  known =
      let same = removed_once a (suc j) (suc standing.lost.before) s removed standing.lost.removed in
      subst (AreKnown a losses) (let f : standing.lost.before ≡ j = omega arith in f) standing.known

  -- so it is held against each move
  pub faced : IsFaced a losses j e.start e.way
  faced =
      subst (λ (z : PlainState). IsFaced a losses j z e.way) (sym explained.starts)
      (subst (λ (x : PlainEscape). IsFaced a losses j s x.way) (sym told) (record { removed = removed; offers = offers; known = known }))

  module _ (moves : List PlainCtlMove) where
    abbrev next : Option PlainCtlMove
    next = slice_get moves old.answered

    abbrev again : Option (ℕ × Option PlainPoint)
    again = (stand_place old).again

    -- what the reply forms
    pub reply-work : (m : Marked (Unit {0})) → IsMoveWork a losses j e.start e.way.moves (asked again next e.way.moves) m → IsStandWork a losses moves old m
    reply-work m h = (
      j,
      removed,
      inr (inr (inl (subst (λ (x : PlainEscape). IsMoveWork a losses j s x.way.moves (asked again next x.way.moves) m) told
          (subst (λ (z : PlainState). IsMoveWork a losses j z e.way.moves (asked again next e.way.moves) m) explained.starts h)))),
    )

    -- what comes of it
    step : (reply : Option Answer) → IsReply a losses j s shown.way (asked again next shown.way.moves) reply → (y : Step) → plain_step_to y ≡ step_after (plain_stand old) (suc j) (plain_reply reply)
        → IsStep a losses moves old y
    step None f (Answered new) h = absurd (false_true (sym (ap (λ (x : PlainStand × Bool). x.1) h)))
    step None f (Stuck new) h = record {
      before = j;
      illegal = illegal_at a losses moves j old.answered (stand_place old) removed offers standing.repeats f;
      does = ap (λ (x : PlainStand × Bool). x.0.steps) h;
      answered = ap (λ (x : PlainStand × Bool). x.0.answered) h;
    }
    step (Some r) l (Stuck new) h = absurd (false_true (ap (λ (x : PlainStand × Bool). x.1) h))
    step (Some r) l (Answered new) h =
        let place : stand_place new ≡ (plain_answer r).1 = ap (λ (x : PlainStand × Bool). x.0.place) h in
        record {
          before = j;
          steps = ranked (suc j) ∷ (plain_answer r).0;
          explained = shows;
          exchange = record {
            removed = removed;
            legal = l.0;
            does = (plain_answer r).0;
            answers = subst (λ (n : SpoilPlace). Answers a losses j s shown.way (asked again next shown.way.moves) (plain_answer r).0 n) (sym place) l.1;
            whole = refl;
          };
          does = ap (λ (x : PlainStand × Bool). x.0.steps) h ∙ append_assoc (plain_spoil_steps old.steps.items) (ranked (suc j) ∷ []) (plain_answer r).0;
          answered = ap (λ (x : PlainStand × Bool). x.0.answered) h;
          repeats = subst (MayRepeat a) (sym place) (answer_repeats a losses j s shown.way (asked again next shown.way.moves) (plain_answer r).0 (plain_answer r).1 l.0 l.1);
        }

    pub step-replied : (reply : Option Answer) → IsReply a losses j e.start e.way (asked again next e.way.moves) reply → (y : Step) → plain_step_to y ≡ step_after (plain_stand old) e.round (plain_reply reply)
        → IsStep a losses moves old y
    step-replied reply h y g =
        step reply
        (subst (λ (x : PlainEscape). IsReply a losses j s x.way (asked again next x.way.moves) reply) told (subst (λ (z : PlainState). IsReply a losses j z e.way (asked again next e.way.moves) reply) explained.starts h)) y
        (g ∙ ap (λ (n : ℕ). step_after (plain_stand old) n (plain_reply reply)) round_is)

-- ---- where an exchange ends
module _ (a : PlainPlant) (losses : List PlainLoss) (proper : IsProper a) (upto : ℕ) (moves : List PlainCtlMove) (old new : Stand) (standing : IsStanding a losses upto old) (on : IsOn a losses moves old new) where
  -- it begins from the rank of the state
  pub same-rank : on.before ≡ standing.lost.before
  same-rank = let same = removed_once a (suc on.before) (suc standing.lost.before) (plain_state old.state) on.exchange.removed standing.lost.removed in omega arith

  -- and ends at a lower one
  pub on-past : IsPast a on.before (plain_state new.state)
  on-past =
      let same = same-rank in
      exchange_past a losses standing.lost.before standing.known proper on.before (omega arith) (stand_place old) (slice_get moves old.answered) on.steps (stand_place new) on.explained on.exchange

  pub on-state : IsState a (plain_state new.state)
  on-state = rank_state a on-past.rank (plain_state new.state) on-past.ranked

  -- rows at that state are part of what it forms
  pub end-work : IsStandWork a losses moves old (only (safe_truth frac_arithmetic a (plain_state new.state)))
  end-work = (on.before, on.exchange.removed, inr (inr (inr (on.steps, stand_place new, on.exchange, inl refl))))
