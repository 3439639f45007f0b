-- The loop over exchanges: what is known where they stand, and what each answer comes to.
use Rattle.std.proofs.Common.{◌≡◌, inl, inr, ◌<◌, ◌≤◌, Bool, true, ℕ, zero, suc, List, [], ◌∷◌, ◌++◌, Option, Some, None, Err, refl, sym, ap, ◌∙◌, subst, arith}
use Rattle.lhg_num.specs.declared.refusals.Halt.{Halt}
use Rattle.lhg_num.specs.declared.refusals.Halt.TheVariants.{Wide, Rows, Pieces, Memory}
use Rattle.lhg_num.specs.Marked.{Marked}
use Rattle.lhg_plant.specs.Plant.{PlainPlant}
use Rattle.lhg_plant.specs.Proper.{IsProper}
use Rattle.lhg_plant.specs.State.{PlainState, IsSafe}
use Rattle.lhg_plant.specs.Loss.{PlainLoss}
use Rattle.lhg_plant.specs.Rank.{HasRank, IsPast}
use Rattle.lhg_plant.specs.Round.{IsRemovedIn}
use Rattle.lhg_plant.specs.SpoilSteps.{PlainSpoilStep, ranked, AreLegalFrom}
use Rattle.lhg_plant.specs.Views.{plain_state}
use Rattle.lhg_plant.proofs.Rounds.{removed_once, round_safe}
use Rattle.lhg_play.specs.Views.{plain_spoil_steps}
use Rattle.lhg_loss.specs.Holding.{holding, IsFirstHolding}
use Rattle.lhg_loss.specs.StageFacts.{AreCounted}
use Rattle.lhg_spoil.specs.declared.answers.Again.{Again}
use Rattle.lhg_spoil.specs.declared.exchanges.Stand.{Stand}
use Rattle.lhg_spoil.specs.declared.stops.SpoilStop.{SpoilStop}
use Rattle.lhg_spoil.specs.declared.stops.Spoiled.{Spoiled}
use Rattle.lhg_spoil.specs.Known.{AreKnown}
use Rattle.lhg_spoil.specs.Moves.{PlainCtlMove}
use Rattle.lhg_spoil.specs.Exchange.{SpoilPlace, stands_at, answered_after}
use Rattle.lhg_spoil.specs.Exchanges.{IllegalFrom, IsFirstIllegal}
use Rattle.lhg_spoil.specs.Replies.{IsAnsweredBy, IsRoundOfFirst}
use Rattle.lhg_spoil.specs.Standing.{IsLostUpto, stand_place, PlainStand, plain_stand, IsStanding, IsOn, IsStuck, IsStandWork}
use Rattle.lhg_spoil.specs.Stops.{IsLostStart, IsSpoiled, IsStoppedBefore, IsMarkedIn, IsSpoilStop, stop_of}
use Rattle.lhg_spoil.specs.Work.{only}
use Rattle.lhg_spoil.specs.Views.{plain_again}
use Rattle.lhg_spoil.proofs.Outside.{rank_once}
use Rattle.lhg_spoil.proofs.ExchangeSteps.{same-rank, on-past, on-state}
use Rattle.lhg_spoil.proofs.RankSteps.{none_past, holder_rank}
use Rattle.lhg_spoil.proofs.Reaching.{TellsFrom, tells_reach, tells_more, tells_spoil, tells_illegal, tells_fall, tells_win, tells_legal}
use Rattle.lhg_spoil.proofs.PlayStates.{legal_append}

-- records that tell of each round up to a number tell of each up to a smaller one
pub known_less : (a : PlainPlant) (losses : List PlainLoss) (i k : ℕ) → i ≤ k → AreKnown a losses k → AreKnown a losses i
known_less a losses i k less h = record { sound = h.sound; wide = h.wide; known = λ s j l r. h.known s j (omega arith) r }

-- after n exchanges from the start
pub record IsSpoiling (a : PlainPlant) (losses : List PlainLoss) (upto : ℕ) (start : PlainState) (moves : List PlainCtlMove) (n : ℕ) (r : Stand) : Type 0 where
  pub told : TellsFrom a losses moves n 0 (stands_at start) (plain_spoil_steps r.steps.items) r.answered (stand_place r)
  pub standing : IsStanding a losses upto r
  pub few : r.answered ≤ n

module _ (a : PlainPlant) (losses : List PlainLoss) (proper : IsProper a) (upto : ℕ) (start : PlainState) (moves : List PlainCtlMove) where
  -- at the start
  pub spoiling-begun : (r : Stand) → plain_stand r ≡ record { steps = []; place = stands_at start; answered = 0 } → IsLostStart a losses upto start → IsSpoiling a losses upto start moves 0 r
  spoiling-begun r e h =
      let place : stand_place r ≡ stands_at start = ap (λ (x : PlainStand). x.place) e in
      let count : r.answered ≡ 0 = ap (λ (x : PlainStand). x.answered) e in
      let at : plain_state r.state ≡ start = ap (λ (x : SpoilPlace). x.state) place in
      record {
        told = (ap (λ (x : PlainStand). x.steps) e, count, place);
        standing = record {
          lost = subst (IsLostUpto a upto) (sym at) (record { before = h.before; within = h.within; removed = h.removed });
          known = known_at r at h;
          repeats = λ act k. absurd (nothing_again act (ap (λ (x : SpoilPlace). x.again) (sym place) ∙ k));
        };
        few = omega arith;
      }
    where
      nothing_again : {A : Type 0} (x : A) → None ≡ Some x → ⊥
      nothing_again x h = cc

      known_at : (r : Stand) (at : plain_state r.state ≡ start) (h : IsLostStart a losses upto start)
          → AreKnown a losses (subst (IsLostUpto a upto) (sym at) (record { before = h.before; within = h.within; removed = h.removed })).before
      known_at r at h =
          let l : IsLostUpto a upto (plain_state r.state) = subst (IsLostUpto a upto) (sym at) (record { before = h.before; within = h.within; removed = h.removed }) in
          let same = removed_once a (suc l.before) (suc h.before) start (subst (IsRemovedIn a (suc l.before)) at l.removed) h.removed in
          known_less a losses l.before (suc h.before) (omega arith) h.known

  module _ (n : ℕ) (old new : Stand) (s : IsSpoiling a losses upto start moves n old) where
    -- where one more exchange ends
    next-past : (on : IsOn a losses moves old new) → IsPast a on.before (plain_state new.state)
    next-past on = on-past a losses proper upto moves old new s.standing on

    same_round : (on : IsOn a losses moves old new) → on.before ≡ s.standing.lost.before
    same_round on = same-rank a losses proper upto moves old new s.standing on

    -- one more
    more_told : (on : IsOn a losses moves old new) → TellsFrom a losses moves (suc n) 0 (stands_at start) (plain_spoil_steps new.steps.items) new.answered (stand_place new)
    more_told on =
        subst (λ (xs : List PlainSpoilStep). TellsFrom a losses moves (suc n) 0 (stands_at start) xs new.answered (stand_place new)) (sym on.does)
        (subst (λ (k : ℕ). TellsFrom a losses moves (suc n) 0 (stands_at start) (plain_spoil_steps old.steps.items ++ on.steps) k (stand_place new)) (sym on.answered)
        (tells_more a losses moves n 0 (stands_at start) (plain_spoil_steps old.steps.items) old.answered (stand_place old) on.before on.steps (stand_place new) s.told on.explained on.exchange))

    at_most : (o : Option Again) → answered_after (plain_again o) old.answered ≤ suc old.answered
    at_most None = omega arith
    at_most (Some act) = omega arith

    pub spoiling-more : IsOn a losses moves old new → IsSafe a (plain_state new.state) → IsSpoiling a losses upto start moves (suc n) new
    spoiling-more on safe =
        let past = next-past on in
        let same = same_round on in
        record { told = more_told on; standing = stands on safe past.rank past.within past.ranked; few = (let f = s.few in let c = on.answered in let m = at_most old.again in omega arith) }
      where
        stands : (on : IsOn a losses moves old new) → IsSafe a (plain_state new.state) → (i : ℕ) → i ≤ on.before → HasRank a i (plain_state new.state) → IsStanding a losses upto new
        stands on safe zero less h = absurd (h.1 safe)
        stands on safe (suc i) less h =
            let w = s.standing.lost.within in
            let same = same_round on in
            record { lost = record { before = i; within = omega arith; removed = h }; known = known_less a losses i s.standing.lost.before (omega arith) s.standing.known; repeats = on.repeats }

    -- at an unsafe state the plant has won
    pub spoiling-won : IsLostStart a losses upto start → IsOn a losses moves old new → ¬ IsSafe a (plain_state new.state) → (r : Spoiled) → r ≡ record { steps = new.steps; last = new.state; exchanges = suc n }
        → IsSpoiled a losses start moves r
    spoiling-won h on unsafe r e =
        let rank : HasRank a 0 (plain_state new.state) = (on-state a losses proper upto moves old new s.standing on, unsafe) in
        let t = more_told on in
        let w = tells_win a losses moves (suc h.before) h.known proper (suc n) 0 (suc h.before) (stands_at start) (plain_spoil_steps new.steps.items) new.answered (stand_place new) (omega arith) h.removed t rank in
        subst (IsSpoiled a losses start moves) (sym e)
        (record {
          spoils = tells_spoil a losses moves (suc n) 0 (stands_at start) (plain_spoil_steps new.steps.items) new.answered (stand_place new) t rank;
          won = record { before = h.before; removed = h.removed; few = w.few; legal = w.legal; falls = w.falls; unsafe = w.unsafe };
        })

    -- a move that is not legal is the first one
    abbrev IllegalAfter : ℕ → List PlainSpoilStep → Type 0
    IllegalAfter k xs = IllegalFrom a losses moves n 0 (stands_at start) k xs

    first-illegal : IsStuck a losses moves old new → IsFirstIllegal a losses start moves (suc new.answered) (plain_spoil_steps new.steps.items)
    first-illegal h = (
      n,
      subst (λ (k : ℕ). IllegalAfter (suc k) (plain_spoil_steps new.steps.items)) (sym h.answered)
          (subst (λ (xs : List PlainSpoilStep). IllegalAfter (suc old.answered) xs) (sym h.does)
          (tells_illegal a losses moves n 0 (stands_at start) (plain_spoil_steps old.steps.items) old.answered (stand_place old) h.before s.told h.illegal)),
    )

    -- and the steps before it are legal
    pub spoiling-illegal : IsLostStart a losses upto start → IsStuck a losses moves old new → IsStoppedBefore a losses start moves (suc new.answered) (plain_spoil_steps new.steps.items)
    spoiling-illegal h x = record { first = first-illegal x; last = plain_state old.state; legal = subst (λ (xs : List PlainSpoilStep). AreLegalFrom a start None xs (plain_state old.state)) (sym x.does) (then_ranked x) }
      where
        so_far : AreLegalFrom a start None (plain_spoil_steps old.steps.items) (plain_state old.state)
        so_far = tells_legal a losses moves (suc h.before) h.known proper n 0 (suc h.before) (stands_at start) (plain_spoil_steps old.steps.items) old.answered (stand_place old) (omega arith) h.removed s.told

        then_ranked : (x : IsStuck a losses moves old new) → AreLegalFrom a start None (plain_spoil_steps old.steps.items ++ ranked (suc x.before) ∷ []) (plain_state old.state)
        then_ranked x = legal_append a start None (plain_spoil_steps old.steps.items) (ranked (suc x.before) ∷ []) (plain_state old.state) (plain_state old.state) so_far (x.illegal.removed, refl)

    -- a mark of something that is formed
    pub spoiling-marked : (mark : Marked (Unit {0}) → Bool) (m : Marked (Unit {0})) → IsStandWork a losses moves old m → mark m ≡ true → IsMarkedIn a losses start moves (suc n) mark
    spoiling-marked mark m h e = record {
      before = n;
      counted = refl;
      trace = plain_spoil_steps old.steps.items;
      answered = old.answered;
      place = stand_place old;
      reached = tells_reach a losses moves n 0 (stands_at start) (plain_spoil_steps old.steps.items) old.answered (stand_place old) s.told;
      round = h.0;
      removed = h.1;
      work = m;
      formed = h.2;
      marked = e;
    }

    -- a halt
    pub spoiling-halted : {T : Type 0} (P : T → Type 0) (h : Halt) (k : ℕ) → suc n ≡ k → (stop : SpoilStop) → stop ≡ stop_of h k → IsAnsweredBy {T = T} (Err h) P (IsStandWork a losses moves old) → IsSpoilStop a losses start moves stop
    spoiling-halted {T} P h k count stop e w = subst (IsSpoilStop a losses start moves) (sym (e ∙ ap (stop_of h) (sym count))) (on h w)
      where
        on : (h : Halt) → IsAnsweredBy {T = T} (Err h) P (IsStandWork a losses moves old) → IsSpoilStop a losses start moves (stop_of h (suc n))
        on Wide w = spoiling-marked (λ m. m.wide) w.0 w.1 w.2
        on Rows w = spoiling-marked (λ m. m.rows) w.0 w.1 w.2
        on Pieces w = spoiling-marked (λ m. m.pieces) w.0 w.1 w.2
        on Memory w = tt

    -- there are fewer exchanges than the rank of the start
    pub spoiling-bound : (rounds : ℕ) → IsLostStart a losses upto start → HasRank a rounds start → n < rounds
    spoiling-bound rounds h rank =
        let f = tells_fall a losses moves (suc h.before) h.known proper n 0 (suc h.before) (suc s.standing.lost.before) (stands_at start) (plain_spoil_steps old.steps.items) old.answered (stand_place old) (omega arith) h.removed s.told s.standing.lost.removed in
        let same = rank_once a rounds (suc h.before) start rank h.removed in
        omega arith

-- a lost state is not unsafe
pub lost_safe : (a : PlainPlant) (upto : ℕ) (s : PlainState) → IsLostUpto a upto s → ¬ HasRank a 0 s
lost_safe a upto s h k = k.1 (round_safe a h.removed.round s h.removed.kept)

-- the start is held by a record, whose round is its rank
pub start_held : (a : PlainPlant) (losses : List PlainLoss) (upto : ℕ) (s : PlainState) → IsLostStart a losses upto s → ¬ IsFirstHolding s losses None
start_held a losses upto s h none =
    let safe = round_safe a h.removed.round s h.removed.kept in
    none_past a losses (suc h.before) h.known s safe.state safe none (record { rank = suc h.before; within = omega arith; ranked = h.removed })

pub start_rank : (a : PlainPlant) (losses : List PlainLoss) (upto : ℕ) (s : PlainState) → IsLostStart a losses upto s → AreCounted losses → (i : ℕ) → IsRoundOfFirst s losses (Some i) → HasRank a i s
start_rank a losses upto s h counted i f =
    let safe = round_safe a h.removed.round s h.removed.kept in
    subst (λ (m : ℕ). HasRank a m s) f.4 (holder_rank a losses (suc h.before) h.known s safe.state counted f.0 f.2 f.1 f.3)

-- a row at the start
pub start_wide : (a : PlainPlant) (losses : List PlainLoss) (upto : ℕ) (s : PlainState) (moves : List PlainCtlMove) → IsLostStart a losses upto s → (holding s losses).wide ≡ true → IsMarkedIn a losses s moves 1 (λ m. m.wide)
start_wide a losses upto s moves h e = record {
  before = 0;
  counted = refl;
  trace = [];
  answered = 0;
  place = stands_at s;
  reached = (refl, refl, refl);
  round = h.before;
  removed = h.removed;
  work = only (holding s losses);
  formed = inr (inl (inr refl));
  marked = e;
}
