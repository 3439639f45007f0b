-- The steps of exchanges are legal, the ranks from which they begin fall, and there are at most as many as the rank of the start.
use Rattle.std.proofs.Common.{◌≡◌, inl, inr, ◌≤◌, ◌-◌, ℕ, zero, suc, List, [], ◌∷◌, ◌++◌, slice_get, Option, Some, None, IsSomeAnd, refl, sym, subst, arith}
use Rattle.lhg_math.specs.Number.{Number, lt, nought}
use Rattle.lhg_math.specs.Tests.{AllOf, by_bool}
use Rattle.lhg_row.specs.Row.{PlainPoint}
use Rattle.lhg_row.specs.Members.{all-append}
use Rattle.lhg_motion.specs.Play.{PlainMove, last_point}
use Rattle.lhg_plant.specs.declared.plants.Side.{Side}
use Rattle.lhg_plant.specs.declared.plants.Side.TheVariants.{Ctl, Env, Pick}
use Rattle.lhg_plant.specs.Plant.{PlainPlant, PlainSwitch}
use Rattle.lhg_plant.specs.Proper.{IsProper}
use Rattle.lhg_plant.specs.State.{PlainState, moved_to}
use Rattle.lhg_plant.specs.Explained.{PlainWay, IsLeft}
use Rattle.lhg_plant.specs.Rank.{HasRank}
use Rattle.lhg_plant.specs.Round.{InRound}
use Rattle.lhg_plant.specs.Loss.{PlainLoss}
use Rattle.lhg_plant.specs.SpoilSteps.{PlainSpoilStep, ranked, run_on, acted, landed_at, preempted, IsControllable, AreLegalFrom, RanksFall}
use Rattle.lhg_plant.proofs.Options.{there_some}
use Rattle.lhg_plant.specs.Choice.{result_at}
use Rattle.lhg_spoil.specs.Known.{AreKnown, AreOffered}
use Rattle.lhg_spoil.specs.Moves.{PlainCtlMove, waits, acts, MayTake, IsLegalMove, state_on}
use Rattle.lhg_spoil.specs.Exchange.{offer, run_upto, run_whole, last_step, end_of, SpoilPlace, answered_after, Answers, IsExchange}
use Rattle.lhg_spoil.specs.Exchanges.{SpoilsFrom}
use Rattle.lhg_spoil.proofs.Outside.{rank_once}
use Rattle.lhg_spoil.proofs.FibreResults.{fibre_right}
use Rattle.lhg_spoil.proofs.PlayStates.{whole_legal, upto_legal, legal_append}
use Rattle.lhg_spoil.specs.Facing.{IsOffer}
use Rattle.lhg_spoil.proofs.ExchangeEnds.{offered, act_state, act_pass, switch_past, exchange_past}

-- ---- ranks in steps
-- the step is not the beginning of an exchange
abbrev IsMove : PlainSpoilStep → Type 0
IsMove (ranked i) = ⊥
IsMove (run_on t y) = Unit {0}
IsMove (acted e) = Unit {0}
IsMove (landed_at z) = Unit {0}
IsMove (preempted e z) = Unit {0}

falls_append : (b : ℕ) (xs ys : List PlainSpoilStep) → AllOf IsMove xs → RanksFall b ys → RanksFall b (xs ++ ys)
falls_append b [] ys h k = k
falls_append b (ranked i ∷ xs) ys h k = absurd h.0
falls_append b (run_on t y ∷ xs) ys h k = falls_append b xs ys h.1 k
falls_append b (acted e ∷ xs) ys h k = falls_append b xs ys h.1 k
falls_append b (landed_at z ∷ xs) ys h k = falls_append b xs ys h.1 k
falls_append b (preempted e z ∷ xs) ys h k = falls_append b xs ys h.1 k

whole_moves : (moves : List PlainMove) → AllOf IsMove (run_whole moves)
whole_moves [] = tt
whole_moves (m ∷ ms) = (tt, whole_moves ms)

last_moves : (last : Option (ℕ × PlainState)) → AllOf IsMove (last_step last)
last_moves None = tt
last_moves (Some last) = (tt, tt)

upto_moves : (x : PlainPoint) (moves : List PlainMove) (k : ℕ) (q : Number) → AllOf IsMove (run_upto x moves k q)
upto_moves x [] k q = tt
upto_moves x (m ∷ ms) (suc k) q = (tt, upto_moves m.to ms k q)
upto_moves x (m ∷ ms) zero q = by_bool (lt nought q) (λ e. rw e (tt, tt)) (λ e. rw e tt)

answer_moves : (a : PlainPlant) (losses : List PlainLoss) (j : ℕ) (s : PlainState) (way : PlainWay) (move : PlainCtlMove) (steps : List PlainSpoilStep) (next : SpoilPlace)
    → Answers a losses j s way move steps next → AllOf IsMove steps
answer_moves a losses j s way waits steps next h = subst (AllOf IsMove) (sym h.does) (all-append IsMove (run_whole way.moves) (last_step way.last) (whole_moves way.moves) (last_moves way.last))
answer_moves a losses j s way (acts k q e to) steps next (inl h) = subst (AllOf IsMove) (sym h.does) (upto_moves s.at way.moves (k - 1) q)
answer_moves a losses j s way (acts k q e to) steps next (inr (inl h)) =
    subst (AllOf IsMove) (sym h.does) (all-append IsMove (run_upto s.at way.moves (k - 1) q) (preempted h.number (result_at a h.number h.result) ∷ []) (upto_moves s.at way.moves (k - 1) q) (tt, tt))
answer_moves a losses j s way (acts k q e to) steps next (inr (inr h)) =
    subst (AllOf IsMove) (sym h.does) (all-append IsMove (run_upto s.at way.moves (k - 1) q) (acted e ∷ landed_at (result_at a e h.result) ∷ []) (upto_moves s.at way.moves (k - 1) q) (tt, (tt, tt)))

-- ---- legal steps
-- a switch that may be taken is controllable
controls : (a : PlainPlant) (e : ℕ) (l : ℕ) (p : PlainState) (to : Option PlainPoint) → IsSomeAnd (slice_get a.switches e) (λ w. (w.from ≡ l) × MayTake w.side a e p to) → IsControllable a e
controls a e l p to h = go (slice_get a.switches e) refl h
  where
    by : (w : PlainSwitch) → slice_get a.switches e ≡ Some w → (side : Side) → w.side ≡ side → MayTake side a e p to → IsControllable a e
    by w there Ctl has h = inl (there_some (slice_get a.switches e) w (λ v. v.side ≡ Ctl) there has)
    by w there Env has h = absurd h
    by w there Pick has h = inr (there_some (slice_get a.switches e) w (λ v. v.side ≡ Pick) there has)

    go : (o : Option PlainSwitch) → slice_get a.switches e ≡ o → IsSomeAnd o (λ w. (w.from ≡ l) × MayTake w.side a e p to) → IsControllable a e
    go None there h = absurd h
    go (Some w) there h = by w there w.side refl h.1

module _ (a : PlainPlant) (losses : List PlainLoss) (k : ℕ) (known : AreKnown a losses k) (proper : IsProper a) (j : ℕ) (within : j ≤ k) where
  module _ (s : PlainState) (way : PlainWay) (o : IsOffer a j s way) where
    -- the steps are legal up to where the exchange ends
    abbrev Legal : List PlainSpoilStep → PlainState → Type 0
    Legal steps end = AreLegalFrom a s None steps end

    wait_legal : Legal (run_whole way.moves ++ last_step way.last) (end_of s way.moves way.last)
    wait_legal = go way.last o.left
      where
        go : (last : Option (ℕ × PlainState)) → IsLeft a (InRound a j) (moved_to s (last_point s.at way.moves)) last → Legal (run_whole way.moves ++ last_step last) (end_of s way.moves last)
        go None h = legal_append a s None (run_whole way.moves) [] (moved_to s (last_point s.at way.moves)) (moved_to s (last_point s.at way.moves)) (whole_legal a s way.moves o.escape.play) refl
        go (Some last) h =
            legal_append a s None (run_whole way.moves) (preempted last.0 last.1 ∷ []) (moved_to s (last_point s.at way.moves)) last.1 (whole_legal a s way.moves o.escape.play) (h.0, h.1, refl)

    answer_legal : (move : PlainCtlMove) (steps : List PlainSpoilStep) (next : SpoilPlace) → IsLegalMove a s way.moves move → Answers a losses j s way move steps next → Legal steps next.state
    answer_legal waits steps next l h = subst (λ (x : SpoilPlace). Legal steps x.state) (sym h.goes) (subst (λ (xs : List PlainSpoilStep). Legal xs (end_of s way.moves way.last)) (sym h.does) wait_legal)
    answer_legal (acts n q e to) steps next l h =
        let low = l.counted in
        let high = l.within in
        let p = state_on s way.moves n q in
        let upto = upto_legal a s way.moves (n - 1) q o.escape.play (omega arith) l.from_start l.before_end in
        let first = run_upto s.at way.moves (n - 1) q in
        elim h [
          | inl g ↦ subst (λ (x : SpoilPlace). Legal steps x.state) (sym g.goes) (subst (λ (xs : List PlainSpoilStep). Legal xs p) (sym g.does) upto)
          | inr (inl g) ↦
              (let f = fibre_right a losses k known proper j within g.number p g.result (act_state a losses k known proper j within s way o n q e to l) g.fibres.result in
              let z = result_at a g.number g.result in
              subst (λ (x : SpoilPlace). Legal steps x.state) (sym g.goes) (subst (λ (xs : List PlainSpoilStep). Legal xs z) (sym g.does) (legal_append a s None first (preempted g.number z ∷ []) p z upto (g.fibres.side, f.0, refl))))
          | inr (inr g) ↦
              (let f = switch_past a losses k known proper j within p (act_state a losses k known proper j within s way o n q e to l) (act_pass a losses k known proper j within s way o n q e to l) g.inside g.none e to g.result l.takes g.picks in
              let z = result_at a e g.result in
              subst (λ (x : SpoilPlace). Legal steps x.state) (sym g.goes)
              (subst (λ (xs : List PlainSpoilStep). Legal xs z) (sym g.does) (legal_append a s None first (acted e ∷ landed_at z ∷ []) p z upto (controls a e s.loc p to l.takes, (f.0, refl)))))
        ]

-- ---- exchanges
-- what exchanges from a rank come to: at most as many as the rank, by legal steps, from ranks that fall, at an unsafe state
pub record Wins (a : PlainPlant) (i n : ℕ) (s : PlainState) (trace : List PlainSpoilStep) (last : PlainState) : Type 0 where
  pub few : n ≤ i
  pub legal : AreLegalFrom a s None trace last
  pub falls : RanksFall (suc i) trace
  pub unsafe : HasRank a 0 last

module _ (a : PlainPlant) (losses : List PlainLoss) (k : ℕ) (known : AreKnown a losses k) (proper : IsProper a) where
  -- an exchange is legal
  pub exchange_legal : (j : ℕ) → j ≤ k → (r : SpoilPlace) (move : Option PlainCtlMove) (steps : List PlainSpoilStep) (next : SpoilPlace) → IsOffer a j r.state (offer a losses r.state).value.way
      → IsExchange a losses j r move steps next → AreLegalFrom a r.state None steps next.state
  exchange_legal j within r move steps next o x =
      subst (λ (xs : List PlainSpoilStep). AreLegalFrom a r.state None xs next.state) (sym x.whole)
      (x.removed, answer_legal a losses k known proper j within r.state (offer a losses r.state).value.way o _ x.does next x.legal x.answers)

  -- a bound on ranks may be raised
  falls_more : (b c : ℕ) (steps : List PlainSpoilStep) → b ≤ c → RanksFall b steps → RanksFall c steps
  falls_more b c [] l h = tt
  falls_more b c (ranked i ∷ steps) l h = (let f = h.0 in omega arith, h.1)
  falls_more b c (run_on t y ∷ steps) l h = falls_more b c steps l h
  falls_more b c (acted e ∷ steps) l h = falls_more b c steps l h
  falls_more b c (landed_at z ∷ steps) l h = falls_more b c steps l h
  falls_more b c (preempted e z ∷ steps) l h = falls_more b c steps l h

  -- an exchange, and then what wins from where it ends, wins
  pub win_more : (j n : ℕ) → j ≤ k → (r : SpoilPlace) (move : Option PlainCtlMove) (steps more : List PlainSpoilStep) (next : SpoilPlace) (last : PlainState) (i : ℕ) → i ≤ j
      → IsOffer a j r.state (offer a losses r.state).value.way → IsExchange a losses j r move steps next → Wins a i n next.state more last → Wins a (suc j) (suc n) r.state (steps ++ more) last
  win_more j n within r move steps more next last i less o x w = record {
    few = (let f = w.few in omega arith);
    legal = legal_append a r.state None steps more next.state last (exchange_legal j within r move steps next o x) w.legal;
    falls = subst (λ (xs : List PlainSpoilStep). RanksFall (suc (suc j)) (xs ++ more)) (sym x.whole)
        (omega arith, falls_append (suc j) x.does more (answer_moves a losses j r.state (offer a losses r.state).value.way _ x.does next x.answers) (falls_more (suc i) (suc j) more (omega arith) w.falls));
    unsafe = w.unsafe;
  }

  -- exchanges from a rank win
  pub spoils_win : AreOffered a losses k → (moves : List PlainCtlMove) (n i c : ℕ) (r : SpoilPlace) (trace : List PlainSpoilStep) (last : PlainState) → i ≤ k → HasRank a i r.state
      → SpoilsFrom a losses moves n c r trace last → Wins a i n r.state trace last
  spoils_win offers moves zero i c r trace last within rank h =
      subst (λ (xs : List PlainSpoilStep). Wins a i 0 r.state xs last) (sym h.1)
      (record { few = omega arith; legal = h.2; falls = tt; unsafe = subst (HasRank a 0) (sym h.2) h.0 })
  spoils_win offers moves (suc n) i c r trace last within rank h =
      let j = h.0 in
      let steps = h.1 in
      let next = h.2 in
      let more = h.3 in
      let x = h.4 in
      let same : i ≡ suc j = rank_once a i (suc j) r.state rank x.removed in
      let under : j ≤ k = omega arith in
      let e = offers r.state j (omega arith) x.removed in
      let past = exchange_past a losses k known proper j under r (slice_get moves c) steps next e x in
      let less = past.within in
      let rest = spoils_win offers moves n past.rank (answered_after r.again c) next more last (omega arith) past.ranked h.5 in
      let o = offered a j r.state (offer a losses r.state).value x.removed e in
      subst (λ (xs : List PlainSpoilStep). Wins a i (suc n) r.state xs last) (sym h.6)
      (subst (λ (m : ℕ). Wins a m (suc n) r.state (steps ++ more) last) (sym same) (win_more j n under r (slice_get moves c) steps more next last past.rank past.within o x rest))
