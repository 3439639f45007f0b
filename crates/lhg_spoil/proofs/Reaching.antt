-- Exchanges one after the other: what leads to a place, what they come to, and what wins.
use Rattle.std.proofs.Common.{◌≡◌, ◌≤◌, ◌+◌, ℕ, zero, suc, List, [], ◌∷◌, ◌++◌, slice_get, None, refl, sym, ap, ◌∙◌, subst, append_assoc, append-nil, arith}
use Rattle.lhg_plant.specs.Plant.{PlainPlant}
use Rattle.lhg_plant.specs.Proper.{IsProper}
use Rattle.lhg_plant.specs.Explained.{IsExplained}
use Rattle.lhg_plant.specs.Loss.{PlainLoss}
use Rattle.lhg_plant.specs.Rank.{HasRank}
use Rattle.lhg_plant.specs.SpoilSteps.{PlainSpoilStep, ranked, AreLegalFrom}
use Rattle.lhg_spoil.specs.Known.{AreKnown}
use Rattle.lhg_spoil.specs.Moves.{PlainCtlMove}
use Rattle.lhg_spoil.specs.Exchange.{offer, SpoilPlace, answered_after, IsExchange}
use Rattle.lhg_spoil.specs.Exchanges.{ReachesFrom, SpoilsFrom, IsIllegalAt, IllegalFrom}
use Rattle.lhg_spoil.proofs.Outside.{rank_once}
use Rattle.lhg_spoil.proofs.ExchangeEnds.{offered, exchange_past}
use Rattle.lhg_spoil.proofs.PlayStates.{legal_append}
use Rattle.lhg_spoil.proofs.Traces.{Wins, win_more, exchange_legal}

module _ (a : PlainPlant) (losses : List PlainLoss) (moves : List PlainCtlMove) where
  -- n exchanges lead from a place to another, each from a state that its offer explains
  abbrev pub TellsFrom : ℕ → ℕ → SpoilPlace → List PlainSpoilStep → ℕ → SpoilPlace → Type 0
  TellsFrom zero i r trace k last = (trace ≡ []) × (k ≡ i) × (last ≡ r)
  TellsFrom (suc n) i r trace k last =
      (j : ℕ) × (steps : List PlainSpoilStep) × (next : SpoilPlace) × (more : List PlainSpoilStep)
      × IsExplained a r.state (offer a losses r.state).value × IsExchange a losses j r (slice_get moves i) steps next × TellsFrom n (answered_after r.again i) next more k last × (trace ≡ steps ++ more)

  -- they lead there
  pub tells_reach : (n i : ℕ) (r : SpoilPlace) (trace : List PlainSpoilStep) (k : ℕ) (last : SpoilPlace) → TellsFrom n i r trace k last → ReachesFrom a losses moves n i r trace k last
  tells_reach zero i r trace k last h = h
  tells_reach (suc n) i r trace k last h = (h.0, h.1, h.2, h.3, h.5, tells_reach n (answered_after r.again i) h.2 h.3 k last h.6, h.7)

  -- one more exchange
  pub tells_more : (n i : ℕ) (r : SpoilPlace) (trace : List PlainSpoilStep) (k : ℕ) (last : SpoilPlace) (j : ℕ) (steps : List PlainSpoilStep) (next : SpoilPlace) → TellsFrom n i r trace k last
      → IsExplained a last.state (offer a losses last.state).value → IsExchange a losses j last (slice_get moves k) steps next
      → TellsFrom (suc n) i r (trace ++ steps) (answered_after last.again k) next
  tells_more zero i r trace k last j steps next h e x =
      let at = subst (λ (q : SpoilPlace). IsExplained a q.state (offer a losses q.state).value) h.2 e in
      let there = subst (λ (q : SpoilPlace). IsExchange a losses j q (slice_get moves i) steps next) h.2 (subst (λ (m : ℕ). IsExchange a losses j last (slice_get moves m) steps next) h.1 x) in
      let count : answered_after last.again k ≡ answered_after r.again i = ap (λ (m : ℕ). answered_after last.again m) h.1 ∙ ap (λ (q : SpoilPlace). answered_after q.again i) h.2 in
      (j, steps, next, [], at, there, (refl, count, refl), ap (λ (xs : List PlainSpoilStep). xs ++ steps) h.0 ∙ sym (append-nil steps))
  tells_more (suc n) i r trace k last j steps next h e x = (
    h.0,
    h.1,
    h.2,
    h.3 ++ steps,
    h.4,
    h.5,
    tells_more n (answered_after r.again i) h.2 h.3 k last j steps next h.6 e x,
    ap (λ (xs : List PlainSpoilStep). xs ++ steps) h.7 ∙ append_assoc h.1 h.3 steps,
  )

  -- at a state of rank 0 they end
  pub tells_spoil : (n i : ℕ) (r : SpoilPlace) (trace : List PlainSpoilStep) (k : ℕ) (last : SpoilPlace) → TellsFrom n i r trace k last → HasRank a 0 last.state → SpoilsFrom a losses moves n i r trace last.state
  tells_spoil zero i r trace k last h rank = (subst (λ (q : SpoilPlace). HasRank a 0 q.state) h.2 rank, h.0, ap (λ (q : SpoilPlace). q.state) h.2)
  tells_spoil (suc n) i r trace k last h rank = (h.0, h.1, h.2, h.3, h.5, tells_spoil n (answered_after r.again i) h.2 h.3 k last h.6 rank, h.7)

  -- at a move that is not legal they stop
  pub tells_illegal : (n i : ℕ) (r : SpoilPlace) (trace : List PlainSpoilStep) (k : ℕ) (last : SpoilPlace) (j : ℕ) → TellsFrom n i r trace k last → IsIllegalAt a losses moves j k last
      → IllegalFrom a losses moves n i r (suc k) (trace ++ ranked (suc j) ∷ [])
  tells_illegal zero i r trace k last j h x =
      let there = subst (λ (q : SpoilPlace). IsIllegalAt a losses moves j i q) h.2 (subst (λ (m : ℕ). IsIllegalAt a losses moves j m last) h.1 x) in
      (j, there, ap suc h.1, ap (λ (xs : List PlainSpoilStep). xs ++ ranked (suc j) ∷ []) h.0)
  tells_illegal (suc n) i r trace k last j h x = (
    h.0,
    h.1,
    h.2,
    h.3 ++ ranked (suc j) ∷ [],
    h.5,
    tells_illegal n (answered_after r.again i) h.2 h.3 k last j h.6 x,
    ap (λ (xs : List PlainSpoilStep). xs ++ ranked (suc j) ∷ []) h.7 ∙ append_assoc h.1 h.3 (ranked (suc j) ∷ []),
  )

  module _ (k : ℕ) (known : AreKnown a losses k) (proper : IsProper a) where
    -- the rank falls by at least 1 with each
    pub tells_fall : (n c i m : ℕ) (r : SpoilPlace) (trace : List PlainSpoilStep) (d : ℕ) (last : SpoilPlace) → i ≤ k → HasRank a i r.state → TellsFrom n c r trace d last → HasRank a m last.state → n + m ≤ i
    tells_fall zero c i m r trace d last within rank h there =
        let same = rank_once a i m r.state rank (subst (λ (q : SpoilPlace). HasRank a m q.state) h.2 there) in
        omega arith
    tells_fall (suc n) c i m r trace d last within rank h there =
        let j = h.0 in
        let x = h.5 in
        let same : i ≡ suc j = rank_once a i (suc j) r.state rank x.removed in
        let under : j ≤ k = omega arith in
        let past = exchange_past a losses k known proper j under r (slice_get moves c) h.1 h.2 h.4 x in
        let less = past.within in
        let rest = tells_fall n (answered_after r.again c) past.rank m h.2 h.3 d last (omega arith) past.ranked h.6 there in
        omega arith

    -- their steps are legal
    pub tells_legal : (n c i : ℕ) (r : SpoilPlace) (trace : List PlainSpoilStep) (d : ℕ) (last : SpoilPlace) → i ≤ k → HasRank a i r.state → TellsFrom n c r trace d last → AreLegalFrom a r.state None trace last.state
    tells_legal zero c i r trace d last within rank h =
        subst (λ (xs : List PlainSpoilStep). AreLegalFrom a r.state None xs last.state) (sym h.0) (ap (λ (q : SpoilPlace). q.state) h.2)
    tells_legal (suc n) c i r trace d last within rank h =
        let j = h.0 in
        let x = h.5 in
        let same : i ≡ suc j = rank_once a i (suc j) r.state rank x.removed in
        let under : j ≤ k = omega arith in
        let past = exchange_past a losses k known proper j under r (slice_get moves c) h.1 h.2 h.4 x in
        let less = past.within in
        let rest = tells_legal n (answered_after r.again c) past.rank h.2 h.3 d last (omega arith) past.ranked h.6 in
        let o = offered a j r.state (offer a losses r.state).value x.removed h.4 in
        subst (λ (xs : List PlainSpoilStep). AreLegalFrom a r.state None xs last.state) (sym h.7)
        (legal_append a r.state None h.1 h.3 h.2.state last.state (exchange_legal a losses k known proper j under r (slice_get moves c) h.1 h.2 o x) rest)

    -- and those that end at a state of rank 0 win
    pub tells_win : (n c i : ℕ) (r : SpoilPlace) (trace : List PlainSpoilStep) (d : ℕ) (last : SpoilPlace) → i ≤ k → HasRank a i r.state → TellsFrom n c r trace d last → HasRank a 0 last.state
        → Wins a i n r.state trace last.state
    tells_win zero c i r trace d last within rank h there =
        let same : last.state ≡ r.state = ap (λ (q : SpoilPlace). q.state) h.2 in
        subst (λ (xs : List PlainSpoilStep). Wins a i 0 r.state xs last.state) (sym h.0) (record { few = omega arith; legal = same; falls = tt; unsafe = there })
    tells_win (suc n) c i r trace d last within rank h there =
        let j = h.0 in
        let x = h.5 in
        let same : i ≡ suc j = rank_once a i (suc j) r.state rank x.removed in
        let under : j ≤ k = omega arith in
        let past = exchange_past a losses k known proper j under r (slice_get moves c) h.1 h.2 h.4 x in
        let less = past.within in
        let rest = tells_win n (answered_after r.again c) past.rank h.2 h.3 d last (omega arith) past.ranked h.6 there in
        let o = offered a j r.state (offer a losses r.state).value x.removed h.4 in
        subst (λ (xs : List PlainSpoilStep). Wins a i (suc n) r.state xs last.state) (sym h.7)
        (subst (λ (m : ℕ). Wins a m (suc n) r.state (h.1 ++ h.3) last.state) (sym same) (win_more a losses k known proper j n under r (slice_get moves c) h.1 h.3 h.2 last.state past.rank past.within o x rest))
