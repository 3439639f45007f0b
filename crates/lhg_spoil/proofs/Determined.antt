-- What exchanges do is determined by the plant, the records, the start and the moves.
use Rattle.std.proofs.Common.{◌≡◌, inl, inr, ◌<◌, ◌-◌, ℕ, zero, suc, List, [], ◌∷◌, ◌++◌, slice_get, Option, Some, None, IsSomeAnd, refl, sym, ap, ◌∙◌, subst, arith}
use Rattle.lhg_row.specs.Row.{PlainPoint}
use Rattle.lhg_plant.specs.declared.plants.Side.{Side}
use Rattle.lhg_plant.specs.declared.plants.Side.TheVariants.{Ctl, Env, Pick}
use Rattle.lhg_plant.specs.Plant.{PlainPlant, PlainSwitch}
use Rattle.lhg_plant.specs.State.{PlainState}
use Rattle.lhg_plant.specs.Explained.{PlainWay}
use Rattle.lhg_plant.specs.Rank.{HasRank, IsPast}
use Rattle.lhg_plant.specs.Loss.{PlainLoss}
use Rattle.lhg_plant.specs.SpoilSteps.{PlainSpoilStep, ranked, acted, landed_at, preempted}
use Rattle.lhg_plant.proofs.Options.{none_there}
use Rattle.lhg_plant.proofs.Picks.{some_point}
use Rattle.lhg_plant.proofs.Rounds.{removed_once, round_safe}
use Rattle.lhg_plant.specs.Choice.{result_at}
use Rattle.lhg_spoil.specs.Fibres.{fibre}
use Rattle.lhg_spoil.specs.Moves.{PlainCtlMove, waits, acts, state_on, IsLegalMove}
use Rattle.lhg_spoil.specs.Exchange.{offer, run_upto, SpoilPlace, stands_at, again_at, asked, answered_after, ComesPast, IsFirstFibre, IsResultBy, AnswersAt, Answers, IsExchange}
use Rattle.lhg_spoil.specs.Exchanges.{SpoilsFrom, IsIllegalAt, IllegalFrom}
use Rattle.lhg_spoil.proofs.Outside.{rank_once}

-- two answers are the same
abbrev Same : List PlainSpoilStep → SpoilPlace → List PlainSpoilStep → SpoilPlace → Type 0
Same steps next made there = (steps ≡ made) × (next ≡ there)

module _ (a : PlainPlant) (losses : List PlainLoss) (j : ℕ) where
  -- there is one first switch with a fibre
  number_once : (p : PlainState) (d e : ℕ) (y z : PlainPoint) → IsFirstFibre a losses j p d y → IsFirstFibre a losses j p e z → d ≡ e
  number_once p d e y z h k =
      by (λ l. none_there (fibre a losses j d p).value y (k.first d l h.side) h.result) (λ l. none_there (fibre a losses j e p).value z (h.first e l k.side) k.result)
    where
      by : (d < e → ⊥) → (e < d → ⊥) → d ≡ e
      by f g = omega arith

  result_once : (p : PlainState) (d e : ℕ) (y z : PlainPoint) → d ≡ e → IsFirstFibre a losses j p d y → IsFirstFibre a losses j p e z → y ≡ z
  result_once p d e y z same h k = some_point y z (sym h.result ∙ ap (λ (c : ℕ). (fibre a losses j c p).value) same ∙ k.result)

  -- a controllable switch has one result
  pick_once : (side : Side) (e : ℕ) (p : PlainState) (to : Option PlainPoint) (y z : PlainPoint) → IsResultBy side a losses j e p to y → IsResultBy side a losses j e p to z → y ≡ z
  pick_once Ctl e p to y z h k = some_point y z (sym h ∙ k)
  pick_once Env e p to y z h k = absurd h
  pick_once Pick e p to y z h k = some_point y z (sym h ∙ k)

  picked_once : (o : Option PlainSwitch) (e : ℕ) (p : PlainState) (to : Option PlainPoint) (y z : PlainPoint) → IsSomeAnd o (λ w. IsResultBy w.side a losses j e p to y)
      → IsSomeAnd o (λ w. IsResultBy w.side a losses j e p to z) → y ≡ z
  picked_once None e p to y z h k = absurd h
  picked_once (Some w) e p to y z h k = pick_once w.side e p to y z h k

  -- a play does not come outside the round where it is not there
  not_both : {P : Type 0} (p : PlainState) (first : List PlainSpoilStep) (e : ℕ) (to : Option PlainPoint) (steps : List PlainSpoilStep) (next : SpoilPlace) → ComesPast a j p first e to steps next
      → ¬ IsPast a j p → P
  not_both p first e to steps next h f = absurd (f (record { rank = h.rank; within = h.within; ranked = h.past }))

  -- one answer to a switch
  at_once : (p : PlainState) (first : List PlainSpoilStep) (e : ℕ) (to : Option PlainPoint) (steps made : List PlainSpoilStep) (next there : SpoilPlace) → AnswersAt a losses j p first e to steps next
      → AnswersAt a losses j p first e to made there → Same steps next made there
  at_once p first e to steps made next there (inl h) (inl k) =
      let same : h.rank ≡ k.rank = rank_once a h.rank k.rank p h.past k.past in
      (h.does ∙ sym k.does, h.goes ∙ ap (λ (i : ℕ). record { state = p; again = again_at i e to }) same ∙ sym k.goes)
  at_once p first e to steps made next there (inl h) (inr (inl k)) = not_both p first e to steps next h k.inside
  at_once p first e to steps made next there (inl h) (inr (inr k)) = not_both p first e to steps next h k.inside
  at_once p first e to steps made next there (inr (inl h)) (inl k) = not_both p first e to made there k h.inside
  at_once p first e to steps made next there (inr (inr h)) (inl k) = not_both p first e to made there k h.inside
  at_once p first e to steps made next there (inr (inl h)) (inr (inl k)) =
      let d = number_once p h.number k.number h.result k.result h.fibres k.fibres in
      let y = result_once p h.number k.number h.result k.result d h.fibres k.fibres in
      let step = λ (c : ℕ) (v : PlainPoint). first ++ (preempted c (result_at a c v) ∷ []) in (
        h.does ∙ ap (λ (c : ℕ). step c h.result) d ∙ ap (λ (v : PlainPoint). step k.number v) y ∙ sym k.does,
        h.goes ∙ ap (λ (c : ℕ). stands_at (result_at a c h.result)) d ∙ ap (λ (v : PlainPoint). stands_at (result_at a k.number v)) y ∙ sym k.goes,
      )
  at_once p first e to steps made next there (inr (inl h)) (inr (inr k)) =
      absurd (none_there (fibre a losses j h.number p).value h.result (k.none h.number h.fibres.side) h.fibres.result)
  at_once p first e to steps made next there (inr (inr h)) (inr (inl k)) =
      absurd (none_there (fibre a losses j k.number p).value k.result (h.none k.number k.fibres.side) k.fibres.result)
  at_once p first e to steps made next there (inr (inr h)) (inr (inr k)) =
      let y = picked_once (slice_get a.switches e) e p to h.result k.result h.picks k.picks in (
        h.does ∙ ap (λ (v : PlainPoint). first ++ (acted e ∷ landed_at (result_at a e v) ∷ [])) y ∙ sym k.does,
        h.goes ∙ ap (λ (v : PlainPoint). stands_at (result_at a e v)) y ∙ sym k.goes,
      )

  -- one answer to a move
  answers_once : (s : PlainState) (way : PlainWay) (move : PlainCtlMove) (steps made : List PlainSpoilStep) (next there : SpoilPlace) → Answers a losses j s way move steps next
      → Answers a losses j s way move made there → Same steps next made there
  answers_once s way waits steps made next there h k = (h.does ∙ sym k.does, h.goes ∙ sym k.goes)
  answers_once s way (acts n q e to) steps made next there h k = at_once (state_on s way.moves n q) (run_upto s.at way.moves (n - 1) q) e to steps made next there h k

module _ (a : PlainPlant) (losses : List PlainLoss) where
  -- one exchange
  exchange_once : (i j : ℕ) (r : SpoilPlace) (move : Option PlainCtlMove) (steps made : List PlainSpoilStep) (next there : SpoilPlace) → IsExchange a losses i r move steps next
      → IsExchange a losses j r move made there → Same steps next made there
  exchange_once i j r move steps made next there h k =
      let n = removed_once a (suc i) (suc j) r.state h.removed k.removed in
      let same : i ≡ j = omega arith in
      let way = (offer a losses r.state).value.way in
      let moved = subst (λ (m : ℕ). Answers a losses m r.state way (asked r.again move way.moves) h.does next) same h.answers in
      let t = answers_once a losses j r.state way (asked r.again move way.moves) h.does k.does next there moved k.answers in
      (h.whole ∙ ap (λ (m : ℕ). ranked (suc m) ∷ h.does) same ∙ ap (λ (xs : List PlainSpoilStep). ranked (suc j) ∷ xs) t.0 ∙ sym k.whole, t.1)

  -- exchanges do not end where a further one begins
  not_ended : {P : Type 0} (j : ℕ) (r : SpoilPlace) (move : Option PlainCtlMove) (steps : List PlainSpoilStep) (next : SpoilPlace) → HasRank a 0 r.state → IsExchange a losses j r move steps next → P
  not_ended j r move steps next h x = absurd (h.1 (round_safe a x.removed.round r.state x.removed.kept))

  -- two outcomes of exchanges from one place are the same
  pub spoils_once : (moves : List PlainCtlMove) (n m c : ℕ) (r : SpoilPlace) (trace made : List PlainSpoilStep) (last there : PlainState) → SpoilsFrom a losses moves n c r trace last
      → SpoilsFrom a losses moves m c r made there → (n ≡ m) × (trace ≡ made) × (last ≡ there)
  spoils_once moves zero zero c r trace made last there h k = (refl, h.1 ∙ sym k.1, h.2 ∙ sym k.2)
  spoils_once moves zero (suc m) c r trace made last there h k = not_ended k.0 r (slice_get moves c) k.1 k.2 h.0 k.4
  spoils_once moves (suc n) zero c r trace made last there h k = not_ended h.0 r (slice_get moves c) h.1 h.2 k.0 h.4
  spoils_once moves (suc n) (suc m) c r trace made last there h k =
      let s = exchange_once h.0 k.0 r (slice_get moves c) h.1 k.1 h.2 k.2 h.4 k.4 in
      let rest = subst (λ (x : SpoilPlace). SpoilsFrom a losses moves n (answered_after r.again c) x h.3 last) s.1 h.5 in
      let t = spoils_once moves n m (answered_after r.again c) k.2 h.3 k.3 last there rest k.5 in
      (ap suc t.0, h.6 ∙ ap (λ (xs : List PlainSpoilStep). xs ++ h.3) s.0 ∙ ap (λ (xs : List PlainSpoilStep). k.1 ++ xs) t.1 ∙ sym k.6, t.2)

  -- an exchange answers a legal move
  not_legal : {P : Type 0} (moves : List PlainCtlMove) (i j c : ℕ) (r : SpoilPlace) (steps : List PlainSpoilStep) (next : SpoilPlace) → IsIllegalAt a losses moves i c r
      → IsExchange a losses j r (slice_get moves c) steps next → P
  not_legal moves i j c r steps next h x =
      let play = (offer a losses r.state).value.way.moves in
      let l = subst (λ (o : Option (ℕ × Option PlainPoint)). IsLegalMove a r.state play (asked o (slice_get moves c) play)) h.fresh x.legal in
      absurd (h.illegal (subst (λ (m : Option PlainCtlMove). IsLegalMove a r.state play (asked None m play)) h.is_there l))

  -- moves that are answered to the end have no first illegal one
  pub spoils_or_illegal : (moves : List PlainCtlMove) (n m c : ℕ) (r : SpoilPlace) (trace made : List PlainSpoilStep) (last : PlainState) (number : ℕ) → SpoilsFrom a losses moves n c r trace last
      → IllegalFrom a losses moves m c r number made → ⊥
  spoils_or_illegal moves zero zero c r trace made last number h k = h.0.1 (round_safe a k.1.removed.round r.state k.1.removed.kept)
  spoils_or_illegal moves zero (suc m) c r trace made last number h k = not_ended k.0 r (slice_get moves c) k.1 k.2 h.0 k.4
  spoils_or_illegal moves (suc n) zero c r trace made last number h k = not_legal moves k.0 h.0 c r h.1 h.2 k.1 h.4
  spoils_or_illegal moves (suc n) (suc m) c r trace made last number h k =
      let s = exchange_once h.0 k.0 r (slice_get moves c) h.1 k.1 h.2 k.2 h.4 k.4 in
      spoils_or_illegal moves n m (answered_after r.again c) k.2 h.3 k.3 last number (subst (λ (x : SpoilPlace). SpoilsFrom a losses moves n (answered_after r.again c) x h.3 last) s.1 h.5) k.5

  -- there is one first illegal move at most
  pub illegal_once : (moves : List PlainCtlMove) (n m c : ℕ) (r : SpoilPlace) (trace made : List PlainSpoilStep) (number other : ℕ) → IllegalFrom a losses moves n c r number trace
      → IllegalFrom a losses moves m c r other made → (number ≡ other) × (trace ≡ made)
  illegal_once moves zero zero c r trace made number other h k =
      let same = removed_once a (suc h.0) (suc k.0) r.state h.1.removed k.1.removed in
      (h.2 ∙ sym k.2, h.3 ∙ ap (λ (i : ℕ). ranked i ∷ []) same ∙ sym k.3)
  illegal_once moves zero (suc m) c r trace made number other h k = not_legal moves h.0 k.0 c r k.1 k.2 h.1 k.4
  illegal_once moves (suc n) zero c r trace made number other h k = not_legal moves k.0 h.0 c r h.1 h.2 k.1 h.4
  illegal_once moves (suc n) (suc m) c r trace made number other h k =
      let s = exchange_once h.0 k.0 r (slice_get moves c) h.1 k.1 h.2 k.2 h.4 k.4 in
      let rest = subst (λ (x : SpoilPlace). IllegalFrom a losses moves n (answered_after r.again c) x number h.3) s.1 h.5 in
      let t = illegal_once moves n m (answered_after r.again c) k.2 h.3 k.3 number other rest k.5 in
      (t.0, h.6 ∙ ap (λ (xs : List PlainSpoilStep). xs ++ h.3) s.0 ∙ ap (λ (xs : List PlainSpoilStep). k.1 ++ xs) t.1 ∙ sym k.6)
