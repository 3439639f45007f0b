-- Each exchange from a rank ends at a lower one: where the plant does not go first, a switch on an escape has a result outside the round.
use Rattle.std.proofs.Common.{◌≡◌, ◌⊎◌, inl, inr, ◌≤◌, ◌-◌, ℕ, suc, List, slice_get, Option, Some, None, IsSomeAnd, refl, sym, ◌∙◌, subst, arith}
use Rattle.lhg_math.specs.Number.{Number}
use Rattle.lhg_row.specs.Row.{PlainPoint}
use Rattle.lhg_motion.specs.Play.{last_point}
use Rattle.lhg_plant.specs.declared.plants.Side.{Side}
use Rattle.lhg_plant.specs.declared.plants.Side.TheVariants.{Ctl, Env, Pick}
use Rattle.lhg_plant.specs.Plant.{PlainPlant, PlainSwitch}
use Rattle.lhg_plant.specs.Proper.{IsProper}
use Rattle.lhg_plant.specs.State.{PlainState, IsState, moved_to}
use Rattle.lhg_plant.specs.Legal.{LegalSwitch, HasSide}
use Rattle.lhg_plant.specs.OutBack.{Out, StaysBy, Back}
use Rattle.lhg_plant.specs.Escape.{MayPass}
use Rattle.lhg_plant.specs.Explained.{PlainWay, PlainEscape, IsLeft, IsExplained}
use Rattle.lhg_plant.specs.Rank.{IsPast}
use Rattle.lhg_plant.specs.Round.{InRound, IsRemovedIn}
use Rattle.lhg_plant.specs.Loss.{PlainLoss}
use Rattle.lhg_plant.specs.SpoilSteps.{PlainSpoilStep}
use Rattle.lhg_plant.proofs.Options.{find_some, none_there, there_some}
use Rattle.lhg_plant.proofs.Picks.{some_point}
use Rattle.lhg_plant.proofs.Rounds.{removed_once}
use Rattle.lhg_plant.specs.Choice.{result_at}
use Rattle.lhg_spoil.specs.Facing.{IsOffer}
use Rattle.lhg_spoil.specs.Fibres.{fibre}
use Rattle.lhg_spoil.specs.Known.{AreKnown}
use Rattle.lhg_spoil.specs.Moves.{PlainCtlMove, waits, acts, MayTake, IsLegalAct, state_on, IsLegalMove}
use Rattle.lhg_spoil.specs.Exchange.{offer, end_of, SpoilPlace, HasNoFibre, IsResultBy, Answers, IsExchange}
use Rattle.lhg_spoil.proofs.Outside.{not_past_inside, past_decided, gone_past}
use Rattle.lhg_spoil.proofs.FibreResults.{fibre_right, fibre_found}
use Rattle.lhg_spoil.proofs.PlayStates.{inner_place, play_state}

-- an explanation of the state is one
pub offered : (a : PlainPlant) (j : ℕ) (s : PlainState) (e : PlainEscape) → IsRemovedIn a (suc j) s → IsExplained a s e → IsOffer a j s e.way
offered a j s e removed h =
    let t = removed_once a e.round (suc j) s h.removed removed in
    let n = h.number in
    let same : h.before ≡ j = omega arith in
    subst (λ (i : ℕ). IsOffer a i s e.way) same (record { escape = h.escape; left = h.left })

module _ (a : PlainPlant) (losses : List PlainLoss) (k : ℕ) (known : AreKnown a losses k) (proper : IsProper a) (j : ℕ) (within : j ≤ k) where
  gone : (s : PlainState) → IsState a s → ¬ InRound a j s → IsPast a j s
  gone = gone_past a losses k known proper j within

  past_or_not : (s : PlainState) → IsPast a j s ⊎ ¬ IsPast a j s
  past_or_not = past_decided a losses k known proper j within

  -- a state of the play at which the controller acts, which is not outside the round and from which the plant cannot go first
  module _ (p : PlainState) (state : IsState a p) (pass : MayPass a (InRound a j) (Back a (InRound a j)) p) (inside : ¬ IsPast a j p) (none : HasNoFibre a losses j p) where
    inside_at : (z : PlainState) → IsState a z → ¬ IsPast a j z → InRound a j z
    inside_at z is f = not_past_inside a j z is f j (omega arith)

    not_out : ¬ Out a (InRound a j) p
    not_out (inl h) = h.1 (inside_at p state inside)
    not_out (inr h) =
        let f = fibre_found a losses k known proper j within h.number p h.result h.legal (gone h.result h.legal.result h.gone) in
        none_there (fibre a losses j h.number p).value f.0 (none h.number h.side) f.1

    -- so it is not in Back
    not_back : ¬ Back a (InRound a j) p
    not_back b = elim pass [ inl o ↦ not_out o | inr n ↦ n b ]

    back_by : (side : Side) (e : ℕ) → HasSide a e side → StaysBy side a (InRound a j) e p → Back a (InRound a j) p
    back_by side e has stays = (e, go (slice_get a.switches e) has)
      where
        go : (o : Option PlainSwitch) → IsSomeAnd o (λ w. w.side ≡ side) → IsSomeAnd o (λ w. StaysBy w.side a (InRound a j) e p)
        go None h = h
        go (Some w) h = subst (λ (x : Side). StaysBy x a (InRound a j) e p) (sym h) stays

    -- a switch whose result the plant picks has a fibre, where it has a legal result
    pub plant_picks : (e : ℕ) → HasSide a e Ctl → (z : PlainState) → LegalSwitch a e p z → (y : PlainPoint) × ((fibre a losses j e p).value ≡ Some y)
    plant_picks e has z legal =
        elim (find_some (fibre a losses j e p).value) [ inl f ↦ f | inr n ↦ absurd (not_back (back_by Ctl e has ((z, legal), kept n))) ]
      where
        kept : (fibre a losses j e p).value ≡ None → (x : PlainState) → LegalSwitch a e p x → InRound a j x
        kept n x l =
            elim (past_or_not x) [
              | inl q ↦ (let f = fibre_found a losses k known proper j within e p x l q in absurd (none_there (fibre a losses j e p).value f.0 n f.1))
              | inr f ↦ inside_at x l.result f
            ]

    -- a result that the controller picks lies outside the round
    pub named_past : (e : ℕ) → HasSide a e Pick → (z : PlainState) → LegalSwitch a e p z → IsPast a j z
    named_past e has z legal =
        elim (past_or_not z) [ inl q ↦ q | inr f ↦ absurd (not_back (back_by Pick e has (z, legal, inside_at z legal.result f))) ]

    -- what a controllable switch leads to is legal and lies outside the round
    abbrev Ends : ℕ → PlainPoint → Type 0
    Ends e y = LegalSwitch a e p (result_at a e y) × IsPast a j (result_at a e y)

    pub switch_past : (e : ℕ) (to : Option PlainPoint) (y : PlainPoint) → IsSomeAnd (slice_get a.switches e) (λ w. (w.from ≡ p.loc) × MayTake w.side a e p to)
        → IsSomeAnd (slice_get a.switches e) (λ w. IsResultBy w.side a losses j e p to y) → Ends e y
    switch_past e to y takes picks = go (slice_get a.switches e) refl takes picks
      where
        by : (w : PlainSwitch) → slice_get a.switches e ≡ Some w → (side : Side) → w.side ≡ side → MayTake side a e p to → IsResultBy side a losses j e p to y → Ends e y
        by w there Ctl has h g = fibre_right a losses k known proper j within e p y state g
        by w there Env has h g = absurd h
        by w there Pick has h g =
            let same : h.0 ≡ y = some_point h.0 y (sym h.1 ∙ g) in
            let legal = subst (λ (v : PlainPoint). LegalSwitch a e p (result_at a e v)) same h.2 in
            (legal, named_past e (there_some (slice_get a.switches e) w (λ v. v.side ≡ Pick) there has) (result_at a e y) legal)

        go : (o : Option PlainSwitch) → slice_get a.switches e ≡ o → IsSomeAnd o (λ w. (w.from ≡ p.loc) × MayTake w.side a e p to)
            → IsSomeAnd o (λ w. IsResultBy w.side a losses j e p to y) → Ends e y
        go None there h g = absurd h
        go (Some w) there h g = by w there w.side refl h.1 g

  -- ---- answers
  module _ (s : PlainState) (way : PlainWay) (o : IsOffer a j s way) where
    -- a play that is run whole ends outside the round
    pub wait_past : IsPast a j (end_of s way.moves way.last)
    wait_past = go way.last o.left
      where
        go : (last : Option (ℕ × PlainState)) → IsLeft a (InRound a j) (moved_to s (last_point s.at way.moves)) last → IsPast a j (end_of s way.moves last)
        go None h = gone (moved_to s (last_point s.at way.moves)) h.0 h.1
        go (Some last) h = gone last.1 h.1.result h.2

    -- the place of a legal act is one of a state that the escape may pass
    pub act_state : (n : ℕ) (q : Number) (e : ℕ) (to : Option PlainPoint) → IsLegalAct a s way.moves n q e to → IsState a (state_on s way.moves n q)
    act_state n q e to l =
        let low = l.counted in
        let high = l.within in
        play_state a s way.moves (n - 1) q o.escape.play (omega arith) (inner_place q l.from_start l.before_end)

    pub act_pass : (n : ℕ) (q : Number) (e : ℕ) (to : Option PlainPoint) → IsLegalAct a s way.moves n q e to → MayPass a (InRound a j) (Back a (InRound a j)) (state_on s way.moves n q)
    act_pass n q e to l =
        let low = l.counted in
        let high = l.within in
        o.escape.earlier (n - 1) q (record { flow = omega arith; place = inner_place q l.from_start l.before_end; before_end = λ h. l.before_end })

    -- each answer ends outside the round
    pub answer_past : (move : PlainCtlMove) (steps : List PlainSpoilStep) (next : SpoilPlace) → IsLegalMove a s way.moves move → Answers a losses j s way move steps next → IsPast a j next.state
    answer_past waits steps next l h = subst (λ (n : SpoilPlace). IsPast a j n.state) (sym h.goes) wait_past
    answer_past (acts n q e to) steps next l (inl h) =
        subst (λ (x : SpoilPlace). IsPast a j x.state) (sym h.goes) (record { rank = h.rank; within = h.within; ranked = h.past })
    answer_past (acts n q e to) steps next l (inr (inl h)) =
        subst (λ (x : SpoilPlace). IsPast a j x.state) (sym h.goes) (fibre_right a losses k known proper j within h.number (state_on s way.moves n q) h.result (act_state n q e to l) h.fibres.result).1
    answer_past (acts n q e to) steps next l (inr (inr h)) =
        subst (λ (x : SpoilPlace). IsPast a j x.state) (sym h.goes)
        (switch_past (state_on s way.moves n q) (act_state n q e to l) (act_pass n q e to l) h.inside h.none e to h.result l.takes h.picks).1

  -- each exchange ends at a lower rank
  pub exchange_past : (r : SpoilPlace) (move : Option PlainCtlMove) (steps : List PlainSpoilStep) (next : SpoilPlace) → IsExplained a r.state (offer a losses r.state).value
      → IsExchange a losses j r move steps next → IsPast a j next.state
  exchange_past r move steps next h x =
      answer_past r.state (offer a losses r.state).value.way (offered a j r.state (offer a losses r.state).value x.removed h) _ x.does next x.legal x.answers
