-- Each list of moves is answered to the end, or has a first move that is not legal.
use Rattle.std.proofs.Common.{◌≡◌, ◌⊎◌, inl, inr, ◌<◌, ◌≤◌, ◌-◌, ℕ, zero, suc, true, false, List, [], ◌∷◌, ◌++◌, length, slice_get, Option, Some, None, IsSomeAnd, refl, sym, ap, subst, arith}
use Rattle.std.specs.Prelude.{is_some}
use Rattle.std.proofs.lemmas.Bool.{cases_lt}
use Rattle.std.proofs.lemmas.Option.{slice_get_past}
use Rattle.lhg_math.specs.Number.{Number, lt, nought, unit}
use Rattle.lhg_math.specs.NumberOrder.{lt_irrefl, nought_unit}
use Rattle.lhg_math.specs.Tests.{by_bool}
use Rattle.lhg_row.specs.Decisions.{nat_decided, clash}
use Rattle.lhg_row.specs.PieceLemmas.{piece_decided}
use Rattle.lhg_row.specs.Row.{PlainPoint}
use Rattle.lhg_row.specs.Piece.{InPiece}
use Rattle.lhg_motion.specs.Segment.{along}
use Rattle.lhg_motion.specs.SegmentLemmas.{along_start}
use Rattle.lhg_motion.specs.Play.{PlainMove}
use Rattle.lhg_plant.specs.declared.plants.Side.{Side}
use Rattle.lhg_plant.specs.declared.plants.Side.TheVariants.{Ctl, Env, Pick}
use Rattle.lhg_plant.specs.Plant.{PlainPlant, PlainSwitch}
use Rattle.lhg_plant.specs.Proper.{IsProper}
use Rattle.lhg_plant.specs.State.{PlainState, IsState, moved_to}
use Rattle.lhg_plant.specs.Legal.{LegalSwitch, HasSide, IsPlayFrom}
use Rattle.lhg_plant.specs.Explained.{PlainWay}
use Rattle.lhg_plant.specs.Rank.{HasRank, IsPast}
use Rattle.lhg_plant.specs.Loss.{PlainLoss}
use Rattle.lhg_plant.specs.SpoilSteps.{PlainSpoilStep, ranked, acted, landed_at, preempted}
use Rattle.lhg_plant.proofs.Decided.{state_decided}
use Rattle.lhg_plant.proofs.Options.{find_some, some_there, there_some, some_decided_by, some_same}
use Rattle.lhg_plant.proofs.RunInside.{flow_length}
use Rattle.lhg_plant.specs.Choice.{target_in, result_at}
use Rattle.lhg_spoil.specs.Facing.{IsOffer, MayRepeat}
use Rattle.lhg_spoil.specs.Fibres.{fibre}
use Rattle.lhg_spoil.specs.Known.{AreKnown, AreOffered}
use Rattle.lhg_spoil.specs.Moves.{PlainCtlMove, waits, acts, MayTake, IsLegalAct, IsLegalMove, state_on}
use Rattle.lhg_spoil.specs.Exchange.{offer, SpoilPlace, stands_at, again_at, asked_again, asked, answered_after, run_upto, run_whole, last_step, end_of, IsFirstFibre, HasNoFibre, IsResultBy, Answers, IsExchange}
use Rattle.lhg_spoil.specs.Exchanges.{SpoilsFrom, IllegalFrom, IsIllegalAt}
use Rattle.lhg_spoil.specs.Work.{legal_results}
use Rattle.lhg_spoil.proofs.Outside.{past_decided}
use Rattle.lhg_spoil.proofs.LegalResults.{results-exact}
use Rattle.lhg_spoil.proofs.PlayStates.{inner_place, play_state, first_flow}
use Rattle.lhg_spoil.proofs.ExchangeEnds.{offered, act_state, act_pass, plant_picks, exchange_past}

-- ---- legal moves
module _ (a : PlainPlant) (proper : IsProper a) (e : ℕ) (p : PlainState) (state : IsState a p) (w : PlainSwitch) (there : slice_get a.switches e ≡ Some w) (leaves : w.from ≡ p.loc) where
  -- a switch leads to a point or not
  switch_decided : (y : PlainPoint) → LegalSwitch a e p (result_at a e y) ⊎ ¬ LegalSwitch a e p (result_at a e y)
  switch_decided y =
      let enters : w.to ≡ (result_at a e y).loc = ap target_in (sym there) in
      elim (state_decided a (result_at a e y)) [
        | inl i ↦
            elim (piece_decided w.jump (p.at ++ y)) [
              | inl h ↦ inl (record { switch = w; is_there = there; leaves = leaves; enters = enters; start = state; result = i; jump = h })
              | inr f ↦ inr (λ l. f (subst (λ (v : PlainSwitch). InPiece v.jump (p.at ++ y)) (some_same (slice_get a.switches e) l.switch w l.is_there there) l.jump))
            ]
        | inr f ↦ inr (λ l. f l.result)
      ]

  -- the controller may take it or not
  take_decided : (side : Side) (to : Option PlainPoint) → MayTake side a e p to ⊎ ¬ MayTake side a e p to
  take_decided Env to = inr (λ h. h)
  take_decided Ctl (Some y) = inr (λ h. (let f = h.0 in absurd cc))
  take_decided Ctl None =
      let exact = results-exact a proper e p state w there leaves in
      by_bool (is_some (legal_results a e p).value) (λ h. inl (refl, exact.0 h)) (λ f. inr (λ h. clash (is_some (legal_results a e p).value) (exact.1 h.1) f))
  take_decided Pick None = inr (λ h. (let f = h.1 in absurd cc))
  take_decided Pick (Some y) =
      elim (switch_decided y) [
        | inl h ↦ inl (y, refl, h)
        | inr f ↦ inr (λ h. f (subst (λ (v : PlainPoint). LegalSwitch a e p (result_at a e v)) (sym (same_point y h.0 h.1)) h.2))
      ]
    where
      same_point : (y z : PlainPoint) → Some y ≡ Some z → y ≡ z
      same_point y z h = cc

module _ (a : PlainPlant) (losses : List PlainLoss) (k : ℕ) (known : AreKnown a losses k) (proper : IsProper a) (j : ℕ) (within : j ≤ k) (s : PlainState) (way : PlainWay) (o : IsOffer a j s way) where
  -- an act is legal or not
  act_decided : (n : ℕ) (q : Number) (e : ℕ) (to : Option PlainPoint) → IsLegalAct a s way.moves n q e to ⊎ ¬ IsLegalAct a s way.moves n q e to
  act_decided n q e to =
      elim (cases_lt 0 n) [
        | inl low ↦
            elim (cases_lt (length way.moves) n) [
              | inl past ↦ inr (λ h. (let high = h.within in omega arith))
              | inr high ↦
                  by_bool (lt q nought)
                  (λ below. inr (λ h. clash (lt q nought) below h.from_start))
                  (λ from. by_bool (lt q unit) (λ before. by_switch low high from before) (λ end. inr (λ h. clash (lt q unit) h.before_end end)))
            ]
        | inr none ↦ inr (λ h. (let low = h.counted in omega arith))
      ]
    where
      by_switch : 0 < n → n ≤ length way.moves → lt q nought ≡ false → lt q unit ≡ true → IsLegalAct a s way.moves n q e to ⊎ ¬ IsLegalAct a s way.moves n q e to
      by_switch low high from before =
          elim (find_some (slice_get a.switches e)) [
            | inr none ↦ inr (λ h. subst (λ (x : Option PlainSwitch). IsSomeAnd x (λ w. (w.from ≡ s.loc) × MayTake w.side a e (state_on s way.moves n q) to)) none h.takes)
            | inl w ↦
                elim (nat_decided w.0.from s.loc) [
                  | inr f ↦ inr (λ h. f (some_there (slice_get a.switches e) w.0 (λ v. (v.from ≡ s.loc) × MayTake v.side a e (state_on s way.moves n q) to) w.1 h.takes).0)
                  | inl leaves ↦
                      (let state = at_place low high from before in
                      elim (take_decided a proper e (state_on s way.moves n q) state w.0 w.1 leaves w.0.side to) [
                        | inr f ↦ inr (λ h. f (some_there (slice_get a.switches e) w.0 (λ v. (v.from ≡ s.loc) × MayTake v.side a e (state_on s way.moves n q) to) w.1 h.takes).1)
                        | inl t ↦
                            inl (record {
                              counted = low;
                              within = high;
                              from_start = from;
                              before_end = before;
                              takes = there_some (slice_get a.switches e) w.0 (λ v. (v.from ≡ s.loc) × MayTake v.side a e (state_on s way.moves n q) to) w.1 (leaves, t);
                            })
                      ])
                ]
          ]
        where
          at_place : 0 < n → n ≤ length way.moves → lt q nought ≡ false → lt q unit ≡ true → IsState a (state_on s way.moves n q)
          at_place low high from before = play_state a s way.moves (n - 1) q o.escape.play (omega arith) (inner_place q from before)

  -- a move is legal or not
  pub legal_decided : (move : PlainCtlMove) → IsLegalMove a s way.moves move ⊎ ¬ IsLegalMove a s way.moves move
  legal_decided waits = inl tt
  legal_decided (acts n q e to) = act_decided n q e to

  -- ---- answers
  env_or_not : (side : Side) → (side ≡ Env) ⊎ ¬ (side ≡ Env)
  env_or_not Ctl = inr (λ h. absurd cc)
  env_or_not Env = inl refl
  env_or_not Pick = inr (λ h. absurd cc)

  module _ (p : PlainState) where
    abbrev Found : Type 0
    Found = (d : ℕ) × (y : PlainPoint) × IsFirstFibre a losses j p d y

    abbrev NoneBelow : ℕ → Type 0
    NoneBelow n = (d : ℕ) → d < n → HasSide a d Env → (fibre a losses j d p).value ≡ None

    none_more : (n : ℕ) → NoneBelow n → (HasSide a n Env → (fibre a losses j n p).value ≡ None) → NoneBelow (suc n)
    none_more n below here d less side =
        elim (nat_decided d n) [
          | inl e ↦ subst (λ (c : ℕ). (fibre a losses j c p).value ≡ None) (sym e) (here (subst (λ (c : ℕ). HasSide a c Env) e side))
          | inr f ↦ below d (below_it d less f) side
        ]
      where
        below_it : (d : ℕ) → d < suc n → ¬ (d ≡ n) → d < n
        below_it d l f = elim (cases_lt d n) [ inl h ↦ h | inr h ↦ absurd (f (omega arith)) ]

    search_below : (n : ℕ) → Found ⊎ NoneBelow n
    search_below zero = inr (λ d less side. absurd (omega arith))
    search_below (suc n) =
        elim (search_below n) [
          | inl f ↦ inl f
          | inr none ↦
              elim (some_decided_by _ (λ w. env_or_not w.side) (slice_get a.switches n)) [
                | inr f ↦ inr (none_more n none (λ side. absurd (f side)))
                | inl side ↦
                    elim (find_some (fibre a losses j n p).value) [
                      | inl y ↦ inl (n, y.0, record { side = side; result = y.1; first = none })
                      | inr e ↦ inr (none_more n none (λ h. e))
                    ]
              ]
        ]

    -- some uncontrollable switch is the first with a fibre, or none has one
    first_or_none : Found ⊎ HasNoFibre a losses j p
    first_or_none =
        elim (search_below (length a.switches)) [
          | inl f ↦ inl f
          | inr none ↦ inr (λ d side. elim (cases_lt d (length a.switches)) [
            | inl less ↦ none d less side
            | inr past ↦ absurd (subst (λ (x : Option PlainSwitch). IsSomeAnd x (λ w. w.side ≡ Env)) (slice_get_past a.switches d past) side)
          ])
        ]

  -- a legal move has an answer
  pub answer_exists : (move : PlainCtlMove) → IsLegalMove a s way.moves move → (steps : List PlainSpoilStep) × (next : SpoilPlace) × Answers a losses j s way move steps next
  answer_exists waits l = (run_whole way.moves ++ last_step way.last, stands_at (end_of s way.moves way.last), record { does = refl; goes = refl })
  answer_exists (acts n q e to) l =
      elim (past_decided a losses k known proper j within (state_on s way.moves n q)) [
        | inl past ↦ (run_upto s.at way.moves (n - 1) q, record { state = (state_on s way.moves n q); again = again_at past.rank e to }, inl (record { rank = past.rank; within = past.within; past = past.ranked; does = refl; goes = refl }))
        | inr inside ↦
            elim (first_or_none (state_on s way.moves n q)) [
              | inl f ↦ (run_upto s.at way.moves (n - 1) q ++ (preempted f.0 (result_at a f.0 f.1) ∷ []), stands_at (result_at a f.0 f.1), inr (inl (record { inside = inside; number = f.0; result = f.1; fibres = f.2; does = refl; goes = refl })))
              | inr none ↦
                  (let y = result inside none in
                  (run_upto s.at way.moves (n - 1) q ++ (acted e ∷ landed_at (result_at a e y.0) ∷ []), stands_at (result_at a e y.0), inr (inr (record { inside = inside; none = none; result = y.0; picks = y.1; does = refl; goes = refl }))))
            ]
      ]
    where
      result : ¬ IsPast a j (state_on s way.moves n q) → HasNoFibre a losses j (state_on s way.moves n q) → (y : PlainPoint) × IsSomeAnd (slice_get a.switches e) (λ w. IsResultBy w.side a losses j e (state_on s way.moves n q) to y)
      result inside none = go (slice_get a.switches e) refl l.takes
        where
          by : (w : PlainSwitch) → slice_get a.switches e ≡ Some w → (side : Side) → w.side ≡ side → MayTake side a e (state_on s way.moves n q) to → (y : PlainPoint) × IsResultBy side a losses j e (state_on s way.moves n q) to y
          by w there Ctl has h =
              plant_picks a losses k known proper j within (state_on s way.moves n q) (act_state a losses k known proper j within s way o n q e to l) (act_pass a losses k known proper j within s way o n q e to l) inside none e
              (there_some (slice_get a.switches e) w (λ v. v.side ≡ Ctl) there has) h.1.0 h.1.1
          by w there Env has h = absurd h
          by w there Pick has h = (h.0, h.1)

          go : (x : Option PlainSwitch) → slice_get a.switches e ≡ x → IsSomeAnd x (λ w. (w.from ≡ s.loc) × MayTake w.side a e (state_on s way.moves n q) to) → (y : PlainPoint) × IsSomeAnd x (λ w. IsResultBy w.side a losses j e (state_on s way.moves n q) to y)
          go None there h = absurd h
          go (Some w) there h = by w there w.side refl h.1

-- ---- moves that are asked for again
-- what is answered again is legal
again_legal : (a : PlainPlant) (j : ℕ) (s : PlainState) (way : PlainWay) → IsOffer a j s way → (act : ℕ × Option PlainPoint) → IsSomeAnd (slice_get a.switches act.0) (λ w. (w.from ≡ s.loc) × MayTake w.side a act.0 s act.1)
    → IsLegalMove a s way.moves (asked_again way.moves act)
again_legal a j s way o act h = go way.moves o.escape.play
  where
    go : (ms : List PlainMove) → IsPlayFrom a s ms → IsLegalMove a s ms (asked_again ms act)
    go [] play = tt
    go (m ∷ ms) play =
        let start : moved_to s (along s.at m.to nought) ≡ s = ap (λ w. moved_to s w) (along_start s.at m.to (flow_length a s m.time m.to (first_flow a s m ms play))) in
        record {
          counted = omega arith;
          within = omega arith;
          from_start = lt_irrefl nought;
          before_end = nought_unit;
          takes = subst (λ (p : PlainState). IsSomeAnd (slice_get a.switches act.0) (λ w. (w.from ≡ s.loc) × MayTake w.side a act.0 p act.1)) (sym start) h;
        }

-- so a move that is not legal stands next in the list
pub illegal_at : (a : PlainPlant) (losses : List PlainLoss) (moves : List PlainCtlMove) (j c : ℕ) (r : SpoilPlace) → HasRank a (suc j) r.state → IsOffer a j r.state (offer a losses r.state).value.way → MayRepeat a r
    → ¬ IsLegalMove a r.state (offer a losses r.state).value.way.moves (asked r.again (slice_get moves c) (offer a losses r.state).value.way.moves) → IsIllegalAt a losses moves j c r
illegal_at a losses moves j c r rank o repeats f = by r.again refl (slice_get moves c) refl
  where
    by : (x : Option (ℕ × Option PlainPoint)) → r.again ≡ x → (m : Option PlainCtlMove) → slice_get moves c ≡ m → IsIllegalAt a losses moves j c r
    by (Some act) e m g =
        absurd (f (subst (λ (x : Option (ℕ × Option PlainPoint)). IsLegalMove a r.state (offer a losses r.state).value.way.moves (asked x (slice_get moves c) (offer a losses r.state).value.way.moves)) (sym e) (again_legal a j r.state (offer a losses r.state).value.way o act (repeats act e))))
    by None e None g =
        absurd (f (subst (λ (x : Option (ℕ × Option PlainPoint)). IsLegalMove a r.state (offer a losses r.state).value.way.moves (asked x (slice_get moves c) (offer a losses r.state).value.way.moves)) (sym e)
        (subst (λ (m : Option PlainCtlMove). IsLegalMove a r.state (offer a losses r.state).value.way.moves (asked None m (offer a losses r.state).value.way.moves)) (sym g) tt)))
    by None e (Some move) g = record {
      removed = rank;
      fresh = e;
      move = move;
      is_there = g;
      illegal = λ l. f (subst (λ (x : Option (ℕ × Option PlainPoint)). IsLegalMove a r.state (offer a losses r.state).value.way.moves (asked x (slice_get moves c) (offer a losses r.state).value.way.moves)) (sym e)
          (subst (λ (m : Option PlainCtlMove). IsLegalMove a r.state (offer a losses r.state).value.way.moves (asked None m (offer a losses r.state).value.way.moves)) (sym g) l));
    }

-- what an answer leaves to be answered again may be taken where it ends
pub answer_repeats : (a : PlainPlant) (losses : List PlainLoss) (j : ℕ) (s : PlainState) (way : PlainWay) (move : PlainCtlMove) (steps : List PlainSpoilStep) (next : SpoilPlace) → IsLegalMove a s way.moves move
    → Answers a losses j s way move steps next → MayRepeat a next
answer_repeats a losses j s way waits steps next l h = subst (MayRepeat a) (sym h.goes) (λ act k. absurd cc)
answer_repeats a losses j s way (acts n q e to) steps next l (inl h) = subst (MayRepeat a) (sym h.goes) (again h.rank)
  where
    again : (rank : ℕ) → MayRepeat a (record { state = state_on s way.moves n q; again = again_at rank e to })
    again zero act k = absurd cc
    again (suc rank) act k =
        let same : ◌≡◌ {A = ℕ × Option PlainPoint} (e, to) act = cc in
        subst (λ (x : ℕ × Option PlainPoint). IsSomeAnd (slice_get a.switches x.0) (λ w. (w.from ≡ (state_on s way.moves n q).loc) × MayTake w.side a x.0 (state_on s way.moves n q) x.1)) same l.takes
answer_repeats a losses j s way (acts n q e to) steps next l (inr (inl h)) = subst (MayRepeat a) (sym h.goes) (λ act k. absurd cc)
answer_repeats a losses j s way (acts n q e to) steps next l (inr (inr h)) = subst (MayRepeat a) (sym h.goes) (λ act k. absurd cc)

-- ---- outcomes
module _ (a : PlainPlant) (losses : List PlainLoss) (k : ℕ) (known : AreKnown a losses k) (proper : IsProper a) (offers : AreOffered a losses k) (moves : List PlainCtlMove) where
  abbrev Ends : ℕ → SpoilPlace → Type 0
  Ends c r = (n : ℕ) × (trace : List PlainSpoilStep) × (last : PlainState) × SpoilsFrom a losses moves n c r trace last

  abbrev Stops : ℕ → SpoilPlace → Type 0
  Stops c r = (n : ℕ) × (number : ℕ) × (trace : List PlainSpoilStep) × IllegalFrom a losses moves n c r number trace

  -- so a move that is not legal stands next in the list
  stuck : (j c : ℕ) (r : SpoilPlace) → HasRank a (suc j) r.state → IsOffer a j r.state (offer a losses r.state).value.way → MayRepeat a r
      → ¬ IsLegalMove a r.state (offer a losses r.state).value.way.moves (asked r.again (slice_get moves c) (offer a losses r.state).value.way.moves) → Stops c r
  stuck j c r rank o repeats f = (0, suc c, ranked (suc j) ∷ [], (j, illegal_at a losses moves j c r rank o repeats f, refl, refl))

  -- from each rank the moves are answered to the end, or one is not legal
  pub outcome_from : (b i c : ℕ) (r : SpoilPlace) → i ≤ b → i ≤ k → HasRank a i r.state → MayRepeat a r → Ends c r ⊎ Stops c r
  outcome_from b zero c r low high rank repeats = inl (0, [], r.state, (rank, refl, refl))
  outcome_from zero (suc j) c r low high rank repeats = absurd (omega arith)
  outcome_from (suc b) (suc j) c r low high rank repeats =
      let e = offers r.state j (omega arith) rank in
      let under : j ≤ k = omega arith in
      let way = (offer a losses r.state).value.way in
      let o = offered a j r.state (offer a losses r.state).value rank e in
      elim (legal_decided a losses k known proper j under r.state way o (asked r.again (slice_get moves c) way.moves)) [
        | inr f ↦ inr (stuck j c r rank o repeats f)
        | inl l ↦
            (let t = answer_exists a losses k known proper j under r.state way o (asked r.again (slice_get moves c) way.moves) l in
            let steps : List PlainSpoilStep = ranked (suc j) ∷ t.0 in
            let x : IsExchange a losses j r (slice_get moves c) steps t.1 = record { removed = rank; legal = l; does = t.0; answers = t.2; whole = refl } in
            let past = exchange_past a losses k known proper j under r (slice_get moves c) steps t.1 e x in
            let less = past.within in
            elim (outcome_from b past.rank (answered_after r.again c) t.1 (omega arith) (omega arith) past.ranked (answer_repeats a losses j r.state way (asked r.again (slice_get moves c) way.moves) t.0 t.1 l t.2)) [
              | inl h ↦ inl (suc h.0, steps ++ h.1, h.2, (j, steps, t.1, h.1, x, h.3, refl))
              | inr h ↦ inr (suc h.0, h.1, steps ++ h.2, (j, steps, t.1, h.2, x, h.3, refl))
            ])
      ]
