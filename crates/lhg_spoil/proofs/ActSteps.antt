-- What is known of a switch that the controller asks for, and of its answer.
use Rattle.std.proofs.Common.{◌≡◌, ◌↔◌, inl, inr, ◌<◌, ℕ, Bool, List, [], ◌∷◌, ◌++◌, length, slice_get, Option, Some, None, IsSomeAnd, refl, sym, subst, arith}
use Rattle.std.specs.Prelude.{IsTrue}
use Rattle.std.specs.Option.{IsSome}
use Rattle.std.proofs.lemmas.Option.{slice_get_within}
use Rattle.lhg_math.specs.Number.{Number}
use Rattle.lhg_row.specs.Piece.{InPiece}
use Rattle.lhg_row.specs.Row.{PlainPoint}
use Rattle.lhg_motion.specs.Play.{PlainMove}
use Rattle.lhg_plant.specs.declared.plants.Side.{Side}
use Rattle.lhg_plant.specs.declared.plants.Side.TheVariants.{Ctl}
use Rattle.lhg_plant.specs.Plant.{PlainPlant, PlainLocation, PlainSwitch}
use Rattle.lhg_plant.specs.State.{PlainState, IsState}
use Rattle.lhg_plant.specs.Legal.{LegalSwitch, HasSide}
use Rattle.lhg_plant.specs.Loss.{PlainLoss}
use Rattle.lhg_plant.specs.Rank.{IsPast}
use Rattle.lhg_plant.specs.SpoilSteps.{PlainSpoilStep, acted, landed_at, preempted}
use Rattle.lhg_plant.proofs.Options.{some_weaken}
use Rattle.lhg_plant.specs.Choice.{result_at}
use Rattle.lhg_spoil.specs.Exchange.{SpoilPlace, stands_at, again_at, IsFirstFibre, HasNoFibre, IsResultBy, AnswersAt}
use Rattle.lhg_spoil.specs.Moves.{MayTake, state_on, IsLegalAct}
use Rattle.lhg_spoil.specs.Replies.{IsRankWithin, IsPlaced}
use Rattle.lhg_spoil.proofs.Outside.{rank_once}

-- ---- legal acts
-- two facts of what is there
some_both : {A : Type 0} (P Q : A → Type 0) (o : Option A) → IsSomeAnd o P → IsSomeAnd o Q → IsSomeAnd o (λ x. P x × Q x)
some_both P Q None h k = h
some_both P Q (Some x) h k = (h, k)

module _ (a : PlainPlant) (s : PlainState) (moves : List PlainMove) (k : ℕ) (q : Number) (e : ℕ) (to : Option PlainPoint) where
  pub legal-placed : IsLegalAct a s moves k q e to → IsPlaced a s moves k q e
  legal-placed h = record {
    counted = h.counted;
    within = h.within;
    from_start = h.from_start;
    before_end = h.before_end;
    leaves = some_weaken (λ w. (w.from ≡ s.loc) × MayTake w.side a e (state_on s moves k q) to) (λ w. w.from ≡ s.loc) (λ w t. t.0) (slice_get a.switches e) h.takes;
  }

  pub legal-takes : IsLegalAct a s moves k q e to → IsSomeAnd (slice_get a.switches e) (λ w. MayTake w.side a e (state_on s moves k q) to)
  legal-takes h = some_weaken (λ w. (w.from ≡ s.loc) × MayTake w.side a e (state_on s moves k q) to) (λ w. MayTake w.side a e (state_on s moves k q) to) (λ w t. t.1) (slice_get a.switches e) h.takes

  pub placed-legal : IsPlaced a s moves k q e → IsSomeAnd (slice_get a.switches e) (λ w. MayTake w.side a e (state_on s moves k q) to) → IsLegalAct a s moves k q e to
  placed-legal h t = record {
    counted = h.counted;
    within = h.within;
    from_start = h.from_start;
    before_end = h.before_end;
    takes = some_both (λ w. w.from ≡ s.loc) (λ w. MayTake w.side a e (state_on s moves k q) to) (slice_get a.switches e) h.leaves t;
  }

-- the switch that is there decides whether it may be taken
pub take-side : (a : PlainPlant) (e : ℕ) (p : PlainState) (to : Option PlainPoint) (w : PlainSwitch) (side : Side) → slice_get a.switches e ≡ Some w → w.side ≡ side → (b : Bool)
    → IsTrue b ↔ MayTake side a e p to → IsTrue b ↔ IsSomeAnd (slice_get a.switches e) (λ v. MayTake v.side a e p to)
take-side a e p to w side there has b h =
    subst (λ (o : Option PlainSwitch). IsTrue b ↔ IsSomeAnd o (λ v. MayTake v.side a e p to)) (sym there) (subst (λ (x : Side). IsTrue b ↔ MayTake x a e p to) (sym has) h)

-- a switch whose result the plant picks, and that may be taken, has a legal result
pub ctl-result : (a : PlainPlant) (e : ℕ) (p : PlainState) (to : Option PlainPoint) → HasSide a e Ctl → IsSomeAnd (slice_get a.switches e) (λ w. MayTake w.side a e p to)
    → (z : PlainState) × LegalSwitch a e p z
ctl-result a e p to has takes = go (slice_get a.switches e) has takes
  where
    go : (o : Option PlainSwitch) → IsSomeAnd o (λ w. w.side ≡ Ctl) → IsSomeAnd o (λ w. MayTake w.side a e p to) → (z : PlainState) × LegalSwitch a e p z
    go None h t = absurd h
    go (Some w) h t = (subst (λ (x : Side). MayTake x a e p to) h t).1

-- a switch of which something is known is there
pub side-there : (a : PlainPlant) (e : ℕ) (P : PlainSwitch → Type 0) → IsSomeAnd (slice_get a.switches e) P → e < length a.switches
side-there a e P h = go (slice_get a.switches e) refl h
  where
    go : (o : Option PlainSwitch) → slice_get a.switches e ≡ o → IsSomeAnd o P → e < length a.switches
    go None there h = absurd h
    go (Some w) there h = slice_get_within a.switches e w there

-- the location of a state is there
pub state-there : (a : PlainPlant) (s : PlainState) → IsState a s → s.loc < length a.locs
state-there a s h = go (slice_get a.locs s.loc) refl h.inside
  where
    go : (o : Option PlainLocation) → slice_get a.locs s.loc ≡ o → IsSomeAnd o (λ l. InPiece l.inv s.at) → s.loc < length a.locs
    go None there h = absurd h
    go (Some l) there h = slice_get_within a.locs s.loc l there

-- ---- answers
-- what an answer comes to: steps, and where they end
abbrev pub Course : Type 0
Course = List PlainSpoilStep × SpoilPlace

-- there is a result
pub fibre-some : (o : Option PlainPoint) (y : PlainPoint) → o ≡ Some y → IsSome o
fibre-some o y h = subst (λ (p : Option PlainPoint). IsSome p) (sym h) refl

module _ (a : PlainPlant) (losses : List PlainLoss) (j : ℕ) (p : PlainState) (first : List PlainSpoilStep) (e : ℕ) (to : Option PlainPoint) (steps : List PlainSpoilStep) (next : SpoilPlace) where
  pub past-answer : (rank : ℕ) → IsRankWithin a j p (Some rank) → steps ≡ first → next ≡ record { state = p; again = again_at rank e to } → AnswersAt a losses j p first e to steps next
  past-answer rank h d g =
      let past = h.0 in
      let same = rank_once a rank past.rank p h.1 past.ranked in
      let less = past.within in
      inl (record { rank = rank; within = omega arith; past = h.1; does = d; goes = g })

  pub first-answer : ¬ IsPast a j p → (d : ℕ) (y : PlainPoint) → IsFirstFibre a losses j p d y → steps ≡ first ++ (preempted d (result_at a d y) ∷ []) → next ≡ stands_at (result_at a d y)
      → AnswersAt a losses j p first e to steps next
  first-answer inside d y f h g = inr (inl (record { inside = inside; number = d; result = y; fibres = f; does = h; goes = g }))

  pub switch-answer : ¬ IsPast a j p → HasNoFibre a losses j p → (y : PlainPoint) → IsSomeAnd (slice_get a.switches e) (λ w. IsResultBy w.side a losses j e p to y)
      → steps ≡ first ++ (acted e ∷ landed_at (result_at a e y) ∷ []) → next ≡ stands_at (result_at a e y) → AnswersAt a losses j p first e to steps next
  switch-answer inside none y picks h g = inr (inr (record { inside = inside; none = none; result = y; picks = picks; does = h; goes = g }))

-- ---- named results
pub same_named : (y z : PlainPoint) → Some y ≡ Some z → y ≡ z
same_named y z h = cc
