-- What out gives are exactly the states from which the plant leaves a region.
use Rattle.std.proofs.Common.{◌≡◌, ◌↔◌, ◌⊎◌, inl, inr, ℕ, ◌+◌, ◌<◌, ◌≤◌, List, [], ◌∷◌, length, get_or, refl, sym, ap, ◌∙◌, subst, arith}
use Rattle.std.proofs.lemmas.Bool.{cases_lt}
use Rattle.lhg_num.specs.Marked.{Marked}
use Rattle.lhg_row.specs.Row.{PlainPoint}
use Rattle.lhg_row.specs.Piece.{PlainPiece, InPiece, InSome}
use Rattle.lhg_math.specs.Tests.{AllOf}
use Rattle.lhg_plant.specs.Plant.{PlainPlant}
use Rattle.lhg_plant.specs.Proper.{IsProper}
use Rattle.lhg_plant.specs.State.{PlainState, States, IsState}
use Rattle.lhg_plant.specs.Legal.{LegalSwitch}
use Rattle.lhg_plant.specs.OutBack.{LeavesBySwitch, Out}
use Rattle.lhg_plant.specs.Region.{PlainRegion, InRegion}
use Rattle.lhg_plant.specs.Loss.{InPieceAt}
use Rattle.lhg_plant.specs.Invariants.{pieces_at, invariants}
use Rattle.lhg_plant.specs.OutCalculus.{away, PlainHit, hit_pieces, hits_at, PlainOuts, out}
use Rattle.lhg_plant.specs.Inside.{IsRegionOver}
use Rattle.lhg_plant.specs.SwitchFacts.{state_at, IsAway, IsHit, AreHits, IsOutOf}
use Rattle.lhg_plant.proofs.Decided.{region_decided}
use Rattle.lhg_plant.proofs.ListSteps.{range-at, range-past}
use Rattle.lhg_plant.proofs.AwayStates.{no_state, away-states}
use Rattle.lhg_plant.proofs.HitStates.{hits-states}

-- a state of a hit leaves the set by its switch
hit_leaves : (a : PlainPlant) (S : States) (l : ℕ) (hits : List PlainHit) (p : PlainPoint) → length p ≡ length a.vars → AllOf (IsHit a S l) hits → InSome (hit_pieces hits) p → LeavesBySwitch a S (state_at l p)
hit_leaves a S l [] p fits h i = absurd i
hit_leaves a S l (hit ∷ hits) p fits h (inl i) =
    let r = h.0.result p fits i in
    record { number = hit.switch; result = r.0; side = h.0.side; legal = r.1; gone = h.0.missed r.0 r.2 }
hit_leaves a S l (hit ∷ hits) p fits h (inr i) = hit_leaves a S l hits p fits h.1 i

-- the states outside and those of the hits are Out
pub outs-exact : (a : PlainPlant) (region : PlainRegion) (l : ℕ) (outside : List PlainPiece) (hits : List PlainHit) → IsAway a (InRegion a region) l outside → AreHits a (InRegion a region) l hits
    → (p : PlainPoint) → length p ≡ length a.vars → (InSome outside p ⊎ InSome (hit_pieces hits) p) ↔ Out a (InRegion a region) (state_at l p)
outs-exact a region l outside hits away hit p fits = (
  λ h. elim h [ inl k ↦ inl ((away.exact p fits).0 k) | inr k ↦ inr (hit_leaves a (InRegion a region) l hits p fits hit.sound k) ],
  λ h. elim h [
    | inl k ↦ inl ((away.exact p fits).1 k)
    | inr g ↦ elim (region_decided a region (state_at l p)) [ inl s ↦ inr (hit.all p s g) | inr f ↦ inl ((away.exact p fits).1 (g.legal.start, f)) ]
  ],
)

module _ (a : PlainPlant) (proper : IsProper a) (region : PlainRegion) (over : IsRegionOver a region) where
  abbrev invs : PlainRegion
  invs = (invariants a).value

  abbrev outside : PlainRegion
  outside = (away (length a.vars) invs region).value

  -- the hits of one location in the list for all
  hits-at : (l : ℕ) → AreHits a (InRegion a region) l (get_or (out a region).value.hits l [])
  unfolding out
  hits-at l = elim (cases_lt l (length a.locs)) [
    | inl h ↦
        let f : ℕ → Marked (List PlainHit) = hits_at a invs outside region in
        let zero_first : 0 + l ≡ l = omega arith in
        subst (λ hs. AreHits a (InRegion a region) l hs) (sym (range-at f 0 (length a.locs) l h ∙ ap (λ i. (f i).value) zero_first)) (hits-states a proper region over l)
    | inr h ↦
        subst (λ hs. AreHits a (InRegion a region) l hs) (sym (range-past (hits_at a invs outside region) 0 (length a.locs) l h))
        (record { sound = tt; all = λ p s g. absurd (no_state a l p h s.state) })
  ]

  away-at : (l : ℕ) → IsAway a (InRegion a region) l (pieces_at (out a region).value.away l)
  unfolding out
  away-at l = away-states a proper region over l

  -- out is exact
  pub out-states : IsOutOf a (InRegion a region) (out a region).value
  out-states = record {
    away = away-at;
    hits = hits-at;
    exact = λ l. outs-exact a region l (pieces_at (out a region).value.away l) (get_or (out a region).value.hits l []) (away-at l) (hits-at l);
  }
