-- The pieces outside a region hold exactly the states that are not in it.
use Rattle.std.proofs.Common.{Option, ◌+◌, ◌≡◌, ◌↔◌, ◌⊎◌, inl, inr, ℕ, ◌<◌, ◌≤◌, List, [], length, map, get_or, slice_get, IsSomeAnd, refl, sym, ap, ◌∙◌, subst, arith}
use Rattle.std.proofs.lemmas.Bool.{cases_lt}
use Rattle.std.proofs.lemmas.List.{length-map}
use Rattle.std.proofs.lemmas.Option.{slice_get_past}
use Rattle.lhg_num.specs.FracArithmetic.{frac_arithmetic, frac_is_lawful}
use Rattle.lhg_num.specs.MarkedLaws.{each-value}
use Rattle.lhg_row.specs.Row.{PlainPoint}
use Rattle.lhg_row.specs.Piece.{PlainPiece, InPiece, InSome}
use Rattle.lhg_row.specs.Width.{AllWide}
use Rattle.lhg_row.specs.Lists.{minus}
use Rattle.lhg_row.specs.PieceFacts.{IsPoly, AllOver, AllPolys}
use Rattle.lhg_row.specs.MinusLaws.{minus-exact}
use Rattle.lhg_row.specs.CoveredLaws.{minus-polys, polys-over}
use Rattle.lhg_plant.specs.Plant.{PlainLocation, PlainPlant}
use Rattle.lhg_plant.specs.Proper.{IsProper}
use Rattle.lhg_plant.specs.State.{IsState}
use Rattle.lhg_plant.specs.Region.{PlainRegion, InRegion}
use Rattle.lhg_plant.specs.Invariants.{pieces_at, invariant_list, invariant_at, invariants}
use Rattle.lhg_plant.specs.OutCalculus.{away_at, away}
use Rattle.lhg_plant.specs.Inside.{IsRegionOver}
use Rattle.lhg_plant.specs.SwitchFacts.{state_at, IsAway}
use Rattle.lhg_plant.proofs.InvariantPoints.{invariants-at, invariant-points, invariant-polys}
use Rattle.lhg_plant.proofs.ListSteps.{range-at, range-past, difference-in}

-- there is an invariant for each location
pub invariants-many : (a : PlainPlant) → length (invariants a).value ≡ length a.locs
unfolding invariants
invariants-many a = ap length (each-value (invariant_list (length a.vars)) a.locs) ∙ length-map a.locs (λ l. (invariant_list (length a.vars) l).value)

-- past the locations there is no state
pub no_state : (a : PlainPlant) (l : ℕ) (p : PlainPoint) → length a.locs ≤ l → ¬ IsState a (state_at l p)
no_state a l p h s = subst (λ (o : Option PlainLocation). IsSomeAnd o (λ l. InPiece l.inv p)) (slice_get_past a.locs l h) s.inside

module _ (a : PlainPlant) (proper : IsProper a) (region : PlainRegion) (over : IsRegionOver a region) where
  abbrev n : ℕ
  n = length a.vars

  abbrev invs : PlainRegion
  invs = (invariants a).value

  abbrev outside : PlainRegion
  outside = (away n invs region).value

  -- the invariant of one location in the list for all
  pub invs-points : (l : ℕ) (x : PlainPoint) → length x ≡ n → InSome (pieces_at invs l) x ↔ IsState a (state_at l x)
  invs-points l x fits = subst (λ ps. InSome ps x ↔ IsState a (state_at l x)) (sym (invariants-at a l)) (invariant-points a proper l x fits)

  -- it is a piece
  pub invs-polys : (l : ℕ) → AllPolys frac_arithmetic n (pieces_at invs l)
  invs-polys l = subst (AllPolys frac_arithmetic n) (sym (invariants-at a l)) (invariant-polys a proper l)

  -- the pieces of the region are over the plant's variables
  pub region-over : (l : ℕ) → AllOver n (pieces_at region l)
  region-over l = over l

  here-away : (l : ℕ) → IsAway a (InRegion a region) l (away_at n invs region l).value
  here-away l = record {
    polys = minus-polys frac_arithmetic n (pieces_at invs l) (pieces_at region l) frac_is_lawful (invs-polys l) (region-over l);
    exact = λ p fits.
        let d = difference-in n (pieces_at invs l) (pieces_at region l) (away_at n invs region l).value p fits
        (minus-exact frac_arithmetic n (pieces_at invs l) (pieces_at region l) frac_is_lawful (polys-over frac_arithmetic n (pieces_at invs l) (invs-polys l)) (region-over l)) in
        let i = invs-points l p fits in (
          λ h. let k = d.0 h in (i.0 k.0, λ r. k.1 r.some),
          λ h. d.1 (i.1 h.0, λ s. h.1 (record { state = h.0; some = s })),
        );
  }

  -- those of one location
  pub away-states : (l : ℕ) → IsAway a (InRegion a region) l (pieces_at outside l)
  unfolding away
  away-states l = elim (cases_lt l (length invs)) [
    | inl h ↦
        let f = away_at n invs region in
        let zero_first : 0 + l ≡ l = omega arith in
        subst (λ ps. IsAway a (InRegion a region) l ps) (sym (range-at f 0 (length invs) l h ∙ ap (λ i. (f i).value) zero_first)) (here-away l)
    | inr h ↦
        let past : length a.locs ≤ l = subst (λ m. m ≤ l) (invariants-many a) h in
        subst (λ ps. IsAway a (InRegion a region) l ps) (sym (range-past (away_at n invs region) 0 (length invs) l h)) (record { polys = tt; exact = λ p fits. (λ k. absurd k, λ k. absurd (no_state a l p past k.0)) })
  ]
