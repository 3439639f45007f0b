-- The states outside a region, and its rim, as the calculus gives them.
use Rattle.std.proofs.Common.{◌≡◌, true, ◌↔◌, ◌⊎◌, inl, inr, ℕ, ◌+◌, [], length, slice_get, Some, sym, ap, ◌∙◌, subst, arith}
use Rattle.std.proofs.lemmas.Option.{slice_get_cases}
use Rattle.lhg_math.specs.Number.{Number, lt, nought, unit}
use Rattle.lhg_math.specs.NumberOrder.{lt_antisymm}
use Rattle.lhg_math.specs.Places.{IsPlace, IsInner}
use Rattle.lhg_math.specs.Tests.{by_bool}
use Rattle.lhg_row.specs.Row.{PlainPoint}
use Rattle.lhg_row.specs.Piece.{PlainPiece, InPiece, InSome}
use Rattle.lhg_row.specs.Width.{AllWide}
use Rattle.lhg_row.specs.Members.{SomeOf}
use Rattle.lhg_row.specs.SomeLists.{some_out, in_some_of}
use Rattle.lhg_motion.specs.Segment.{along}
use Rattle.lhg_motion.specs.SegmentLemmas.{along_end, length-along}
use Rattle.lhg_motion.specs.Convex.{piece_convex}
use Rattle.lhg_motion.specs.Flow.{IsFlow}
use Rattle.lhg_motion.specs.Crossing.{HasCrossing}
use Rattle.lhg_plant.specs.Plant.{PlainLocation, PlainPlant}
use Rattle.lhg_plant.specs.Proper.{IsProper, IsLocation}
use Rattle.lhg_plant.specs.State.{IsState}
use Rattle.lhg_plant.specs.Region.{PlainRegion, InRegion}
use Rattle.lhg_plant.specs.Invariants.{pieces_at}
use Rattle.lhg_plant.specs.Inside.{IsRegionOver, IsRegionInside}
use Rattle.lhg_plant.specs.SwitchFacts.{state_at, IsOutside}
use Rattle.lhg_plant.proofs.AwayStates.{away-states, no_state}
use Rattle.lhg_plant.proofs.InsideStates.{some_inside}
use Rattle.lhg_plant.proofs.LegalSteps.{all_at}
use Rattle.lhg_plant.proofs.ListSteps.{range-at, range-past}
use Rattle.lhg_plant.proofs.Options.{some_there, there_some}
use Rattle.lhg_lazy.specs.Rim.{InRim}
use Rattle.lhg_lazy.specs.RimCalculus.{away, rim_list, flow_at, flow_in, rim_at, rim}
use Rattle.lhg_lazy.specs.RimFacts.{LeavesThrough}
use Rattle.lhg_lazy.specs.RimLaws.{AwayLaw, RimLaw}
use Rattle.lhg_lazy.proofs.Leaving.{leaves}
use Rattle.lhg_lazy.proofs.RimPoints.{list-points}

-- what is outside is exact
pub away-exact : (a : PlainPlant) → AwayLaw a
unfolding away
away-exact a proper region over = λ l. (away-states a proper region over l).exact

-- a place above 0 is the end or an inner one
above_cases : (p : Number) → IsPlace p → lt nought p ≡ true → (p ≡ unit) ⊎ IsInner p
above_cases p i up = by_bool (lt p unit) (λ e. inr (record { above = up; below = e })) (λ e. inl (lt_antisymm p unit e i.upto))

-- a crossing through a piece into it has all its later points in the piece
later_in : (s q flow : PlainPiece) (x : PlainPoint) (c : HasCrossing s q q flow x) (p : Number) → IsPlace p → lt nought p ≡ true → InPiece q (along x c.to p)
later_in s q flow x c p i up = elim (above_cases p i up) [
  | inl e ↦ subst (λ (w : PlainPoint). InPiece q w) (sym (ap (λ w. along x c.to w) e ∙ along_end x c.to c.legal.same_length)) c.into_in
  | inr k ↦ c.passes p k
]

-- ---- in one location
module _ (a : PlainPlant) (proper : IsProper a) (region away : PlainRegion) (region_in : IsRegionInside a region) (away_over : IsRegionOver a away) (outside : IsOutside a region away) (l : ℕ) (place : PlainLocation) (is : slice_get a.locs l ≡ Some place) where
  abbrev n : ℕ
  n = length a.vars

  -- a state of the location is a point of its invariant
  inv_of : (x : PlainPoint) → IsState a (state_at l x) → InPiece place.inv x
  inv_of x s = some_there (slice_get a.locs l) place (λ k. InPiece k.inv x) is s.inside

  -- and back
  of_inv : (x : PlainPoint) → length x ≡ n → InPiece place.inv x → IsState a (state_at l x)
  of_inv x fits h = record { fits = fits; inside = there_some (slice_get a.locs l) place (λ k. InPiece k.inv x) is h }

  -- a crossing leaves the region at once
  module _ (x : PlainPoint) (fits : length x ≡ n) where
    to_rim : (s q : PlainPiece) → (InPiece s x → InSome (pieces_at region l) x) → ((y : PlainPoint) → InPiece q y → InSome (pieces_at away l) y) → HasCrossing s q q place.flow x → InRim a (InRegion a region) (state_at l x)
    to_rim s q here there c =
        let start = some_inside a l (pieces_at region l) x fits (region_in.inside l) (here c.from_in) in
        let long : length c.to ≡ n = sym c.legal.same_length ∙ fits in
        let end_state = ((outside l c.to long).0 (there c.to c.into_in)).0 in
        record {
          kept = record { state = start; some = here c.from_in };
          time = c.time;
          to = c.to;
          legal = record {
            start = start;
            flow = there_some (slice_get a.locs l) place (λ k. IsFlow k.inv k.flow x c.time c.to) is
                (record { takes_time = c.legal.takes_time; from_in = inv_of x start; to_in = inv_of c.to end_state; same_length = c.legal.same_length; speed = c.legal.speed; slope = c.legal.slope; allowed = c.legal.allowed });
          };
          gone = λ p i up. ((outside l (along x c.to p) (length-along x c.to p c.legal.same_length ∙ fits)).0 (there (along x c.to p) (later_in s q place.flow x c p i up))).1;
        }

    -- and whoever leaves it at once has a crossing
    from_rim : InRim a (InRegion a region) (state_at l x) → LeavesThrough place.flow (pieces_at region l) (pieces_at away l) x
    from_rim r =
        let f = some_there (slice_get a.locs l) place (λ k. IsFlow k.inv k.flow x r.time r.to) is r.legal.flow in
        let free : IsFlow [] place.flow x r.time r.to = record { takes_time = f.takes_time; from_in = tt; to_in = tt; same_length = f.same_length; speed = f.speed; slope = f.slope; allowed = f.allowed } in
        leaves place.flow (pieces_at away l) x r.to r.time free
        (λ p i up.
        let long : length (along x r.to p) ≡ n = length-along x r.to p f.same_length ∙ fits in
        (outside l (along x r.to p) long).1 (of_inv (along x r.to p) long (piece_convex place.inv x r.to p f.same_length f.from_in f.to_in i), r.gone p i up))
        (pieces_at region l) r.kept.some

    crossing-rim : LeavesThrough place.flow (pieces_at region l) (pieces_at away l) x → InRim a (InRegion a region) (state_at l x)
    crossing-rim h =
        some_out (λ s. SomeOf (λ q. HasCrossing s q q place.flow x) (pieces_at away l)) (InRim a (InRegion a region) (state_at l x)) (pieces_at region l)
        (λ s back k. some_out (λ q. HasCrossing s q q place.flow x) (InRim a (InRegion a region) (state_at l x)) (pieces_at away l)
        (λ q into c. to_rim s q (λ i. (in_some_of (pieces_at region l) x).1 (back (λ w. InPiece w x) i)) (λ y i. (in_some_of (pieces_at away l) y).1 (into (λ w. InPiece w y) i)) c) k) h

  -- the rim in the location is exact
  pub place-rim : (x : PlainPoint) → length x ≡ n → InSome (rim_at a region away l).value x ↔ InRim a (InRegion a region) (state_at l x)
  place-rim x fits =
      let wide : AllWide n place.flow = (all_at (IsLocation n) a.locs l place proper.locs is).flow.wide in
      let flow_is : flow_at a l ≡ place.flow = ap flow_in is in
      let points = list-points n place.flow wide (pieces_at region l) (pieces_at away l) x fits (region_in.over l) (away_over l) in
      let moved : InSome (rim_at a region away l).value x ↔ LeavesThrough place.flow (pieces_at region l) (pieces_at away l) x =
      subst (λ (w : PlainPiece). InSome (rim_list n w (pieces_at region l) (pieces_at away l)).value x ↔ LeavesThrough place.flow (pieces_at region l) (pieces_at away l) x) (sym flow_is) points in
      (λ h. crossing-rim x fits (moved.0 h), λ r. moved.1 (from_rim x fits r))

-- ---- in all locations
pub rim-exact : (a : PlainPlant) → RimLaw a
unfolding rim
rim-exact a proper region away region_in away_over outside l x fits = elim (slice_get_cases a.locs l).1 [
  | inl there ↦
      let zero_first : 0 + l ≡ l = omega arith in
      let list = range-at (rim_at a region away) 0 (length a.locs) l there.1 ∙ ap (λ i. (rim_at a region away i).value) zero_first in
      subst (λ ps. InSome ps x ↔ InRim a (InRegion a region) (state_at l x)) (sym list) (place-rim a proper region away region_in away_over outside l there.0 there.2 x fits)
  | inr past ↦
      let list = range-past (rim_at a region away) 0 (length a.locs) l past.0 in
      subst (λ ps. InSome ps x ↔ InRim a (InRegion a region) (state_at l x)) (sym list) (λ k. absurd k, λ r. absurd (no_state a l x past.0 r.kept.state))
]
