-- The pieces of the third part are the states of the region with an escape past the guards.
use Rattle.std.proofs.Common.{◌≡◌, ◌↔◌, ℕ, false, List, [], ◌∷◌, ◌++◌, length, get_or, slice_get, IsSomeAnd, Option, Some, None, refl, sym, ap, ◌∙◌, inl, subst, append-nil}
use Rattle.lhg_num.specs.FracArithmetic.{frac_arithmetic, frac_is_lawful}
use Rattle.lhg_num.specs.Marked.{valued}
use Rattle.lhg_num.specs.MarkedLaws.{IsPart, and_then-rest, part_part}
use Rattle.lhg_row.specs.Row.{PlainPoint}
use Rattle.lhg_row.specs.Piece.{PlainPiece, InPiece, InSome}
use Rattle.lhg_row.specs.PieceFacts.{IsPoly, AllOver, AllPolys}
use Rattle.lhg_row.specs.Members.{all-append}
use Rattle.lhg_row.specs.Sample.{sample}
use Rattle.lhg_row.specs.SampleLaws.{sample-in}
use Rattle.lhg_row.specs.CoveredLaws.{polys-over, minus-polys}
use Rattle.lhg_motion.specs.Found.{pieces_of}
use Rattle.lhg_motion.specs.ReachCalculus.{reach}
use Rattle.lhg_plant.specs.Plant.{PlainLocation, PlainPlant}
use Rattle.lhg_plant.specs.Proper.{IsProper, IsLocation}
use Rattle.lhg_plant.specs.State.{PlainState}
use Rattle.lhg_plant.specs.Region.{InRegion, InSomeGuard}
use Rattle.lhg_plant.specs.Controller.{PlainController}
use Rattle.lhg_plant.specs.Invariants.{pieces_at}
use Rattle.lhg_plant.specs.OutCalculus.{PlainHit, hit_pieces, out}
use Rattle.lhg_plant.specs.BackCalculus.{joined_at, near_at}
use Rattle.lhg_plant.specs.SwitchFacts.{state_at, IsOutOf, AreHits}
use Rattle.lhg_plant.proofs.InsideStates.{some_inside}
use Rattle.lhg_plant.proofs.JoinedLists.{joined-in, joined-polys}
use Rattle.lhg_plant.proofs.OutStates.{out-states}
use Rattle.lhg_plant.proofs.PreStates.{all_there}
use Rattle.lhg_loss.proofs.Parts.{reach_is_exact}
use Rattle.lhg_loss.proofs.PlaceRound.{polys_at, hits_polys}
use Rattle.lhg_loss.proofs.PlaceSplit.{less_is}
use Rattle.lhg_check.specs.Check.{found_from, lost_at, lost_pieces}
use Rattle.lhg_check.specs.CheckFacts.{IsCheckable, IsReachedFrom, IsReachedPast, BreaksClosed}
use Rattle.lhg_check.proofs.Marks.{part_unmarked}
use Rattle.lhg_check.proofs.CheckGuards.{region_over}
use Rattle.lhg_check.proofs.PastSplit.{hit_escapes, gone_is}
use Rattle.lhg_check.proofs.CheckLists.{IsListOf, at_or, first_sample, none_in, each_numbered, each_part}

-- the sample of the piece of the first hit is a state with an escape
hit_sample : (a : PlainPlant) (c : PlainController) (l : ℕ) (hit : PlainHit) (hits : List PlainHit) → AreHits a (InRegion a c.region) l (hit ∷ hits) → BreaksClosed a c (state_at l (sample (length a.vars) hit.piece).value)
hit_sample a c l hit hits are =
    let n = length a.vars in
    let poly = are.sound.0.poly in
    let p = sample-in n hit.piece poly.wide poly.point in
    hit_escapes a (InRegion a c.region) (InSomeGuard a c.guards) l (hit ∷ hits) are (sample n hit.piece).value p.wide (inl p.inside)

module _ (a : PlainPlant) (proper : IsProper a) (c : PlainController) (given : IsCheckable a c) where
  abbrev n : ℕ
  n = length a.vars

  abbrev S : PlainState → Type 0
  S = InRegion a c.region

  abbrev K : PlainState → Type 0
  K = InSomeGuard a c.guards

  outs-are : IsOutOf a S (out a c.region).value
  outs-are = out-states a proper c.region (region_over a c given)

  module _ (l : ℕ) where
    abbrev near : List PlainPiece
    near = (near_at a c.region c.guards l).value

    abbrev here : List PlainPiece
    here = pieces_at c.region l

    abbrev joined : List PlainPiece
    joined = joined_at l a.switches c.guards

    abbrev away : List PlainPiece
    away = pieces_at (out a c.region).value.away l

    abbrev hits : List PlainHit
    hits = get_or (out a c.region).value.hits l []

    here_polys : AllPolys frac_arithmetic n here
    here_polys = polys_at n c.region l given.region_is.polys

    joined_over : AllOver n joined
    joined_over = polys-over frac_arithmetic n joined (joined-polys n l a.switches c.guards given.guard_polys)

    hits_are_polys : AllPolys frac_arithmetic n (hit_pieces hits)
    hits_are_polys = hits_polys a S l hits (outs-are.hits l).sound

    near_are_polys : AllPolys frac_arithmetic n near
    unfolding near_at
    near_are_polys = minus-polys frac_arithmetic n here joined frac_is_lawful here_polys joined_over

    -- the near pieces are the states of the region outside all guards
    near_is : (p : PlainPoint) → length p ≡ n → InSome near p ↔ (S (state_at l p) × ¬ K (state_at l p))
    unfolding near_at
    near_is p e =
        let d = less_is n here joined (polys-over frac_arithmetic n here here_polys) joined_over p e in (
          λ h. let k = d.0 h in (record { state = some_inside a l here p e (given.region_is.inside l) k.0; some = k.0 }, λ g. k.1 ((joined-in l a.switches c.guards p).1 (record { number = g.0; leaves = g.1.leaves; some = g.1.some }))),
          λ h. d.1 (h.0.some, λ k. let r = (joined-in l a.switches c.guards p).0 k in h.1 (r.number, record { state = h.0.state; leaves = r.leaves; some = r.some })),
        )

    -- what is lost there
    lost_here : (place : PlainLocation) → slice_get a.locs l ≡ Some place → IsReachedFrom a c (away ++ hit_pieces hits) l place
        → IsListOf n (λ p. BreaksClosed a c (state_at l p)) (lost_at a c (out a c.region).value (l, place)).value
    unfolding lost_at
    lost_here place there r =
        let found = (reach frac_arithmetic n (away ++ hit_pieces hits) near place.flow).value.found in
        record {
          polys = all-append (IsPoly frac_arithmetic n) (hit_pieces hits) (pieces_of found) hits_are_polys r.polys;
          exact = gone_is a c.region K l place there away hits near (outs-are.away l) (outs-are.hits l) near_is found r;
        }

    -- without a hit it is reached from the states outside alone
    with_hits : (place : PlainLocation) → hits ≡ [] → IsReachedFrom a c away l place → IsReachedFrom a c (away ++ hit_pieces hits) l place
    with_hits place none r =
        subst (λ (hs : List PlainHit). IsReachedFrom a c (away ++ hit_pieces hs) l place) (sym none) (subst (λ (ps : List PlainPiece). IsReachedFrom a c ps l place) (sym (append-nil away)) r)

    without_hits : (place : PlainLocation) → hits ≡ [] → IsReachedFrom a c (away ++ hit_pieces hits) l place → IsReachedFrom a c away l place
    without_hits place none r =
        subst (λ (ps : List PlainPiece). IsReachedFrom a c ps l place) (append-nil away) (subst (λ (hs : List PlainHit). IsReachedFrom a c (away ++ hit_pieces hs) l place) none r)

    -- the pieces that are lost there begin with those of the hits
    hits_begin : (place : PlainLocation) (hit : PlainHit) (hs : List PlainHit) → hits ≡ hit ∷ hs
        → (lost_at a c (out a c.region).value (l, place)).value ≡ hit.piece ∷ (hit_pieces hs ++ (found_from a c (away ++ hit_pieces hits) (l, place)).value)
    unfolding lost_at
    hits_begin place hit hs some = ap (λ (w : List PlainHit). hit_pieces w ++ (found_from a c (away ++ hit_pieces hits) (l, place)).value) some

    -- the first piece that is lost there, from the hits
    first_by : (place : PlainLocation) → slice_get a.locs l ≡ Some place → IsReachedPast a c (out a c.region).value l → (piece : PlainPiece) (rest : List PlainPiece) → (hs : List PlainHit) → hits ≡ hs
        → (lost_at a c (out a c.region).value (l, place)).value ≡ piece ∷ rest → BreaksClosed a c (state_at l (sample n piece).value)
    first_by place there reached piece rest [] none e = first_sample n (λ p. BreaksClosed a c (state_at l p)) (lost_at a c (out a c.region).value (l, place)).value piece rest (lost_here place there (with_hits place none (reached place there none))) e
    first_by place there reached piece rest (hit ∷ hs) some e =
        let are = subst (λ (w : List PlainHit). AreHits a S l w) some (outs-are.hits l) in
        let begins = hits_begin place hit hs some in
        let same : hit.piece ≡ piece = cc in
        subst (λ (w : PlainPiece). BreaksClosed a c (state_at l (sample n w).value)) same (hit_sample a c l hit hs are)

    -- where no piece is lost there, there is no hit
    none_hit : (place : PlainLocation) → (lost_at a c (out a c.region).value (l, place)).value ≡ [] → hits ≡ []
    unfolding lost_at
    none_hit place e = none_of hits e
      where
        none_of : (hs : List PlainHit) → hit_pieces hs ++ (found_from a c (away ++ hit_pieces hits) (l, place)).value ≡ [] → hs ≡ []
        none_of [] e = refl
        none_of (h ∷ hs) e = cc

    first_of_place : IsReachedPast a c (out a c.region).value l → (piece : PlainPiece) (rest : List PlainPiece) (o : Option PlainLocation) → slice_get a.locs l ≡ o → at_or (lost_at a c (out a c.region).value) l o ≡ piece ∷ rest
        → BreaksClosed a c (state_at l (sample n piece).value)
    first_of_place reached piece rest None is e = cc
    first_of_place reached piece rest (Some place) is e = first_by place is reached piece rest hits refl e

    -- the sample of the first piece that is lost in a location breaks the part
    pub lost_first : IsReachedPast a c (out a c.region).value l → (piece : PlainPiece) (rest : List PlainPiece) → get_or (lost_pieces a c (out a c.region).value).value l [] ≡ piece ∷ rest → BreaksClosed a c (state_at l (sample n piece).value)
    lost_first reached piece rest e = first_of_place reached piece rest (slice_get a.locs l) refl (sym (each_numbered (lost_at a c (out a c.region).value) a.locs l) ∙ e)

    none_of_place : IsReachedPast a c (out a c.region).value l → (o : Option PlainLocation) → slice_get a.locs l ≡ o → at_or (lost_at a c (out a c.region).value) l o ≡ [] → (p : PlainPoint) → length p ≡ n → ¬ BreaksClosed a c (state_at l p)
    none_of_place reached None is e = λ p fits h. subst (λ (o : Option PlainLocation). IsSomeAnd o (λ w. InPiece w.inv p)) is h.0.state.inside
    none_of_place reached (Some place) is e = none_in n (λ p. BreaksClosed a c (state_at l p)) (lost_at a c (out a c.region).value (l, place)).value (lost_here place is (let none = none_hit place e in with_hits place none (reached place is none))) e

    -- where no piece is lost there, no state breaks it
    pub lost_none : IsReachedPast a c (out a c.region).value l → get_or (lost_pieces a c (out a c.region).value).value l [] ≡ [] → (p : PlainPoint) → length p ≡ n → ¬ BreaksClosed a c (state_at l p)
    lost_none reached e = none_of_place reached (slice_get a.locs l) refl (sym (each_numbered (lost_at a c (out a c.region).value) a.locs l) ∙ e)

    -- the marks of reach are among those of its location
    reach_part : (place : PlainLocation) → IsPart (lost_at a c (out a c.region).value (l, place)) (reach frac_arithmetic n (away ++ hit_pieces hits) near place.flow)
    unfolding lost_at
    reach_part place =
        let r = and_then-rest (near_at a c.region c.guards l) (λ ps. valued (λ r. pieces_of r.found) (reach frac_arithmetic n (away ++ hit_pieces hits) ps place.flow)) in
        record { wide = r.wide; rows = r.rows; pieces = r.pieces }

  -- within the limits what is reached is what has a play
  pub reached_past : (lost_pieces a c (out a c.region).value).pieces ≡ false → (l : ℕ) → IsReachedPast a c (out a c.region).value l
  reached_past h l place there none =
      let f = lost_at a c (out a c.region).value in
      let bad = away l ++ hit_pieces (hits l) in
      let bad_polys : AllPolys frac_arithmetic n bad = all-append (IsPoly frac_arithmetic n) (away l) (hit_pieces (hits l)) (outs-are.away l).polys (hits_are_polys l) in
      let whole = lost_pieces a c (out a c.region).value in
      let part = part_part whole (f (l, place)) (reach frac_arithmetic n bad (near l) place.flow) (each_part f a.locs l place there) (reach_part l place) in
      without_hits l place none
      (reach_is_exact n bad (near l) place.flow (polys-over frac_arithmetic n bad bad_polys) (polys-over frac_arithmetic n (near l) (near_are_polys l))
      (all_there (IsLocation n) a.locs l place there proper.locs).flow.wide (part_unmarked whole (reach frac_arithmetic n bad (near l) place.flow) part h))
