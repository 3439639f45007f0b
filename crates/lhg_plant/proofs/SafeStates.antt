-- The pieces of the safe region lie inside the invariants and hold exactly the safe states.
use Rattle.std.proofs.Common.{◌≡◌, ◌↔◌, ◌&&◌, ℕ, zero, suc, List, [], ◌∷◌, length, map, get_or, slice_get, IsSomeAnd, Option, Some, None, sym, ap, ◌∙◌, subst}
use Rattle.std.proofs.lemmas.Bool.{and_parts}
use Rattle.std.proofs.lemmas.List.{length-map}
use Rattle.lhg_math.specs.Tests.{AllOf}
use Rattle.lhg_num.specs.FracArithmetic.{frac_arithmetic, frac_is_lawful}
use Rattle.lhg_num.specs.MarkedLaws.{each-value}
use Rattle.lhg_row.specs.Row.{PlainPoint}
use Rattle.lhg_row.specs.Piece.{PlainPiece, InPiece, InSome, in_piece, in_some}
use Rattle.lhg_row.specs.PieceLemmas.{in_piece_is, in_some_is}
use Rattle.lhg_row.specs.PieceFacts.{IsMade, IsPoly, AllOver, AllPolys}
use Rattle.lhg_row.specs.Pieces.{make}
use Rattle.lhg_row.specs.MakeLaws.{make-exact}
use Rattle.lhg_row.specs.Lists.{listed, meet_each}
use Rattle.lhg_row.specs.MeetListsLaws.{meet_each-points, meet_each-polys}
use Rattle.lhg_row.specs.CoveredLaws.{polys-over}
use Rattle.lhg_plant.specs.Plant.{PlainLocation, PlainPlant}
use Rattle.lhg_plant.specs.Proper.{IsLine, IsLocation, IsProper}
use Rattle.lhg_plant.specs.Region.{InRegion}
use Rattle.lhg_plant.specs.SafeRegion.{safe_within, safe_list, safe_region}
use Rattle.lhg_plant.specs.State.{PlainState, IsSafe}
use Rattle.lhg_plant.specs.Inside.{IsRegionInside}
use Rattle.lhg_plant.proofs.ListSteps.{all_pieces}
use Rattle.lhg_plant.proofs.InsideStates.{inside_from}

module _ (n : ℕ) where
  over_lines : (lines : List PlainPiece) → AllOf (IsLine n) lines → AllOver n lines
  over_lines [] h = tt
  over_lines (line ∷ lines) h = (h.0.wide, over_lines lines h.1)

  module _ (l : PlainLocation) (h : IsLocation n l) where
    made : IsMade frac_arithmetic n l.inv (make frac_arithmetic n l.inv).value
    made = make-exact frac_arithmetic n l.inv frac_is_lawful h.inv.wide

    within-polys : (o : Option PlainPiece) → AllPolys frac_arithmetic n (safe_within n l (listed o [])).value
    within-polys None = tt
    within-polys (Some inv) = meet_each-polys frac_arithmetic n frac_is_lawful l.inv l.safe h.inv.wide (over_lines l.safe h.safe)

    module _ (x : PlainPoint) (fits : length x ≡ n) where
      met : in_some (meet_each frac_arithmetic n l.inv l.safe).value x ≡ (in_piece l.inv x && in_some l.safe x)
      met = meet_each-points frac_arithmetic n frac_is_lawful l.inv l.safe x fits h.inv.wide (over_lines l.safe h.safe)

      within-points : (o : Option PlainPiece) → IsMade frac_arithmetic n l.inv o → InPiece l.inv x → in_some (safe_within n l (listed o [])).value x ≡ in_some l.safe x
      within-points None m inside = absurd (m x fits inside)
      within-points (Some inv) m inside = met ∙ ap (λ b. b && in_some l.safe x) ((in_piece_is l.inv x).0 inside)

      within-inside : (o : Option PlainPiece) → InSome (safe_within n l (listed o [])).value x → InPiece l.inv x
      within-inside None s = absurd s
      within-inside (Some inv) s = (in_piece_is l.inv x).1 (and_parts (in_piece l.inv x) (in_some l.safe x) (sym met ∙ (in_some_is (meet_each frac_arithmetic n l.inv l.safe).value x).0 s)).0

      -- at a point of the invariant
      same_points : InPiece l.inv x → in_some (safe_list n l).value x ≡ in_some l.safe x
      same_points = within-points (make frac_arithmetic n l.inv).value made

      -- each point is one of the invariant
      safe-inside : InSome (safe_list n l).value x → InPiece l.inv x
      safe-inside = within-inside (make frac_arithmetic n l.inv).value

    safe-polys : AllPolys frac_arithmetic n (safe_list n l).value
    safe-polys = within-polys (make frac_arithmetic n l.inv).value

  all-polys : (locs : List PlainLocation) → AllOf (IsLocation n) locs → AllOf (AllPolys frac_arithmetic n) (map (λ l. (safe_list n l).value) locs)
  all-polys [] h = tt
  all-polys (l ∷ locs) h = (safe-polys l h.0, all-polys locs h.1)

  module _ (x : PlainPoint) (fits : length x ≡ n) where
    -- at a state, its location is the one of its place
    same_there : (locs : List PlainLocation) (i : ℕ) → AllOf (IsLocation n) locs → IsSomeAnd (slice_get locs i) (λ l. InPiece l.inv x)
        → InSome (get_or (map (λ l. (safe_list n l).value) locs) i []) x ↔ IsSomeAnd (slice_get locs i) (λ l. InSome l.safe x)
    same_there [] i h inside = (λ k. absurd inside, λ k. absurd inside)
    same_there (l ∷ locs) zero h inside =
        let e = same_points l h.0 x fits inside in
        (λ k. (in_some_is l.safe x).1 (sym e ∙ (in_some_is (safe_list n l).value x).0 k), λ k. (in_some_is (safe_list n l).value x).1 (e ∙ (in_some_is l.safe x).0 k))
    same_there (l ∷ locs) (suc i) h inside = same_there locs i h.1 inside

    inside_there : (locs : List PlainLocation) (i : ℕ) → AllOf (IsLocation n) locs → InSome (get_or (map (λ l. (safe_list n l).value) locs) i []) x
        → IsSomeAnd (slice_get locs i) (λ l. InPiece l.inv x)
    inside_there [] i h s = absurd s
    inside_there (l ∷ locs) zero h s = safe-inside l h.0 x fits s
    inside_there (l ∷ locs) (suc i) h s = inside_there locs i h.1 s

-- the safe region holds exactly the safe states
pub safe_region_is : (a : PlainPlant) → IsProper a → (s : PlainState) → InRegion a (safe_region a).value s ↔ IsSafe a s
unfolding safe_region
safe_region_is a h s =
    let e = each-value (safe_list (length a.vars)) a.locs in (
      λ k.
          let some = subst (λ r. InSome (get_or r s.loc []) s.at) e k.some in
          record { state = k.state; safe = (same_there (length a.vars) s.at k.state.fits a.locs s.loc h.locs k.state.inside).0 some },
      λ k.
          let some = (same_there (length a.vars) s.at k.state.fits a.locs s.loc h.locs k.state.inside).1 k.safe in
          record { state = k.state; some = subst (λ r. InSome (get_or r s.loc []) s.at) (sym e) some },
    )

-- it has one list for each location
pub safe_region-many : (a : PlainPlant) → length (safe_region a).value ≡ length a.locs
unfolding safe_region
safe_region-many a = ap length (each-value (safe_list (length a.vars)) a.locs) ∙ length-map a.locs (λ l. (safe_list (length a.vars) l).value)

-- of pieces
pub safe_region-polys : (a : PlainPlant) → IsProper a → AllOf (AllPolys frac_arithmetic (length a.vars)) (safe_region a).value
unfolding safe_region
safe_region-polys a h = subst (AllOf (AllPolys frac_arithmetic (length a.vars))) (sym (each-value (safe_list (length a.vars)) a.locs)) (all-polys (length a.vars) a.locs h.locs)

-- inside the invariants
pub safe_region-inside : (a : PlainPlant) → IsProper a → IsRegionInside a (safe_region a).value
unfolding safe_region
safe_region-inside a h =
    let n = length a.vars in
    let polys = safe_region-polys a h in
    let e = each-value (safe_list n) a.locs in
    record {
      over = λ l. polys-over frac_arithmetic n (get_or (safe_region a).value l []) (all_pieces (IsPoly frac_arithmetic n) (safe_region a).value l polys);
      inside = λ l. inside_from a l (get_or (safe_region a).value l []) (λ x fits s. record { fits = fits; inside = inside_there n x fits a.locs l h.locs (subst (λ r. InSome (get_or r l []) x) e s) });
    }
