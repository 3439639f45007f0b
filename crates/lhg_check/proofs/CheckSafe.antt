-- The pieces of the first part are the states of the region that are not safe.
use Rattle.std.proofs.Common.{◌≡◌, ℕ, List, [], length, get_or, slice_get, IsSomeAnd, Option, Some, None, refl, sym, subst}
use Rattle.lhg_num.specs.FracArithmetic.{frac_arithmetic, frac_is_lawful}
use Rattle.lhg_row.specs.Piece.{PlainPiece, InPiece}
use Rattle.lhg_row.specs.CoveredLaws.{polys-over, minus-polys}
use Rattle.lhg_plant.specs.Plant.{PlainLocation, PlainPlant}
use Rattle.lhg_plant.specs.Proper.{IsProper}
use Rattle.lhg_plant.specs.Region.{PlainRegion}
use Rattle.lhg_plant.specs.Controller.{PlainController}
use Rattle.lhg_plant.specs.SafeRegion.{safe_region}
use Rattle.lhg_plant.specs.Invariants.{pieces_at}
use Rattle.lhg_plant.specs.SwitchFacts.{state_at}
use Rattle.lhg_plant.proofs.InsideStates.{some_inside}
use Rattle.lhg_plant.proofs.SafeStates.{safe_region_is}
use Rattle.lhg_loss.proofs.Begins.{safe_is_region}
use Rattle.lhg_loss.proofs.PlaceRound.{polys_at}
use Rattle.lhg_loss.proofs.PlaceSplit.{less_is}
use Rattle.lhg_check.specs.Check.{unsafe_at, unsafe_pieces}
use Rattle.lhg_check.specs.CheckFacts.{IsCheckable, BreaksSafe}
use Rattle.lhg_check.proofs.CheckLists.{IsListOf, at_or, each_numbered}

module _ (a : PlainPlant) (proper : IsProper a) (c : PlainController) (given : IsCheckable a c) where
  abbrev n : ℕ
  n = length a.vars

  abbrev safe : PlainRegion
  safe = (safe_region a).value

  module _ (l : ℕ) where
    unsafe_here : (place : PlainLocation) → IsListOf n (λ p. BreaksSafe a c (state_at l p)) (unsafe_at n safe c.region (l, place)).value
    unsafe_here place =
        let ps = pieces_at c.region l in
        let qs = pieces_at safe l in
        let here = polys_at n c.region l given.region_is.polys in
        let over = polys-over frac_arithmetic n qs (polys_at n safe l (safe_is_region a proper).polys) in
        record {
          polys = minus-polys frac_arithmetic n ps qs frac_is_lawful here over;
          exact = λ p e.
              let d = less_is n ps qs (polys-over frac_arithmetic n ps here) over p e in (
                λ h. let k = d.0 h in (record { state = some_inside a l ps p e (given.region_is.inside l) k.0; some = k.0 }, λ s. k.1 ((safe_region_is a proper (state_at l p)).1 s).some),
                λ h. d.1 (h.0.some, λ k. h.1 ((safe_region_is a proper (state_at l p)).0 (record { state = h.0.state; some = k }))),
              );
        }

    unsafe_of : (o : Option PlainLocation) → slice_get a.locs l ≡ o → IsListOf n (λ p. BreaksSafe a c (state_at l p)) (at_or (unsafe_at n safe c.region) l o)
    unsafe_of None is = record { polys = tt; exact = λ p e. (λ k. absurd k, λ k. absurd (subst (λ (o : Option PlainLocation). IsSomeAnd o (λ w. InPiece w.inv p)) is k.0.state.inside)) }
    unsafe_of (Some place) is = unsafe_here place

    pub unsafe_list : IsListOf n (λ p. BreaksSafe a c (state_at l p)) (get_or (unsafe_pieces a c.region).value l [])
    unfolding unsafe_pieces
    unsafe_list = subst (λ (ps : List PlainPiece). IsListOf n (λ p. BreaksSafe a c (state_at l p)) ps) (sym (each_numbered (unsafe_at n safe c.region) a.locs l)) (unsafe_of (slice_get a.locs l) refl)
