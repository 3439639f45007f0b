-- What the calculus makes of a plant below its rounds is exact.
use Rattle.std.proofs.Common.{ℕ, length}
use Rattle.lhg_num.specs.FracArithmetic.{frac_arithmetic, frac_is_lawful}
use Rattle.lhg_row.specs.PieceFacts.{AllPolys}
use Rattle.lhg_row.specs.CoveredLaws.{polys-over, minus-polys}
use Rattle.lhg_motion.specs.CrossLaws.{cross-exact}
use Rattle.lhg_motion.specs.ReachCases.{reach_case, found-polys}
use Rattle.lhg_motion.specs.ReachExact.{unmarked-within}
use Rattle.lhg_plant.specs.Plant.{PlainPlant}
use Rattle.lhg_plant.specs.Proper.{IsProper}
use Rattle.lhg_plant.specs.Region.{PlainRegion}
use Rattle.lhg_plant.specs.Invariants.{pieces_at}
use Rattle.lhg_plant.specs.OutCalculus.{out}
use Rattle.lhg_plant.specs.BackCalculus.{back, joined_at, near_at}
use Rattle.lhg_plant.specs.Inside.{IsRegionOver}
use Rattle.lhg_plant.specs.SwitchFacts.{AreBacks}
use Rattle.lhg_plant.proofs.OutStates.{out-states}
use Rattle.lhg_plant.proofs.BackStates.{back-states}
use Rattle.lhg_plant.proofs.JoinedLists.{joined-polys}
use Rattle.lhg_plant.proofs.KeepStates.{keep-states, guards-states}
use Rattle.lhg_loss.specs.RoundFacts.{IsRegion, HasSwitchSets}
use Rattle.lhg_loss.specs.LimitFacts.{IsReachExact, AreExactParts}
use Rattle.lhg_loss.specs.SolveLaws.{SolvedLaw}
use Rattle.lhg_loss.proofs.PlaceRound.{polys_at}
use Rattle.lhg_loss.proofs.Stages.{region_inside}
use Rattle.lhg_loss.proofs.Limits.{limit_law}

-- ---- reach
-- reach of fractions
pub reach_is_exact : (n : ℕ) → IsReachExact n
reach_is_exact n bad near flow u v w h =
    let c = reach_case frac_arithmetic n bad near flow frac_is_lawful (cross-exact frac_arithmetic n frac_is_lawful) u v w in
    record { polys = found-polys frac_arithmetic n _ c.reached.polys; exact = c.exact (unmarked-within frac_arithmetic n bad near flow h); named = c.reached.named }

-- ---- sets of switches
-- the near pieces are pieces
near_polys : (a : PlainPlant) → IsProper a → (region : PlainRegion) → IsRegion a region → (l : ℕ) → AllPolys frac_arithmetic (length a.vars) (near_at a region (back a region (out a region).value.away).value l).value
unfolding near_at
near_polys a proper region shape l =
    let n = length a.vars in
    let outs = out-states a proper region (region_inside a region shape).over in
    let outside = (out a region).value.away in
    let over : IsRegionOver a outside = λ k. polys-over frac_arithmetic n (pieces_at outside k) (outs.away k).polys in
    let backs : AreBacks a region (back a region outside).value = back-states a proper region outside (region_inside a region shape) over (λ k. (outs.away k).exact) in
    let joined = joined_at l a.switches (back a region outside).value in
    minus-polys frac_arithmetic n (pieces_at region l) joined frac_is_lawful (polys_at n region l shape.polys) (polys-over frac_arithmetic n joined (joined-polys n l a.switches (back a region outside).value backs.polys))

-- the sets of switches of a region
has_switch_sets : (a : PlainPlant) → IsProper a → (region : PlainRegion) → IsRegion a region → HasSwitchSets a region
has_switch_sets a proper region shape l less =
    let inside = region_inside a region shape in
    let outs = out-states a proper region inside.over in
    record { away_is = outs.away l; hits_are = outs.hits l; near_is = (keep-states a proper region inside l).near; near_polys = near_polys a proper region shape l }

-- ---- all
pub exact_parts : (a : PlainPlant) → IsProper a → AreExactParts a
exact_parts a proper = record {
  sets = has_switch_sets a proper;
  guards_are = λ region shape. guards-states a proper region (region_inside a region shape);
  reach_is = reach_is_exact (length a.vars);
}

-- the solution of the calculus solves the game
pub solved_law : (a : PlainPlant) → SolvedLaw a
solved_law a budget some proper within_lists = limit_law a budget some proper (exact_parts a proper) within_lists
