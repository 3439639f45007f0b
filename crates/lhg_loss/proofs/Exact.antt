-- The round of the calculus is exact, where its sets of switches are those of the region and reach finds what has a play.
use Rattle.std.proofs.Common.{◌≡◌, ◌<◌, ℕ, zero, suc, List, [], ◌∷◌, ◌++◌, length, slice_get, get_or, Some, arith}
use Rattle.lhg_num.specs.FracArithmetic.{frac_arithmetic}
use Rattle.lhg_row.specs.Lists.{minus}
use Rattle.lhg_motion.specs.ReachCalculus.{reach}
use Rattle.lhg_plant.specs.Plant.{PlainLocation, PlainPlant}
use Rattle.lhg_plant.specs.Region.{PlainRegion, InRegion}
use Rattle.lhg_plant.specs.Invariants.{pieces_at}
use Rattle.lhg_plant.specs.OutCalculus.{hit_pieces, out}
use Rattle.lhg_plant.specs.BackCalculus.{back, near_at}
use Rattle.lhg_loss.specs.Records.{pieces_lost, losses_at, one_round}
use Rattle.lhg_loss.specs.RoundFacts.{IsRegion, IsPlaceRound, IsExactRound, HasSwitchSets, HasReached}
use Rattle.lhg_loss.proofs.PlaceRound.{place_round}
use Rattle.lhg_loss.proofs.WholeRound.{round_exact}

-- a place of a list that has a member is within it
pub within : {A : Type 0} (xs : List A) (k : ℕ) (x : A) → slice_get xs k ≡ Some x → k < length xs
within [] k x e = cc
within (y ∷ xs) zero x e = omega arith
within (y ∷ xs) (suc k) x e = let l = within xs k x e in omega arith

-- each location
place_exact : (a : PlainPlant) (region : PlainRegion) → IsRegion a region → HasSwitchSets a region → HasReached a region → (round k : ℕ) (place : PlainLocation) → slice_get a.locs k ≡ Some place → (m : ℕ)
    → let outs = (out a region).value in
    let kss = (back a region outs.away).value in
    IsPlaceRound a (InRegion a region) k round m (losses_at a region outs kss round m (k, place)).value
    (minus frac_arithmetic (length a.vars) (pieces_at region k) (pieces_lost (losses_at a region outs kss round m (k, place)).value)).value
unfolding losses_at
place_exact a region shape sets reached round k place there m =
    let outs = (out a region).value in
    let kss = (back a region outs.away).value in
    let away = pieces_at outs.away k in
    let hits = get_or outs.hits k [] in
    let near = (near_at a region kss k).value in
    let found = (reach frac_arithmetic (length a.vars) (away ++ hit_pieces hits) near place.flow).value.found in
    place_round a region k round m place away hits near found shape there (sets k (within a.locs k place there)) (reached k place there)

-- the round
pub one_round_exact : (a : PlainPlant) (region : PlainRegion) (round first : ℕ) → IsRegion a region → HasSwitchSets a region → HasReached a region → IsExactRound a region round first (one_round a region round first).value
unfolding one_round
one_round_exact a region round first shape sets reached =
    round_exact a region (out a region).value (back a region (out a region).value.away).value round first (place_exact a region shape sets reached round)
