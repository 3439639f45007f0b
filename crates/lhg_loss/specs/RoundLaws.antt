-- Which laws does a round obey: what does it lose and keep of each location, and of a region?
use Rattle.std.specs.Prelude.{◌≡◌, ℕ, List, [], ◌++◌, length, get_or, slice_get, Some}
use Rattle.lhg_num.specs.FracArithmetic.{frac_arithmetic}
use Rattle.lhg_row.specs.Piece.{PlainPiece}
use Rattle.lhg_row.specs.Lists.{minus}
use Rattle.lhg_motion.specs.Found.{PlainFound}
use Rattle.lhg_plant.specs.Plant.{PlainLocation, PlainPlant}
use Rattle.lhg_plant.specs.Region.{PlainRegion, InRegion}
use Rattle.lhg_plant.specs.OutCalculus.{PlainHit, hit_pieces}
use Rattle.lhg_loss.specs.Records.{pieces_lost, losses_from, one_round}
use Rattle.lhg_loss.specs.RoundFacts.{AreSwitchSets, AreReached, IsRegion, IsPlaceRound, IsExactRound, HasSwitchSets, HasReached}

-- one location: where the sets of switches are those of the region, and the found pieces those with a play, its records and what is left of it are exact
abbrev pub PlaceLaw : PlainPlant → PlainRegion → Type 0
PlaceLaw a region = (l round first : ℕ) (place : PlainLocation) (away : List PlainPiece) (hits : List PlainHit) (near : List PlainPiece) (found : List PlainFound)
    → IsRegion a region → slice_get a.locs l ≡ Some place → AreSwitchSets a (InRegion a region) l away hits near
    → AreReached (length a.vars) (away ++ hit_pieces hits) near place.flow found
    → IsPlaceRound a (InRegion a region) l round first (losses_from round l first away hits near found)
    (minus frac_arithmetic (length a.vars) (get_or region l []) (pieces_lost (losses_from round l first away hits near found))).value

-- the whole round, on a region inside the invariants
abbrev pub RoundLaw : PlainPlant → PlainRegion → Type 0
RoundLaw a region = (round first : ℕ) → IsRegion a region → HasSwitchSets a region → HasReached a region → IsExactRound a region round first (one_round a region round first).value
