-- What does a round say of states, and what do plays by found pieces say of a round?
use Rattle.std.specs.Prelude.{◌≡◌, ◌↔◌, ◌<◌, ◌+◌, ℕ, List, [], ◌∷◌, ◌++◌, length, get_or, slice_get, Some, Contains}
use Rattle.lhg_math.specs.Tests.{AllOf}
use Rattle.lhg_num.specs.FracArithmetic.{frac_arithmetic}
use Rattle.lhg_row.specs.Row.{PlainPoint}
use Rattle.lhg_row.specs.Piece.{PlainPiece, InSome}
use Rattle.lhg_row.specs.PieceFacts.{AllPolys}
use Rattle.lhg_motion.specs.Reach.{HasPlay}
use Rattle.lhg_motion.specs.Found.{PlainFound, pieces_of, EachNamed}
use Rattle.lhg_motion.specs.ReachCalculus.{reach}
use Rattle.lhg_plant.specs.Plant.{PlainLocation, PlainPlant}
use Rattle.lhg_plant.specs.State.{PlainState, States}
use Rattle.lhg_plant.specs.Invariants.{pieces_at}
use Rattle.lhg_plant.specs.OutCalculus.{PlainHit, PlainOuts, hit_pieces, out}
use Rattle.lhg_plant.specs.BackCalculus.{back, near_at}
use Rattle.lhg_plant.specs.SwitchFacts.{state_at, IsAway, AreHits, IsNear}
use Rattle.lhg_plant.specs.OutBack.{Back}
use Rattle.lhg_plant.specs.Escape.{HasEscape}
use Rattle.lhg_plant.specs.Round.{Next}
use Rattle.lhg_plant.specs.Region.{PlainRegion, PlainGuards, InRegion}
use Rattle.lhg_plant.specs.Loss.{PlainLoss}
use Rattle.lhg_plant.specs.Sound.{IsInside, IsSoundBetween}
use Rattle.lhg_plant.specs.Solution.{InSomeLoss}
use Rattle.lhg_loss.specs.Records.{PlainRound, pieces_lost}

-- the bad and found pieces hold exactly the points over n variables with a play, and each found piece names a crossing
pub record AreReached (n : ℕ) (bad near : List PlainPiece) (flow : PlainPiece) (found : List PlainFound) : Type 0 where
  pub polys : AllPolys frac_arithmetic n (pieces_of found)
  pub exact : (x : PlainPoint) → length x ≡ n → InSome (bad ++ pieces_of found) x ↔ HasPlay bad near flow x
  pub named : EachNamed n near (bad ++ near) bad flow found

-- a region has one list for each location, of pieces inside its invariant
pub record IsRegion (a : PlainPlant) (region : PlainRegion) : Type 0 where
  pub listed : length region ≡ length a.locs
  pub polys : AllOf (AllPolys frac_arithmetic (length a.vars)) region
  pub inside : (l : ℕ) → AllOf (IsInside a l) (get_or region l [])

-- of one location: the pieces outside the set, those from which the plant can leave it by a switch, and those of the set that are not in its Back
pub record AreSwitchSets (a : PlainPlant) (S : States) (l : ℕ) (away : List PlainPiece) (hits : List PlainHit) (near : List PlainPiece) : Type 0 where
  pub away_is : IsAway a S l away
  pub hits_are : AreHits a S l hits
  pub near_is : IsNear a S l near
  pub near_polys : AllPolys frac_arithmetic (length a.vars) near

-- the sets of switches of a region that the calculus gives are, location by location, those of its states
abbrev pub HasSwitchSets : PlainPlant → PlainRegion → Type 0
HasSwitchSets a region =
    let outs = (out a region).value in
    let kss = (back a region outs.away).value in
    (l : ℕ) → l < length a.locs → AreSwitchSets a (InRegion a region) l (pieces_at outs.away l) (get_or outs.hits l []) (near_at a region kss l).value

-- what the calculus reaches in a location, where the states outside the region, the hits and the pieces of each switch back are given, is what has a play
abbrev pub IsReachedAt : PlainPlant → PlainRegion → PlainOuts → PlainGuards → ℕ → PlainLocation → Type 0
IsReachedAt a region outs kss l place =
    let bad = pieces_at outs.away l ++ hit_pieces (get_or outs.hits l []) in
    let near = (near_at a region kss l).value in
    AreReached (length a.vars) bad near place.flow (reach frac_arithmetic (length a.vars) bad near place.flow).value.found

-- the same of each location
abbrev pub AreReachedAll : PlainPlant → PlainRegion → PlainOuts → PlainGuards → Type 0
AreReachedAll a region outs kss = (l : ℕ) (place : PlainLocation) → slice_get a.locs l ≡ Some place → IsReachedAt a region outs kss l place

-- the same of each location of a round on the region
abbrev pub HasReached : PlainPlant → PlainRegion → Type 0
HasReached a region = AreReachedAll a region (out a region).value (back a region (out a region).value.away).value

-- the records have this round, and the numbers from the first on
abbrev pub AreNumbered : ℕ → ℕ → List PlainLoss → Type 0
AreNumbered round first [] = Unit {0}
AreNumbered round first (r ∷ rs) = (r.number ≡ first) × (r.round ≡ round) × AreNumbered round (first + 1) rs

-- what a location loses and keeps: the pieces that are left hold its states of the set without an escape from the set past its Back;
-- the records are numbered, are sound with the set and these pieces in the place of the rounds, and hold what is removed, each state of which has an escape
pub record IsPlaceRound (a : PlainPlant) (S : States) (l round first : ℕ) (losses : List PlainLoss) (rest : List PlainPiece) : Type 0 where
  pub rest_polys : AllPolys frac_arithmetic (length a.vars) rest
  pub exact : (p : PlainPoint) → length p ≡ length a.vars → InSome rest p ↔ Next a S (state_at l p)
  pub numbered : AreNumbered round first losses
  pub places : AllOf (λ r. r.loc ≡ l) losses
  pub polys : AllPolys frac_arithmetic (length a.vars) (pieces_lost losses)
  pub sound : AllOf (λ r. IsSoundBetween a S (λ s. InSome rest s.at) losses r) losses
  pub lost : (p : PlainPoint) → length p ≡ length a.vars → S (state_at l p) → ¬ InSome rest p → InSome (pieces_lost losses) p
  pub escapes : (p : PlainPoint) → length p ≡ length a.vars → S (state_at l p) → ¬ InSome rest p → HasEscape a S (Back a S) (state_at l p)

-- the region after the round is the states of the one before without an escape from it past its Back; the records are numbered,
-- are sound with the two in the place of the rounds, and hold exactly what is removed, each state of which has an escape
pub record IsExactRound (a : PlainPlant) (region : PlainRegion) (number first : ℕ) (r : PlainRound) : Type 0 where
  pub next_is : IsRegion a r.next
  pub exact : (s : PlainState) → InRegion a r.next s ↔ Next a (InRegion a region) s
  pub numbered : AreNumbered number first r.losses
  pub polys : AllPolys frac_arithmetic (length a.vars) (pieces_lost r.losses)
  pub sound : (loss : PlainLoss) → Contains r.losses loss → IsSoundBetween a (InRegion a region) (InRegion a r.next) r.losses loss
  pub lost : (s : PlainState) → InRegion a region s → ¬ InRegion a r.next s → InSomeLoss a r.losses s
  pub escapes : (s : PlainState) → InRegion a region s → ¬ InRegion a r.next s → HasEscape a (InRegion a region) (Back a (InRegion a region)) s
