-- Which locations lose nothing in a round on a region, and where do two regions agree?
use Rattle.std.specs.Prelude.{◌≡◌, ℕ, Bool, true, false, List, [], ◌∷◌, ◌++◌, length, get_or, slice_get, Some}
use Rattle.lhg_math.specs.Tests.{AllOf}
use Rattle.lhg_plant.specs.Plant.{PlainPlant, PlainLocation}
use Rattle.lhg_plant.specs.Region.{PlainRegion, PlainGuards}
use Rattle.lhg_plant.specs.Invariants.{pieces_at, invariants}
use Rattle.lhg_plant.specs.OutCalculus.{PlainOuts, away, out}
use Rattle.lhg_plant.specs.BackCalculus.{back, joined_at}
use Rattle.lhg_loss.specs.Records.{PlainRound, losses_at}
use Rattle.lhg_loss.specs.RoundFacts.{IsReachedAt}

-- ---- sets of switches
-- the states from which the plant leaves the region
abbrev pub outs_from : PlainPlant → PlainRegion → PlainOuts
outs_from a region = (out a region).value

-- the states that each switch keeps in the region
abbrev pub backs_from : PlainPlant → PlainRegion → PlainGuards
backs_from a region = (back a region (out a region).value.away).value

-- ---- one location
-- the regions have the same pieces in location l, and in each location that a switch from it enters
pub record AgreeAt (a : PlainPlant) (l : ℕ) (region next : PlainRegion) : Type 0 where
  pub here : pieces_at next l ≡ pieces_at region l
  pub targets : AllOf (λ w. w.from ≡ l → pieces_at next w.to ≡ pieces_at region w.to) a.switches

-- a round on the region makes no record in location l, which stands with its place in the plant, whatever the number of the round and that
-- of its first record; and what it reaches there is what has a play
pub record IsQuietAt (a : PlainPlant) (region : PlainRegion) (l : ℕ) (place : PlainLocation) : Type 0 where
  pub reached : IsReachedAt a region (outs_from a region) (backs_from a region) l place
  pub none : (round first : ℕ) → (losses_at a region (outs_from a region) (backs_from a region) round first (l, place)).value ≡ []

-- the sets of switches that are given are those of the region, in location l
pub record HasSetsAt (a : PlainPlant) (region : PlainRegion) (l : ℕ) (outs : PlainOuts) (kss : PlainGuards) : Type 0 where
  pub outside : pieces_at outs.away l ≡ pieces_at (outs_from a region).away l
  pub hits : get_or outs.hits l [] ≡ get_or (outs_from a region).hits l []
  pub joined : joined_at l a.switches kss ≡ joined_at l a.switches (backs_from a region)

-- one location more of a round is quiet, and keeps its pieces
pub record IsUnchangedAt (a : PlainPlant) (region : PlainRegion) (l : ℕ) (so_far after : PlainRound) : Type 0 where
  pub next : after.next ≡ so_far.next ++ pieces_at region l ∷ []
  pub quiet : (place : PlainLocation) → slice_get a.locs l ≡ Some place → IsQuietAt a region l place

-- ---- all locations
-- there is a mark for each location, and each that is marked is quiet
pub record AreQuiet (a : PlainPlant) (region : PlainRegion) (marks : List Bool) : Type 0 where
  pub many : length marks ≡ length a.locs
  pub quiet : (l : ℕ) (place : PlainLocation) → slice_get a.locs l ≡ Some place → get_or marks l false ≡ true → IsQuietAt a region l place

-- from the region to the next one each location that is not marked is quiet, and keeps its pieces
pub record AreChanges (a : PlainPlant) (region next : PlainRegion) (marks : List Bool) : Type 0 where
  pub same : (l : ℕ) → get_or marks l true ≡ false → pieces_at next l ≡ pieces_at region l
  pub quiet : (l : ℕ) (place : PlainLocation) → slice_get a.locs l ≡ Some place → get_or marks l true ≡ false → IsQuietAt a region l place

-- neither location l nor a location that a switch from it enters is marked
pub record IsUnmarked (a : PlainPlant) (marks : List Bool) (l : ℕ) : Type 0 where
  pub here : get_or marks l true ≡ false
  pub targets : AllOf (λ w. w.from ≡ l → get_or marks w.to true ≡ false) a.switches

-- in each location that is not marked the pieces are those outside the region
abbrev pub AreKeptOutside : PlainPlant → PlainRegion → List Bool → PlainRegion → Type 0
AreKeptOutside a region marks outside = (l : ℕ) → get_or marks l true ≡ false → pieces_at outside l ≡ pieces_at (away (length a.vars) (invariants a).value region).value l
