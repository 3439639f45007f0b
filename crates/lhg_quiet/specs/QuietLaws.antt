-- Which laws let a round pass over a location?
use Rattle.std.specs.Prelude.{◌≡◌, ◌≤◌, ℕ, Bool, true, false, List, [], ◌∷◌, ◌++◌, length, get_or, slice_get, Some}
use Rattle.lhg_plant.specs.Plant.{PlainPlant, PlainLocation}
use Rattle.lhg_plant.specs.Region.{PlainRegion, PlainGuards}
use Rattle.lhg_plant.specs.Invariants.{pieces_at, invariants}
use Rattle.lhg_plant.specs.OutCalculus.{PlainOuts, away}
use Rattle.lhg_loss.specs.Records.{PlainRound, losses_at, round_at}
use Rattle.lhg_loss.specs.RoundFacts.{IsReachedAt}
use Rattle.lhg_quiet.specs.Quiet.{outs_from, backs_from, AgreeAt, IsQuietAt, HasSetsAt, IsUnchangedAt, AreQuiet, AreChanges, IsUnmarked, AreKeptOutside}

-- same: where two regions agree in a location and in the targets of its switches, a round makes the same records there, with the same marks.
-- quiet: a location without a record in one round is quiet. again: it stays so on each region that agrees with this one there.
-- skipped: a round adds no record there, and leaves its pieces as they are
pub record QuietLaws (a : PlainPlant) : Type 0 where
  pub same : (region next : PlainRegion) (l : ℕ) (place : PlainLocation) (round first : ℕ) → AgreeAt a l region next
      → losses_at a next (outs_from a next) (backs_from a next) round first (l, place) ≡ losses_at a region (outs_from a region) (backs_from a region) round first (l, place)
  pub quiet : (region : PlainRegion) (l : ℕ) (place : PlainLocation) (round first : ℕ) → IsReachedAt a region (outs_from a region) (backs_from a region) l place
      → (losses_at a region (outs_from a region) (backs_from a region) round first (l, place)).value ≡ [] → IsQuietAt a region l place
  pub again : (region next : PlainRegion) (l : ℕ) (place : PlainLocation) → AgreeAt a l region next → IsQuietAt a region l place → IsQuietAt a next l place
  pub skipped : (region : PlainRegion) (l : ℕ) (place : PlainLocation) (round first : ℕ) (so_far : PlainRound) → IsQuietAt a region l place
      → (round_at a region (outs_from a region) (backs_from a region) round first so_far (l, place)).value ≡ record { losses = so_far.losses; next = so_far.next ++ pieces_at region l ∷ [] }

-- round, reached: a round uses of the sets of switches those of the location alone. unchanged: where it adds no record, the location is quiet
-- and keeps its pieces
pub record PlaceLaws (a : PlainPlant) (region : PlainRegion) (l : ℕ) (place : PlainLocation) : Type 0 where
  pub round : (outs : PlainOuts) (kss : PlainGuards) (number first : ℕ) (so_far : PlainRound) → HasSetsAt a region l outs kss
      → round_at a region outs kss number first so_far (l, place) ≡ round_at a region (outs_from a region) (backs_from a region) number first so_far (l, place)
  pub reached : (outs : PlainOuts) (kss : PlainGuards) → HasSetsAt a region l outs kss → IsReachedAt a region outs kss l place → IsReachedAt a region (outs_from a region) (backs_from a region) l place
  pub unchanged : (number first : ℕ) (so_far after : PlainRound) → slice_get a.locs l ≡ Some place → IsReachedAt a region (outs_from a region) (backs_from a region) l place
      → after ≡ (round_at a region (outs_from a region) (backs_from a region) number first so_far (l, place)).value → length after.losses ≤ length so_far.losses → IsUnchangedAt a region l so_far after

-- none: before the first location nothing is marked. step: one location more, which is marked unless it is unchanged. quiet: a location is
-- quiet on the next region, where neither it nor a target of one of its switches is marked. outside: what is outside is so in the next
-- region too, where it is not marked
pub record ChangeLaws (a : PlainPlant) (region : PlainRegion) : Type 0 where
  pub none : AreChanges a region [] []
  pub step : (l : ℕ) (place : PlainLocation) (number first : ℕ) (so_far after : PlainRound) (marks : List Bool) (b : Bool) → AreChanges a region so_far.next marks → length so_far.next ≡ l → length marks ≡ l
      → after ≡ (round_at a region (outs_from a region) (backs_from a region) number first so_far (l, place)).value → (b ≡ false → IsUnchangedAt a region l so_far after) → AreChanges a region after.next (marks ++ b ∷ [])
  pub quiet : (next : PlainRegion) (changed marks : List Bool) → AreChanges a region next changed → length marks ≡ length a.locs → ((l : ℕ) → get_or marks l false ≡ true → IsUnmarked a changed l) → AreQuiet a next marks
  pub outside : (next : PlainRegion) (changed : List Bool) → AreChanges a region next changed → AreKeptOutside a next changed (away (length a.vars) (invariants a).value region).value
