-- The places of states are those of the plant.
use Rattle.std.proofs.Common.{◌≡◌, ◌<◌, ℕ, zero, suc, length, slice_get, refl}
use Rattle.lhg_plant.specs.Plant.{PlainPlant}
use Rattle.lhg_plant.specs.State.{PlainState, IsState}
use Rattle.lhg_plant.specs.Round.{InRound}
use Rattle.lhg_loss.specs.StageFacts.{IsSpent}
use Rattle.lhg_text.specs.TraceText.{IsPlacedState}
use Rattle.lhg_text.proofs.RecordPlaces.{there}

-- a state of a round is one of the plant
pub round_state : (a : PlainPlant) (i : ℕ) (s : PlainState) → InRound a i s → IsState a s
round_state a zero s h = h.state
round_state a (suc i) s h = round_state a i s h.0

pub spent_place : (a : PlainPlant) (budget : ℕ) (s : PlainState) → IsSpent a budget s → s.loc < length a.locs
spent_place a budget s h = there _ a.locs s.loc (slice_get a.locs s.loc) refl (round_state a h.removed.round s h.removed.kept).inside

pub spent_length : (a : PlainPlant) (budget : ℕ) (s : PlainState) → IsSpent a budget s → length s.at ≡ length a.vars
spent_length a budget s h = (round_state a h.removed.round s h.removed.kept).fits

-- a state of the plant has its place
pub placed_state : (a : PlainPlant) (s : PlainState) → IsState a s → IsPlacedState a s
placed_state a s h = record { loc = there _ a.locs s.loc (slice_get a.locs s.loc) refl h.inside; fits = h.fits }
