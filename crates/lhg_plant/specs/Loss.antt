-- What does a loss record say of its states, and when is it true?
use Rattle.std.specs.Prelude.{◌≡◌, ◌<◌, ℕ, suc, List, [], ◌∷◌, Some, slice_get}
use Rattle.lhg_row.specs.Piece.{PlainPiece, InPiece}
use Rattle.lhg_motion.specs.Play.{PlainMove, EachEarlier}
use Rattle.lhg_plant.specs.declared.plants.Side.TheVariants.{Env}
use Rattle.lhg_plant.specs.Plant.{PlainPlant}
use Rattle.lhg_plant.specs.State.{PlainState, States, IsState, moved_to}
use Rattle.lhg_plant.specs.Legal.{LegalSwitch, HasSide, IsPlayFrom}
use Rattle.lhg_plant.specs.OutBack.{Back}
use Rattle.lhg_plant.specs.Escape.{MayPass}
use Rattle.lhg_plant.specs.Round.{InRound}

-- the named move, with the pieces that show it: an uncontrollable switch, a flow that leaves, or a flow to the states of a
-- record with this number
pub data PlainCause : Type 0 where
  by_env : (switch : ℕ) → (into : PlainPiece) → PlainCause
  by_leave : (through : PlainPiece) → (into : PlainPiece) → PlainCause
  by_flow : (number : ℕ) → (through : PlainPiece) → PlainCause

-- a record of states of one location that were removed in one round
pub record PlainLoss : Type 0 where
  pub number : ℕ
  pub round : ℕ
  pub loc : ℕ
  pub piece : PlainPiece
  pub cause : PlainCause

-- the state is in the location, and in the piece
pub record InPieceAt (a : PlainPlant) (loc : ℕ) (piece : PlainPiece) (s : PlainState) : Type 0 where
  pub state : IsState a s
  pub here : s.loc ≡ loc
  pub inside : InPiece piece s.at

-- the state is one of the record
abbrev pub InLoss : PlainPlant → PlainLoss → PlainState → Type 0
InLoss a loss s = InPieceAt a loss.loc loss.piece s

-- the other record is of the list, has the number m, which is smaller than that of the record, and the same round and location
pub record IsEarlierLoss (losses : List PlainLoss) (m : ℕ) (loss earlier : PlainLoss) : Type 0 where
  pub index : ℕ
  pub is_there : slice_get losses index ≡ Some earlier
  pub number : earlier.number ≡ m
  pub smaller : m < loss.number
  pub same_round : earlier.round ≡ loss.round
  pub same_loc : earlier.loc ≡ loss.loc

-- a legal uncontrollable switch e leads from the state to one that is not in the set
pub record HasEnvOut (a : PlainPlant) (S : States) (e : ℕ) (s : PlainState) : Type 0 where
  pub side : HasSide a e Env
  pub result : PlainState
  pub legal : LegalSwitch a e s result
  pub gone : ¬ S result

-- one legal flow leads from the state to one of the target, and each earlier point of it is in Out of the set or not in its Back
pub record HasFlowTo (a : PlainPlant) (S target : States) (s : PlainState) : Type 0 where
  pub move : PlainMove
  pub legal : IsPlayFrom a s (move ∷ [])
  pub ends : target (moved_to s move.to)
  pub earlier : EachEarlier (λ p. MayPass a S (Back a S) (moved_to s p)) s.at (move ∷ [])

-- the state has the move that the cause names, S being the round before the record's
abbrev pub HasMove : PlainPlant → States → List PlainLoss → PlainLoss → PlainCause → PlainState → Type 0
HasMove a S losses loss (by_env e into) s = HasEnvOut a S e s
HasMove a S losses loss (by_leave through into) s = HasFlowTo a S (λ z. IsState a z × ¬ S z) s
HasMove a S losses loss (by_flow m through) s = (earlier : PlainLoss) × IsEarlierLoss losses m loss earlier × HasFlowTo a S (InLoss a earlier) s

-- each state of the record is in the set before the round, is not in the set after it, and has the named move
pub record IsTrueBetween (a : PlainPlant) (before after : States) (losses : List PlainLoss) (loss : PlainLoss) : Type 0 where
  pub kept : (s : PlainState) → InLoss a loss s → before s
  pub gone : (s : PlainState) → InLoss a loss s → ¬ after s
  pub move : (s : PlainState) → InLoss a loss s → HasMove a before losses loss loss.cause s

-- a record of a round i, at least 1, is true where each of its states was removed in round i and has the named move
pub record IsTrueLoss (a : PlainPlant) (losses : List PlainLoss) (loss : PlainLoss) : Type 0 where
  pub round : ℕ
  pub number : loss.round ≡ suc round
  pub true_between : IsTrueBetween a (InRound a round) (InRound a (suc round)) losses loss
