-- When do the pieces that a loss record names show its move, so that it is sound?
use Rattle.std.specs.Prelude.{◌≡◌, ℕ, suc, List, length, slice_get, IsSomeAnd}
use Rattle.lhg_math.specs.Number.{Number}
use Rattle.lhg_math.specs.Places.{IsInner}
use Rattle.lhg_row.specs.Row.{PlainPoint}
use Rattle.lhg_row.specs.Piece.{PlainPiece, InPiece}
use Rattle.lhg_motion.specs.Segment.{along}
use Rattle.lhg_motion.specs.Play.{PlainMove}
use Rattle.lhg_plant.specs.declared.plants.Side.TheVariants.{Env}
use Rattle.lhg_plant.specs.Plant.{PlainPlant}
use Rattle.lhg_plant.specs.State.{PlainState, States, IsState, moved_to}
use Rattle.lhg_plant.specs.Legal.{LegalFlow, LegalSwitch, HasSide}
use Rattle.lhg_plant.specs.OutBack.{Back}
use Rattle.lhg_plant.specs.Escape.{MayPass}
use Rattle.lhg_plant.specs.Round.{InRound}
use Rattle.lhg_plant.specs.Loss.{PlainCause, by_env, by_leave, by_flow, PlainLoss, InPieceAt, InLoss, IsEarlierLoss, IsTrueBetween}

-- the piece lies inside the location's invariant
abbrev pub IsInside : PlainPlant → ℕ → PlainPiece → Type 0
IsInside a loc piece = (p : PlainPoint) → length p ≡ length a.vars → InPiece piece p → IsState a (record { loc = loc; at = p })

-- one legal flow leads from the state to one of the target, and all its points strictly between its ends lie in the piece
pub record HasFlowThrough (a : PlainPlant) (through : PlainPiece) (target : States) (s : PlainState) : Type 0 where
  pub move : PlainMove
  pub legal : LegalFlow a s move.time move.to
  pub ends : target (moved_to s move.to)
  pub inner : (p : Number) → IsInner p → InPiece through (along s.at move.to p)

-- no state of the piece is in the set
abbrev pub MissesSet : PlainPlant → States → ℕ → PlainPiece → Type 0
MissesSet a S loc piece = (z : PlainState) → InPieceAt a loc piece z → ¬ S z

-- each state of the piece is in Out of the set or not in its Back
abbrev pub AllMayPass : PlainPlant → States → ℕ → PlainPiece → Type 0
AllMayPass a S loc piece = (z : PlainState) → InPieceAt a loc piece z → MayPass a S (Back a S) z

-- each state of the record has a legal result of the uncontrollable switch e in the piece, and no state of the piece is in the set
pub record ShowsEnv (a : PlainPlant) (S : States) (loss : PlainLoss) (e : ℕ) (into : PlainPiece) : Type 0 where
  pub side : HasSide a e Env
  pub target : ℕ
  pub enters : IsSomeAnd (slice_get a.switches e) (λ w. w.to ≡ target)
  pub inside : IsInside a target into
  pub result : (s : PlainState) → InLoss a loss s → (z : PlainState) × LegalSwitch a e s z × InPieceAt a target into z
  pub missed : MissesSet a S target into

-- each state of the record has one legal flow through the first piece to the second; no state of the second is in the set;
-- each state of the first is in Out of the set or not in its Back
pub record ShowsLeave (a : PlainPlant) (S : States) (loss : PlainLoss) (through into : PlainPiece) : Type 0 where
  pub through_inside : IsInside a loss.loc through
  pub into_inside : IsInside a loss.loc into
  pub flow : (s : PlainState) → InLoss a loss s → HasFlowThrough a through (InPieceAt a loss.loc into) s
  pub missed : MissesSet a S loss.loc into
  pub passed : AllMayPass a S loss.loc through

-- each state of the record has one legal flow through the piece to a state of record m; each state of the piece is in Out of
-- the set or not in its Back
pub record ShowsFlow (a : PlainPlant) (S : States) (losses : List PlainLoss) (loss : PlainLoss) (m : ℕ) (through : PlainPiece) : Type 0 where
  pub through_inside : IsInside a loss.loc through
  pub earlier : PlainLoss
  pub is_earlier : IsEarlierLoss losses m loss earlier
  pub flow : (s : PlainState) → InLoss a loss s → HasFlowThrough a through (InLoss a earlier) s
  pub passed : AllMayPass a S loss.loc through

-- the pieces of the cause show the move, S being the round before the record's
abbrev pub Shows : PlainPlant → States → List PlainLoss → PlainLoss → PlainCause → Type 0
Shows a S losses loss (by_env e into) = ShowsEnv a S loss e into
Shows a S losses loss (by_leave through into) = ShowsLeave a S loss through into
Shows a S losses loss (by_flow m through) = ShowsFlow a S losses loss m through

-- true for the sets before and after a round, inside the invariant, and shown by its pieces
pub record IsSoundBetween (a : PlainPlant) (before after : States) (losses : List PlainLoss) (loss : PlainLoss) : Type 0 where
  pub is_true : IsTrueBetween a before after losses loss
  pub inside : IsInside a loss.loc loss.piece
  pub shows : Shows a before losses loss loss.cause

-- a record of a round i, at least 1, is sound where it is true and the pieces that it names show this
pub record IsSoundLoss (a : PlainPlant) (losses : List PlainLoss) (loss : PlainLoss) : Type 0 where
  pub round : ℕ
  pub number : loss.round ≡ suc round
  pub sound_between : IsSoundBetween a (InRound a round) (InRound a (suc round)) losses loss
