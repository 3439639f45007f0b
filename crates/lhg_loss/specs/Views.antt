-- What do contracts see of the records that the code holds?
use Rattle.std.specs.Prelude.{◌≡◌, ℕ, List, map}
use Rattle.lhg_math.specs.Tests.{AllOf}
use Rattle.lhg_plant.specs.Loss.{PlainCause, by_env, by_leave, by_flow, PlainLoss}
use Rattle.lhg_loss.specs.declared.losses.Cause.{Cause}
use Rattle.lhg_loss.specs.declared.losses.Cause.TheVariants.{Env, Leave, Flow}
use Rattle.lhg_loss.specs.declared.losses.Loss.{Loss}

-- a cause as plain data
abbrev pub plain_cause : Cause → PlainCause
plain_cause (Env e into) = by_env e into.lines
plain_cause (Leave through into) = by_leave through.lines into.lines
plain_cause (Flow m through) = by_flow m through.lines

-- a record as plain data
abbrev pub plain_loss : Loss → PlainLoss
plain_loss r = record { number = r.number; round = r.round; loc = r.loc; piece = r.piece.lines; cause = plain_cause r.cause }

-- records as plain data
abbrev pub plain_losses : List Loss → List PlainLoss
plain_losses rs = map plain_loss rs

-- the pieces of the records are over n variables
abbrev pub AreOver : ℕ → List Loss → Type 0
AreOver n rs = AllOf (λ r. r.piece.width ≡ n) rs

-- the pieces that a cause names are over n variables
abbrev pub CauseVars : ℕ → Cause → Type 0
CauseVars n (Env e into) = into.width ≡ n
CauseVars n (Leave through into) = (through.width ≡ n) × (into.width ≡ n)
CauseVars n (Flow m through) = through.width ≡ n

-- the piece of a record, and those that its cause names, are over n variables
abbrev pub LossVars : ℕ → Loss → Type 0
LossVars n r = (r.piece.width ≡ n) × CauseVars n r.cause

-- the same of each record
abbrev pub AllHaveVars : ℕ → List Loss → Type 0
AllHaveVars n rs = AllOf (LossVars n) rs
