-- What does the text of a report determine?
use Rattle.std.specs.Prelude.{◌≡◌, ◌<◌, ◌≤◌, ℕ, List, length, map}
use Rattle.lhg_math.specs.Tests.{AllOf}
use Rattle.lhg_lex.specs.Literal.{limit}
use Rattle.lhg_row.specs.Piece.{PlainPiece}
use Rattle.lhg_plant.specs.Controller.{PlainController}
use Rattle.lhg_plant.specs.Loss.{PlainLoss, PlainCause, by_env, by_leave, by_flow}
use Rattle.lhg_plant.specs.Plant.{PlainPlant}
use Rattle.lhg_plant.specs.Proper.{IsProper}
use Rattle.lhg_ctl.specs.Written.{IsWritten, IsWrittenController}
use Rattle.lhg_text.specs.ReportText.{report_text}

-- a cause as it is printed: the switch, or the number of the other record, without the pieces that show it
pub data PrintedCause : Type 0 where
  env : (switch : ℕ) → PrintedCause
  leave : PrintedCause
  flow : (number : ℕ) → PrintedCause

abbrev pub printed_cause : PlainCause → PrintedCause
printed_cause (by_env e into) = env e
printed_cause (by_leave through into) = leave
printed_cause (by_flow m through) = flow m

-- a record as it is printed
pub record PrintedLoss : Type 0 where
  pub number : ℕ
  pub round : ℕ
  pub loc : ℕ
  pub cause : PrintedCause
  pub rows : PlainPiece

abbrev pub printed_loss : PlainLoss → PrintedLoss
printed_loss loss = record { number = loss.number; round = loss.round; loc = loss.loc; cause = printed_cause loss.cause; rows = loss.piece }

-- the switch of the cause is there, and its number can be read
abbrev pub IsWrittenCause : PlainPlant → PlainCause → Type 0
IsWrittenCause a (by_env e into) = e < length a.switches
IsWrittenCause a (by_leave through into) = Unit {0}
IsWrittenCause a (by_flow m through) = m ≤ limit

-- the location of a record is there, and its numbers and its rows can be read
pub record IsWrittenLoss (a : PlainPlant) (loss : PlainLoss) : Type 0 where
  pub number : loss.number ≤ limit
  pub round : loss.round ≤ limit
  pub loc : loss.loc < length a.locs
  pub cause : IsWrittenCause a loss.cause
  pub rows : IsWritten (length a.vars) loss.piece

-- the same of a report
pub record IsWrittenReport (a : PlainPlant) (rounds : ℕ) (c : PlainController) (losses : List PlainLoss) : Type 0 where
  pub few_rounds : rounds ≤ limit
  pub controller : IsWrittenController a c
  pub each_loss : AllOf (IsWrittenLoss a) losses

-- two reports of a plant with one text have the same number of rounds, pieces, guard pieces, and records as they are printed
pub record SameReport (rounds_1 : ℕ) (c_1 : PlainController) (losses_1 : List PlainLoss) (rounds_2 : ℕ) (c_2 : PlainController) (losses_2 : List PlainLoss) : Type 0 where
  pub rounds : rounds_1 ≡ rounds_2
  pub region : c_1.region ≡ c_2.region
  pub guards : c_1.guards ≡ c_2.guards
  pub losses : map printed_loss losses_1 ≡ map printed_loss losses_2

-- a report of a plant has one reading
pub record ReportLaws : Type 0 where
  pub one_reading : (a : PlainPlant) (rounds_1 : ℕ) (c_1 : PlainController) (losses_1 : List PlainLoss) (rounds_2 : ℕ) (c_2 : PlainController) (losses_2 : List PlainLoss)
      → IsProper a → IsWrittenReport a rounds_1 c_1 losses_1 → IsWrittenReport a rounds_2 c_2 losses_2
      → report_text a rounds_1 c_1 losses_1 ≡ report_text a rounds_2 c_2 losses_2 → SameReport rounds_1 c_1 losses_1 rounds_2 c_2 losses_2
