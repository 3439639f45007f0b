-- What is a system, and which lists of rows may it keep?
use Rattle.std.specs.Prelude.{ℕ, refl}
use Rattle.std.specs.Coded.{Coded, code_by, coded×, coded_ℕ, coded_list}
use Rattle.lhg_num.specs.Arithmetic.{Arithmetic}
use Rattle.lhg_row.specs.Piece.{PlainPiece}
use Rattle.lhg_row.specs.PlainCode.{row_code}
use Rattle.lhg_row.specs.Width.{AllWide}
use Rattle.lhg_row.specs.Trim.{IsTrimmed}

-- a number of variables and a list of rows
pub record PlainSystem : Type 0 where
  pub width : ℕ
  pub lines : PlainPiece

-- each row has one coefficient per variable, and the list is trimmed
pub record IsSystem (a : Arithmetic) (width : ℕ) (lines : PlainPiece) : Type 0 where
  pub wide : AllWide width lines
  pub trimmed : IsTrimmed a lines

-- a system is stored as its number of variables and its rows
abbrev pub system_code : Coded PlainSystem
system_code =
    code_by (ℕ × PlainPiece) (coded× coded_ℕ (coded_list row_code)) (λ s. (s.width, s.lines)) (λ p. record { width = p.0; lines = p.1 }) (λ _. refl)
