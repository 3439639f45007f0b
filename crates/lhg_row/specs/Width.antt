-- How many coefficients have the rows of a list, and which lists are tidy?
use Rattle.std.specs.Prelude.{◌≡◌, ◌<◌, ◌⊎◌, ℕ, true, length}
use Rattle.lhg_math.specs.Tests.{AllOf, Every}
use Rattle.lhg_row.specs.Piece.{PlainPiece}
use Rattle.lhg_row.specs.Constant.{varies, is_nothing}

-- each row has n coefficients
abbrev pub AllWide : ℕ → PlainPiece → Type 0
AllWide n rows = AllOf (λ r. length r.coefs ≡ n) rows

-- the rows have one number of coefficients
pub record HasWidth (rows : PlainPiece) : Type 0 where
  pub width : ℕ
  pub wide : AllWide width rows

-- and k is one of their variables
pub record HasVariable (k : ℕ) (rows : PlainPiece) : Type 0 where
  pub width : ℕ
  pub there : k < width
  pub wide : AllWide width rows

-- a tidy list: the one row 0 < 0, or rows of which each has a variable
abbrev pub IsTidy : PlainPiece → Type 0
IsTidy rows = (is_nothing rows ≡ true) ⊎ Every varies rows
