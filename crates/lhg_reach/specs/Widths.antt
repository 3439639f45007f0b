-- When are pieces and flow rows over one number of variables?
use Rattle.std.specs.Prelude.{ℕ, List}
use Rattle.lhg_row.specs.Piece.{PlainPiece}
use Rattle.lhg_row.specs.System.{PlainSystem}
use Rattle.lhg_row.specs.Width.{AllWide}
use Rattle.lhg_union.specs.PolyLists.{AllVars}

-- all pieces of two lists, and the flow rows, are over n variables
pub record AllOverVars (n : ℕ) (ps qs : List PlainSystem) (flow : PlainPiece) : Type 0 where
  pub first : AllVars n ps
  pub second : AllVars n qs
  pub rows : AllWide n flow

-- they are over some number of variables
pub record HaveVarsAndFlow (ps qs : List PlainSystem) (flow : PlainPiece) : Type 0 where
  pub vars : ℕ
  pub over : AllOverVars vars ps qs flow

-- all pieces of three lists, and the flow rows, are over n variables
pub record AllThree (n : ℕ) (ps qs rs : List PlainSystem) (flow : PlainPiece) : Type 0 where
  pub near : AllVars n ps
  pub ways : AllVars n qs
  pub known : AllVars n rs
  pub rows : AllWide n flow

-- they are over some number of variables
pub record HaveThree (ps qs rs : List PlainSystem) (flow : PlainPiece) : Type 0 where
  pub vars : ℕ
  pub over : AllThree vars ps qs rs flow
