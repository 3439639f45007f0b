-- How wide are the rows of a piece?
use Rattle.std.proofs.Common.{◌≡◌, ℕ, sym, subst}
use Rattle.lhg_row.specs.Piece.{PlainPiece}
use Rattle.lhg_row.specs.Width.{AllWide}

-- as wide as rows that are the same
pub wide_as : (n width : ℕ) (rows lines : PlainPiece) → width ≡ n → rows ≡ lines → AllWide width lines → AllWide n rows
wide_as n width rows lines e same h = subst (AllWide n) (sym same) (subst (λ k. AllWide k lines) e h)
