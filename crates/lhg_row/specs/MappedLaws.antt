-- What do rows say that are made one by one of the rows of a list?
use Rattle.std.specs.Prelude.{◌≡◌, ℕ, Bool, ◌&&◌, [], ◌∷◌, map, length}
use Rattle.std.proofs.Common.{refl, ap, ◌∙◌}
use Rattle.lhg_math.specs.Tests.{all_of}
use Rattle.lhg_row.specs.Row.{PlainRow, PlainPoint, holds_at}
use Rattle.lhg_row.specs.Piece.{PlainPiece, in_piece}
use Rattle.lhg_row.specs.Width.{AllWide}

-- where each new row holds exactly if the old one passes a test, all hold exactly if all pass
pub in_piece-mapped : (n : ℕ) (f : PlainRow → PlainRow) (test : PlainRow → Bool) (z : PlainPoint) → ((r : PlainRow) → length r.coefs ≡ n → holds_at (f r) z ≡ test r) → (rows : PlainPiece) → AllWide n rows → in_piece (map f rows) z ≡ all_of test rows
in_piece-mapped n f test z same [] wide = refl
in_piece-mapped n f test z same (r ∷ rows) wide =
    ap (λ b. b && in_piece (map f rows) z) (same r wide.0) ∙ ap (λ b. test r && b) (in_piece-mapped n f test z same rows wide.1)

-- where each new row has one width, the list has it
pub mapped-wide : (n m : ℕ) (f : PlainRow → PlainRow) → ((r : PlainRow) → length r.coefs ≡ n → length (f r).coefs ≡ m) → (rows : PlainPiece) → AllWide n rows → AllWide m (map f rows)
mapped-wide n m f fits [] wide = tt
mapped-wide n m f fits (r ∷ rows) wide = (fits r wide.0, mapped-wide n m f fits rows wide.1)
