-- Is a point in a piece, or in some piece of a list, and which numbers are formed to tell?
use Rattle.std.specs.Prelude.{◌≡◌, Bool, List}
use Rattle.lhg_num.specs.Arithmetic.{Arithmetic}
use Rattle.lhg_num.specs.Marked.{Marked}
use Rattle.lhg_row.specs.Row.{PlainPoint, holds_at}
use Rattle.lhg_row.specs.Piece.{PlainPiece, in_piece, in_some}
use Rattle.lhg_row.specs.Values.{truth}
use Rattle.lhg_row.specs.ValueLaws.{truth-value}
use Rattle.lhg_row.specs.MarkedTests.{marked_all, marked_any, marked_all-value, marked_any-value}

-- whether all rows hold at the point
abbrev pub piece_truth : Arithmetic → PlainPiece → PlainPoint → Marked Bool
piece_truth a rows x = marked_all (λ r. truth a r x) rows

-- whether the point is in some piece of the list
abbrev pub some_truth : Arithmetic → List PlainPiece → PlainPoint → Marked Bool
some_truth a ps x = marked_any (λ p. piece_truth a p x) ps

-- the truth that is formed is the truth
pub piece_truth-value : (a : Arithmetic) (rows : PlainPiece) (x : PlainPoint) → (piece_truth a rows x).value ≡ in_piece rows x
piece_truth-value a rows x = marked_all-value (λ r. truth a r x) (λ r. holds_at r x) (λ r. truth-value a r x) rows

-- the same of lists of pieces
pub some_truth-value : (a : Arithmetic) (ps : List PlainPiece) (x : PlainPoint) → (some_truth a ps x).value ≡ in_some ps x
some_truth-value a ps x = marked_any-value (λ p. piece_truth a p x) (λ p. in_piece p x) (λ p. piece_truth-value a p x) ps
