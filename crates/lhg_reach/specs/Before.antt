-- Which rows hold wherever a flow into a piece starts, and which near pieces have such a point?
use Rattle.std.specs.Prelude.{◌≡◌, ◌⊎◌, ℕ, Bool, true, false, [], ◌∷◌, ◌++◌, length, Option, Some, None}
use Rattle.lhg_math.specs.Number.{Number, nought}
use Rattle.lhg_math.specs.Tests.{AllOf}
use Rattle.lhg_num.specs.Arithmetic.{Arithmetic}
use Rattle.lhg_row.specs.Row.{PlainRow, PlainPoint, row_with, Holds}
use Rattle.lhg_row.specs.Piece.{PlainPiece}
use Rattle.lhg_row.specs.Members.{SomeOf}
use Rattle.lhg_row.specs.Width.{AllWide}
use Rattle.lhg_motion.specs.Flow.{IsFlow}
use Rattle.lhg_motion.specs.CrossCalculus.{cross}

-- the row of speeds at which the row's value falls, or does not rise
abbrev pub falling : Bool → PlainRow → PlainRow
falling strict r = row_with r.coefs strict nought

-- the row with this kind
abbrev pub of_kind : Bool → PlainRow → PlainRow
of_kind strict r = row_with r.coefs strict r.bound

-- wherever a flow starts at whose end the row holds, the other one holds
abbrev pub IsBefore : ℕ → PlainPiece → PlainRow → PlainRow → Type 0
IsBefore n flow r s = (x y : PlainPoint) (t : Number) → length x ≡ n → IsFlow [] flow x t y → Holds r y → Holds s x

-- the list, or the list and such a row over as many variables
abbrev pub HasMore : ℕ → PlainPiece → PlainRow → PlainPiece → PlainPiece → Type 0
HasMore n flow r old new = (new ≡ old) ⊎ ((s : PlainRow) × ((length s.coefs ≡ n) × (IsBefore n flow r s × (new ≡ old ++ s ∷ []))))

-- each of the rows is such a one for some row of the piece
abbrev pub AreBefore : ℕ → PlainPiece → PlainPiece → PlainPiece → Type 0
AreBefore n flow into rows = AllOf (λ s. SomeOf (λ r. IsBefore n flow r s) into) rows

-- an opening: false says that no crossing leads from the one piece into the other, whatever it leads through; true says nothing
abbrev pub IsOpening : Arithmetic → ℕ → PlainPiece → PlainPiece → PlainPiece → Bool → Type 0
IsOpening a n into flow start false = (way : PlainPiece) → AllWide n way → (cross a n start way into flow).value ≡ None
IsOpening a n into flow start true = Unit {0}
