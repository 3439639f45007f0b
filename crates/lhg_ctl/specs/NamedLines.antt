-- The lines of a printed controller, list by list.
use Rattle.std.specs.Prelude.{ℕ, List, [], ◌∷◌, ◌++◌, length, map}
use Rattle.lhg_math.specs.Tests.{AllOf}
use Rattle.lhg_row.specs.Piece.{PlainPiece}
use Rattle.lhg_plant.specs.Controller.{PlainController}
use Rattle.lhg_plant.specs.Plant.{PlainPlant}
use Rattle.lhg_row_text.specs.PrintedLine.{spaced}
use Rattle.lhg_row_text.specs.RowText.{rows_text}
use Rattle.lhg_ctl.specs.Written.{IsWritten}

-- a word, a name and rows
abbrev pub named_line : List ℕ → List ℕ → List (List ℕ) → PlainPiece → List ℕ
named_line word name vars rows = spaced (word ∷ name ∷ rows_text vars rows ∷ [])

-- for each name and its list a line for each piece
abbrev pub named_lines : List ℕ → List (List ℕ) → List (List ℕ) → List (List PlainPiece) → List (List ℕ)
named_lines word [] vars lists = []
named_lines word (name ∷ names) vars [] = []
named_lines word (name ∷ names) vars (ps ∷ lists) = map (named_line word name vars) ps ++ named_lines word names vars lists

-- all rows of the controller can be read again
pub record AreWrittenLists (a : PlainPlant) (c : PlainController) : Type 0 where
  pub region : AllOf (AllOf (IsWritten (length a.vars))) c.region
  pub guards : AllOf (AllOf (IsWritten (length a.vars))) c.guards
