-- What follows from multipliers that refute rows, and from the answer of a guess?
use Rattle.std.specs.Prelude.{◌≡◌, ℕ, true, List, length}
use Rattle.lhg_math.specs.Number.{Number}
use Rattle.lhg_row.specs.Row.{PlainPoint}
use Rattle.lhg_row.specs.Piece.{PlainPiece, InPiece}
use Rattle.lhg_row.specs.Width.{AllWide}
use Rattle.lhg_simplex.specs.Mixed.{refutes}
use Rattle.lhg_simplex.specs.Verdict.{verdict, IsAnswer}
use Rattle.lhg_simplex.specs.declared.guesses.Guess.{Guess}

-- rows over n variables that multipliers refute have no point
abbrev pub RefuteLaw : Type 0
RefuteLaw = (n : ℕ) (rows : PlainPiece) (ms : List Number) → AllWide n rows → refutes n rows ms ≡ true → (x : PlainPoint) → length x ≡ n → ¬ InPiece rows x

-- true says that the rows have no point, and false that they have one
abbrev pub VerdictLaw : Type 0
VerdictLaw = (n : ℕ) (rows : PlainPiece) (guess : Guess) → AllWide n rows → IsAnswer n rows (verdict n rows guess)
