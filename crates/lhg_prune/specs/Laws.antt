-- What may callers rest on?
use Rattle.std.specs.Prelude.{◌≡◌, ℕ, ◌+◌, ◌-◌, ◌<◌, ◌≤◌, Bool, length, filter, None}
use Rattle.lhg_num.specs.Arithmetic.{Arithmetic, IsLawful}
use Rattle.lhg_row.specs.Row.{PlainRow}
use Rattle.lhg_row.specs.Piece.{PlainPiece}
use Rattle.lhg_row.specs.Width.{AllWide}
use Rattle.lhg_row.specs.System.{IsSystem}
use Rattle.lhg_row.specs.Eliminate.{pair_at, eliminate_last}
use Rattle.lhg_row.specs.Pieces.{thin, make, project}
use Rattle.lhg_elim.specs.Alike.{AllAlike}
use Rattle.lhg_elim.specs.Turned.{AllTurned}
use Rattle.lhg_prune.specs.Chosen.{IsChosen}
use Rattle.lhg_prune.specs.Pruning.{IsPruning, IsLeft}
use Rattle.lhg_prune.specs.Touch.{AreEnough}

-- rows that are enough make the piece that all make
abbrev pub EnoughLaw : Type 0
EnoughLaw = (a : Arithmetic) (n : ℕ) (rows : PlainPiece) (keeps : PlainRow → Bool) → IsLawful a → AllWide n rows → AreEnough n rows keeps
    → (thin a n (length rows) rows).value ≡ (thin a n (length (filter keeps rows)) (filter keeps rows)).value

-- what is chosen of the last elimination is a pruning
abbrev pub PruningLaw : Type 0
PruningLaw = (a : Arithmetic) (n keep : ℕ) (rows before chosen : PlainPiece) → IsLawful a → keep < n → AllWide n rows
    → before ≡ (eliminate_last a (keep + 1) (n - (keep + 1)) rows).value → (pair_at a keep 0 before).value ≡ None → IsChosen a keep before chosen → IsPruning a n keep rows chosen

-- what is left of rows alike those of a system, or a pruning of it, turned back, makes the piece that the system projects to
abbrev pub PieceLaw : Type 0
PieceLaw = (a w : Arithmetic) (n keep : ℕ) (rows others kept back : PlainPiece) → IsLawful a → IsLawful w → keep ≤ n → IsSystem a n rows → AllAlike a rows others
    → IsLeft w n keep others kept → AllTurned a kept back → AllWide keep back × ((project a n keep rows).value ≡ (make a keep back).value)
