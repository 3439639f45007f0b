-- What does a guess say of a system, and which numbers are formed to tell?
use Rattle.std.specs.Prelude.{ℕ, Bool, true, false, cond, ◌&&◌, length, nat_eq, Option, Some, None}
use Rattle.lhg_num.specs.FracArithmetic.{frac_arithmetic}
use Rattle.lhg_num.specs.Marked.{Marked, done, valued}
use Rattle.lhg_row.specs.Piece.{PlainPiece, in_piece}
use Rattle.lhg_row.specs.Truths.{piece_truth}
use Rattle.lhg_row.specs.HasValue.{IsEmptiness}
use Rattle.lhg_simplex.specs.Mixed.{refutes, marked_refutes}
use Rattle.lhg_simplex.specs.declared.guesses.Guess.{Guess}
use Rattle.lhg_simplex.specs.declared.guesses.Guess.TheVariants.{Point, Multipliers, Undecided}

-- the system has a point, which a right guess says, or no answer
abbrev pub has_one : Bool → Option Bool
has_one b = cond b (Some false) None

-- the system has no point, which a right guess says, or no answer
abbrev pub has_none : Bool → Option Bool
has_none b = cond b (Some true) None

-- false where the guess is a point of the rows over n variables, true where it is multipliers that refute them, and else no answer
abbrev pub verdict : ℕ → PlainPiece → Guess → Option Bool
verdict n rows (Point x) = has_one (nat_eq (length x) n && in_piece rows x)
verdict n rows (Multipliers ms) = has_none (refutes n rows ms.items)
verdict n rows Undecided = None

-- the same, with the marks of the numbers that are formed
abbrev pub marked_verdict : ℕ → PlainPiece → Guess → Marked (Option Bool)
marked_verdict n rows (Point x) = valued (λ b. has_one (nat_eq (length x) n && b)) (piece_truth frac_arithmetic rows x)
marked_verdict n rows (Multipliers ms) = valued has_none (marked_refutes frac_arithmetic n rows ms.items)
marked_verdict n rows Undecided = done None

-- an answer is true of the rows
abbrev pub IsAnswer : ℕ → PlainPiece → Option Bool → Type 0
IsAnswer n rows None = Unit {0}
IsAnswer n rows (Some b) = IsEmptiness n rows b
