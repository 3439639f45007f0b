-- Which of the known pieces are new to a layer?
use Rattle.std.specs.Prelude.{◌≡◌, ◌≤◌, ℕ, List, length, take}
use Rattle.lhg_row.specs.Row.{PlainPoint}
use Rattle.lhg_row.specs.Piece.{PlainPiece, InSome}
use Rattle.lhg_row.specs.PieceFacts.{AllOver}
use Rattle.lhg_motion.specs.Reach.{HasStep}

-- each point with a crossing into one of the first known pieces is in a known piece: so only crossings into those behind them can find more
pub record IsNewest (n : ℕ) (near ways known : List PlainPiece) (flow : PlainPiece) (first : ℕ) : Type 0 where
  pub near_over : AllOver n near
  pub ways_over : AllOver n ways
  pub known_over : AllOver n known
  pub there : first ≤ length known
  pub before : (x : PlainPoint) → length x ≡ n → HasStep near ways (take first known) flow x → InSome known x
