use Rattle.std.proofs.Common.{◌≡◌, ◌++◌, ℕ, drop}
use Rattle.lhg_row.specs.Width.{AllWide}
use Rattle.lhg_motion.specs.CheckPoint.{rows_of}
use Rattle.lhg_union.specs.PolyLists.{lines_of, AllVars}
use Rattle.lhg_run.proofs.rows.append_pieces.Given as goal

abbrev pub invariant-loop-piece : goal.invariant-loop-piece
invariant-loop-piece l = record {
  rows : l.rows.items ++ rows_of (lines_of (drop l.piece-index l.pieces)) ≡ l.fn.rows.items ++ rows_of (lines_of l.pieces);
  wide : (n : ℕ) → AllVars n l.pieces → AllWide n l.fn.rows.items → AllWide n l.rows.items;
}
