use Rattle.std.proofs.Common.{◌≡◌, ◌+◌, drop}
use Rattle.lhg_row.specs.Lists.{row_count}
use Rattle.lhg_union.specs.PolyLists.{lines_of}
use Rattle.lhg_union.proofs.limits.has_rows_within.Given as goal

abbrev pub invariant-loop-piece : goal.invariant-loop-piece
invariant-loop-piece g l = l.left + row_count (lines_of l.pieces) ≡ l.most + row_count (lines_of (drop l.piece-index l.pieces))
