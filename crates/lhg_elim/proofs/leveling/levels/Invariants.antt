use Rattle.std.proofs.Common.{[], drop, filter}
use Rattle.lhg_num.specs.Marked.{done}
use Rattle.lhg_row.specs.Piece.{PlainPiece}
use Rattle.lhg_row.specs.Column.{level_at, drop_column}
use Rattle.lhg_elim.proofs.Additive.{IsPushed}
use Rattle.lhg_elim.proofs.leveling.levels.Given as goal

abbrev pub invariant-loop-row : goal.invariant-loop-row
invariant-loop-row g l =
    let made = λ (rows : PlainPiece). done (filter (level_at l.k) rows) in
    IsPushed (drop_column l.k) [] (made l.rows) l.out.items (made (drop l.row-index l.rows))
