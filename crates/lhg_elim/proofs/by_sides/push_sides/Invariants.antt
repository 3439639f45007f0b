use Rattle.std.proofs.Common.{drop, filter}
use Rattle.lhg_row.specs.Piece.{PlainPiece}
use Rattle.lhg_row.specs.Column.{upper_at, drop_column}
use Rattle.lhg_row.specs.Eliminate.{with_lowers, each_joined}
use Rattle.lhg_elim.proofs.Additive.{IsPushed}
use Rattle.lhg_elim.proofs.by_sides.push_sides.Given as goal

abbrev pub invariant-loop-row : goal.invariant-loop-row
invariant-loop-row g l =
    let made = λ (rows : PlainPiece). each_joined (with_lowers g.N.Scalar.arithmetic l.k l.rows) (filter (upper_at l.k) rows) in
    IsPushed (drop_column l.k) l.fn.out.items (made l.rows) l.out.items (made (drop l.row-index l.rows))
