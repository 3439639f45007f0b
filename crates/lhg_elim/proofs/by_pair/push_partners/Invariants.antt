use Rattle.std.proofs.Common.{drop}
use Rattle.lhg_row.specs.Piece.{PlainPiece}
use Rattle.lhg_row.specs.Column.{drop_column}
use Rattle.lhg_row.specs.Eliminate.{with_pair}
use Rattle.lhg_elim.proofs.Additive.{IsPushed}
use Rattle.lhg_elim.proofs.by_pair.push_partners.Given as goal

abbrev pub invariant-loop-row : goal.invariant-loop-row
invariant-loop-row g l =
    let made = λ (rows : PlainPiece). with_pair g.N.Scalar.arithmetic l.k l.one l.other rows in
    IsPushed (drop_column l.k) l.fn.out.items (made l.rows) l.out.items (made (drop l.row-index l.rows))
