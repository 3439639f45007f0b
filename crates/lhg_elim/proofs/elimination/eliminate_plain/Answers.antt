use Rattle.std.proofs.Common.{subst}
use Rattle.std.specs.Prelude.{IfOk}
use Rattle.lhg_row.specs.Piece.{PlainPiece}
use Rattle.lhg_row.specs.System.{PlainSystem}
use Rattle.lhg_row.specs.HasValue.{IsElimination}
use Rattle.lhg_elim.proofs.elimination.eliminate_plain.Goals as goal

pub returns-clause-points : goal.returns-clause-points
returns-clause-points g c =
    let k = c.args.k in
    let r = c.eliminate_rows.result in
    let shown = subst (λ (rs : PlainPiece). IfOk r (λ (s : PlainSystem). IsElimination c.vars.result k rs s.lines)) c.rows.ensures.rows c.eliminate_rows.ensures.points in
    subst (λ n. IfOk r (λ (s : PlainSystem). IsElimination n k c.args.sys.now.lines s.lines)) c.vars.ensures shown
