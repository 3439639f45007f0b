use Rattle.lhg_row.specs.Row.{PlainRow}
use Rattle.lhg_row.specs.Piece.{PlainPiece}
use Rattle.lhg_row.specs.Column.{lower_at, drop_column}
use Rattle.lhg_row.specs.Combine.{comb}
use Rattle.lhg_row.specs.Eliminate.{with_lowers}
use Rattle.lhg_elim.proofs.Additive.{each-additive, pushed-step}
use Rattle.lhg_elim.proofs.by_sides.push_lowers.Goals as goal

pub loop-row-preserved : goal.loop-row-preserved
loop-row-preserved g c =
    let a = g.N.Scalar.arithmetic in
    let k = c.args.k in
    let u = c.args.upper.now in
    let made = λ (rows : PlainPiece). with_lowers a k rows u in
    pushed-step (drop_column k) made (each-additive (lower_at k) (λ (l : PlainRow). comb a u l k)) c.args.rows.now c.loop-row.row-index c.row-item.result c.row-item.is c.loop-row-test.true c.args.out.now.items (made c.args.rows.now)
    c.loop-row.out.items c.loop-row.invariant
    c.push_lower.new.out.items c.in_ok-push_lower.ensures
