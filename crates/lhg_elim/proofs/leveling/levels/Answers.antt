use Rattle.std.proofs.Common.{[], filter}
use Rattle.lhg_num.specs.Marked.{done}
use Rattle.lhg_row.specs.Piece.{PlainPiece}
use Rattle.lhg_row.specs.Column.{level_at, drop_column}
use Rattle.lhg_elim.proofs.Additive.{filter-additive, pushed-step}
use Rattle.lhg_elim.proofs.leveling.levels.Goals as goal

pub loop-row-preserved : goal.loop-row-preserved
loop-row-preserved g c =
    let k = c.args.k in
    let made = λ (rows : PlainPiece). done (filter (level_at k) rows) in
    pushed-step (drop_column k) made (filter-additive (level_at k)) c.args.rows.now c.loop-row.row-index c.row-item.result c.row-item.is c.loop-row-test.true [] (made c.args.rows.now) c.loop-row.out.items c.loop-row.invariant
    c.push_level.new.out.items c.in_ok-push_level.ensures
