use Rattle.std.proofs.Common.{◌≡◌, ◌<◌, ◌+◌, [], ◌∷◌, ◌++◌, length, map, drop, filter, vec_len, arith}
use Rattle.lhg_num.specs.Marked.{and_then, valued}
use Rattle.lhg_num.proofs.Halted.{rows_on_wide}
use Rattle.lhg_row.specs.Piece.{PlainPiece}
use Rattle.lhg_row.specs.Column.{upper_at, drop_column}
use Rattle.lhg_row.specs.Trim.{row_limit, counted}
use Rattle.lhg_row.specs.Eliminate.{with_lowers, each_joined}
use Rattle.lhg_elim.proofs.Additive.{joined-additive, pushed-step, pushed-part, IsPushed, pushed-long, counted-part}
use Rattle.lhg_elim.proofs.by_sides.push_sides.Goals as goal

pub returns-in_err-push_upper : goal.returns-in_err-push_upper
returns-in_err-push_upper g c =
    let k = c.args.k in
    let f = with_lowers g.N.Scalar.arithmetic k c.args.rows.now in
    let made = λ (rows : PlainPiece). each_joined f (filter (upper_at k) rows) in
    let part = pushed-part (drop_column k) made (joined-additive (upper_at k) f) c.args.rows.now c.loop-row.row-index c.row-item.result c.row-item.is c.loop-row-test.true c.args.out.now.items (made c.args.rows.now) c.loop-row.out.items
    c.loop-row.invariant in
    let old = c.args.out.now.items in
    let before = c.loop-row.out.items in
    let both = λ (cs : PlainPiece). old ++ map (drop_column k) cs in
    rows_on_wide c.from_residual.result c.in_err-push_upper.field-0.0 (and_then (valued both (made c.args.rows.now)) counted) (λ u. c.push_upper.new.out.items)
    (valued (λ cs. before ++ map (drop_column k) cs) (made (c.row-item.result ∷ []))) (λ u. c.push_upper.new.out.items) c.from_residual.ensures.1 c.in_err-push_upper.ensures
    (counted-part (made c.args.rows.now) both (valued (λ cs. before ++ map (drop_column k) cs) (made (c.row-item.result ∷ []))) (record { wide = part.wide; rows = part.rows; pieces = part.pieces }))

pub loop-row-preserved : goal.loop-row-preserved
loop-row-preserved g c =
    let k = c.args.k in
    let f = with_lowers g.N.Scalar.arithmetic k c.args.rows.now in
    let made = λ (rows : PlainPiece). each_joined f (filter (upper_at k) rows) in
    pushed-step (drop_column k) made (joined-additive (upper_at k) f) c.args.rows.now c.loop-row.row-index c.row-item.result c.row-item.is c.loop-row-test.true c.args.out.now.items (made c.args.rows.now) c.loop-row.out.items
    c.loop-row.invariant c.push_upper.new.out.items c.in_ok-push_upper.ensures

pub returns-then-len-gt-ROW_LIMIT : goal.returns-then-len-gt-ROW_LIMIT
returns-then-len-gt-ROW_LIMIT g c =
    let k = c.args.k in
    let f = with_lowers g.N.Scalar.arithmetic k c.args.rows.now in
    let made = λ (rows : PlainPiece). each_joined f (filter (upper_at k) rows) in
    let old = c.args.out.now.items in
    let more = c.push_upper.new.out.items in
    let n : vec_len c.push_upper.new.out ≡ length more = c.push_upper.new.out.ok.0 in
    let long : row_limit < length more = omega arith in
    let b : IsPushed (drop_column k) old (made c.args.rows.now) more (made (drop (c.loop-row.row-index + 1) c.args.rows.now)) =
    pushed-step (drop_column k) made (joined-additive (upper_at k) f) c.args.rows.now c.loop-row.row-index c.row-item.result c.row-item.is c.loop-row-test.true old (made c.args.rows.now) c.loop-row.out.items
    c.loop-row.invariant more c.in_ok-push_upper.ensures in
    pushed-long (drop_column k) old (made c.args.rows.now) more (made (drop (c.loop-row.row-index + 1) c.args.rows.now)) b long
