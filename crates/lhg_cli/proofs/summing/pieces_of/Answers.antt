use Rattle.std.proofs.Common.{length, ap, arith}
use Rattle.std.specs.Global.{Vec}
use Rattle.lhg_row.specs.System.{PlainSystem}
use Rattle.lhg_cli.proofs.PieceCounts.{one_more}
use Rattle.lhg_cli.proofs.summing.pieces_of.Goals as goal

pub overflow_add-count : goal.overflow_add-count
overflow_add-count c =
    let i = c.loop-list.invariant.1 in
    let n = c.len.type_inv in
    let t = c.loop-list-test.true in
    let w = c.well_formed.0.0 in
    omega (arith, i, n, t, w)

pub loop-list-preserved : goal.loop-list-preserved
loop-list-preserved c =
    let count = c.loop-list.invariant.0 in
    let bound = c.loop-list.invariant.1 in
    let fits = c.len.type_inv in
    let more = one_more c.args.lists.now c.loop-list.list-index c.list-item.result c.loop-list-test.true in
    let size = c.len.ensures in
    let here = ap (λ (v : Vec PlainSystem). length v.items) c.list-item.is in
    (omega (arith, count, more, size, here), omega (arith, bound, fits))
