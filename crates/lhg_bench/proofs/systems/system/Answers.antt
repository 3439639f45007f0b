use Rattle.std.proofs.Common.{◌+◌, sym, subst}
use Rattle.lhg_num.specs.FracArithmetic.{frac_arithmetic}
use Rattle.lhg_row.specs.Piece.{PlainPiece}
use Rattle.lhg_row.specs.Width.{AllWide}
use Rattle.lhg_motion.specs.CrossSystem.{cross_rows-wide}
use Rattle.lhg_bench.proofs.Widths.{wide_as}
use Rattle.lhg_bench.proofs.systems.system.Goals as goal

pub trim-requires : goal.trim-requires
trim-requires c =
    let p = c.args in
    let n = p.vars in
    let start = wide_as n p.from.now.width c.rows.result.now p.from.now.lines c.requires.from c.rows.ensures.rows c.rows.ensures.poly.wide in
    let through = wide_as n p.through.now.width c.rows-2.result.now p.through.now.lines c.requires.through c.rows-2.ensures.rows c.rows-2.ensures.poly.wide in
    let into = wide_as n p.into.now.width c.rows-3.result.now p.into.now.lines c.requires.into c.rows-3.ensures.rows c.rows-3.ensures.poly.wide in
    subst (λ (rs : PlainPiece). AllWide (n + n + 1) rs) (sym c.in_ok-rows.ensures)
    (cross_rows-wide frac_arithmetic n c.rows.result.now c.rows-2.result.now c.rows-3.result.now p.flow.now start through into c.requires.flow)
