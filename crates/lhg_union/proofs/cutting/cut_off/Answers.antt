use Rattle.std.proofs.Common.{◌≡◌, length}
use Rattle.lhg_num.proofs.Halted.{part_halts_rows}
use Rattle.lhg_row.specs.Lists.{cut_off}
use Rattle.lhg_union.specs.PolyLists.{lines_of}
use Rattle.lhg_union.proofs.ListFacts.{all_at}
use Rattle.lhg_union.proofs.CutSteps.{cut-part, cutting-step}
use Rattle.lhg_union.proofs.cutting.cut_off.Goals as goal

pub loop-row-preserved : goal.loop-row-preserved
loop-row-preserved g c =
    let wide = all_at (λ r. length r.coefs ≡ c.args.vars) c.args.others.now c.loop-row.row-index c.row-item.result c.row-item.is c.loop-row-test.true c.requires.same in
    cutting-step g.N.Scalar.arithmetic c.args.vars c.args.rows.now c.args.others.now c.loop-row.base.items c.loop-row.out.items c.loop-row.row-index c.row-item.result c.row-item.is c.loop-row-test.true wide c.loop-row.invariant
    c.cut.new.out.items c.cut.new.base.items c.in_ok-cut.ensures.list c.in_ok-cut.ensures.base c.in_ok-cut.ensures.vars

pub returns-in_err-cut-clause-calculus : goal.returns-in_err-cut-clause-calculus
returns-in_err-cut-clause-calculus g c =
    let a = g.N.Scalar.arithmetic in
    let n = c.args.vars in
    let q = c.args.others.now in
    let whole = cut_off a n c.args.rows.now q in
    let p = cut-part a n c.loop-row.base.items q c.loop-row.row-index c.row-item.result c.row-item.is c.loop-row-test.true whole (lines_of c.loop-row.out.items) c.loop-row.invariant.built in
    part_halts_rows c.from_residual-in_err-cut.result c.in_err-cut.field-0.0 whole (λ v. lines_of v.items) _ (λ x. lines_of c.cut.new.out.items) c.from_residual-in_err-cut.ensures.1 c.in_err-cut.ensures.list
    (record { wide = p.wide; rows = p.rows; pieces = p.pieces })
