use Rattle.std.proofs.Common.{◌+◌, drop}
use Rattle.lhg_num.specs.Marked.{each}
use Rattle.lhg_num.proofs.Halted.{part_halts_wide}
use Rattle.lhg_motion.specs.CrossCalculus.{at_middle}
use Rattle.lhg_math.specs.ListFacts.{drop_cons}
use Rattle.lhg_row.proofs.BuiltSteps.{taken-part, taken-step}
use Rattle.lhg_cross.proofs.middles.middle_rows.Goals as goal

pub returns-in_err-middle : goal.returns-in_err-middle
returns-in_err-middle g c =
    let f = at_middle g.N.Scalar.arithmetic in
    let rows = c.args.rows.now in
    let i = c.loop-row.row-index in
    let row = c.row-item.result in
    part_halts_wide c.from_residual-in_err-middle.result c.in_err-middle.field-0.0 _ (λ v. v.items) _ _ c.from_residual-in_err-middle.ensures.1 c.in_err-middle.ensures
    (taken-part f (drop i rows) row (drop (i + 1) rows) (drop_cons rows i row c.row-item.is c.loop-row-test.true) (each f rows) c.loop-row.out.items c.loop-row.invariant)

pub loop-row-preserved : goal.loop-row-preserved
loop-row-preserved g c =
    let f = at_middle g.N.Scalar.arithmetic in
    let rows = c.args.rows.now in
    let i = c.loop-row.row-index in
    let row = c.row-item.result in
    taken-step f (drop i rows) row (drop (i + 1) rows) (drop_cons rows i row c.row-item.is c.loop-row-test.true) (each f rows) c.loop-row.out.items c.loop-row.invariant
    c.push.new.self.items c.in_ok-middle.middle c.in_ok-push.ensures.items c.in_ok-middle.ensures
