use Rattle.std.proofs.Common.{sym, subst}
use Rattle.lhg_num.proofs.Halted.{part_halts_rows}
use Rattle.lhg_row.specs.Width.{AllWide}
use Rattle.lhg_union.specs.PolyLists.{lines_of}
use Rattle.lhg_jump.proofs.SafeSteps.{lines-end, line-wide, line-part, line-step}
use Rattle.lhg_jump.proofs.safe.safe_lines.Goals as goal

pub push_safe-requires-clause-line : goal.push_safe-requires-clause-line
push_safe-requires-clause-line c =
    subst (AllWide c.args.vars) (sym c.deref-in-loop-line.ensures.value)
    (line-wide c.args.vars c.args.location.now c.deref-line-items.result.now c.deref-line-items.ensures.value c.loop-line.pieces.items c.loop-line.line-index c.line-item.result c.line-item.is c.loop-line-test.true c.requires)

pub returns-in_err-push_safe-clause-calculus : goal.returns-in_err-push_safe-clause-calculus
returns-in_err-push_safe-clause-calculus c =
    part_halts_rows c.from_residual.result c.in_err-push_safe.field-0.0 _ (λ v. lines_of v.items) _ (λ _. lines_of c.push_safe.new.pieces.items) c.from_residual.ensures.1 c.in_err-push_safe.ensures.list
    (line-part c.args.vars c.args.location.now c.deref-line-items.result.now c.deref-line-items.ensures.value c.loop-line.pieces.items c.loop-line.line-index c.line-item.result c.line-item.is c.loop-line-test.true
    c.deref.result.now c.deref-in-loop-line.result.now c.deref.ensures.value c.deref-in-loop-line.ensures.value c.loop-line.invariant)

pub loop-line-preserved : goal.loop-line-preserved
loop-line-preserved c =
    line-step c.args.vars c.args.location.now c.deref-line-items.result.now c.deref-line-items.ensures.value c.loop-line.pieces.items c.loop-line.line-index c.line-item.result c.line-item.is c.loop-line-test.true
    c.deref.result.now c.deref-in-loop-line.result.now c.deref.ensures.value c.deref-in-loop-line.ensures.value c.loop-line.invariant c.push_safe.new.pieces.items c.in_ok-push_safe.ensures.list c.in_ok-push_safe.ensures.vars

pub returns-clause-calculus : goal.returns-clause-calculus
returns-clause-calculus c =
    lines-end c.args.vars c.args.location.now c.deref-line-items.result.now c.deref-line-items.ensures.value c.loop-line.pieces.items c.loop-line.line-index c.loop-line-test.false c.loop-line.invariant
