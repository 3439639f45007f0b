use Rattle.lhg_num.proofs.Halted.{part_halts_wide}
use Rattle.lhg_row.specs.Trim.{canon}
use Rattle.lhg_row.proofs.BuiltSteps.{taken-part, taken-step}
use Rattle.lhg_row.proofs.trimming.canons.Goals as goal

pub returns-in_err-scaled : goal.returns-in_err-scaled
returns-in_err-scaled g c =
    part_halts_wide c.from_residual-in_err-scaled.result c.in_err-scaled.field-0.0 _ (λ v. v.items) _ _ c.from_residual-in_err-scaled.ensures.1 c.in_err-scaled.ensures
    (taken-part (canon g.N.Scalar.arithmetic) c.loop-row.row-iterator.rest.items c.in-Some.row c.next.new.self.rest.items c.in-Some.ensures.steps.0 _ c.loop-row.out.items c.loop-row.invariant)

pub loop-row-preserved : goal.loop-row-preserved
loop-row-preserved g c =
    taken-step (canon g.N.Scalar.arithmetic) c.loop-row.row-iterator.rest.items c.in-Some.row c.next.new.self.rest.items c.in-Some.ensures.steps.0 _ c.loop-row.out.items c.loop-row.invariant
    c.push.new.self.items c.in_ok-scaled.scaled c.in_ok-push.ensures.items c.in_ok-scaled.ensures
