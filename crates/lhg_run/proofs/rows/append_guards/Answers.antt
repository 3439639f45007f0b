use Rattle.std.proofs.Common.{◌∙◌}
use Rattle.lhg_num.specs.Halting.{of_memory}
use Rattle.lhg_num.specs.AnswerLaws.{memory_on}
use Rattle.lhg_run.proofs.rows.append_guards.Goals as goal

pub returns-in_err-append_guard-clause-rows : goal.returns-in_err-append_guard-clause-rows
returns-in_err-append_guard-clause-rows c = memory_on of_memory c.from_residual.result c.in_err-append_guard.field-0.0 _ _ c.from_residual.ensures.1 c.in_err-append_guard.ensures.err

pub loop-e-preserved : goal.loop-e-preserved
loop-e-preserved c = record {
  rows = c.in_ok-append_guard.ensures.rows ∙ c.loop-e.invariant.rows;
  wide = λ n all first. c.in_ok-append_guard.ensures.wide n all (c.loop-e.invariant.wide n all first);
}
