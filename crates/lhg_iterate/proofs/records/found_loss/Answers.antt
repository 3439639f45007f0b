use Rattle.std.proofs.Common.{ap, ◌∙◌}
use Rattle.lhg_row.specs.System.{PlainSystem}
use Rattle.lhg_iterate.proofs.records.found_loss.Goals as goal

pub returns-clause-vars : goal.returns-clause-vars
returns-clause-vars c = λ n aw ws w. (ap (λ (p : PlainSystem). p.width) c.in_ok-piece.ensures.copy ∙ w, c.in_ok-cause.ensures.vars n aw ws)
