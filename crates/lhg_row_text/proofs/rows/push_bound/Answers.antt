use Rattle.std.proofs.Common.{subst}
use Rattle.std.proofs.lemmas.Result.{on_ok_weaker}
use Rattle.lhg_row_text.specs.Short.{IsShort}
use Rattle.lhg_row_text.proofs.Shorts.{short_turned}
use Rattle.lhg_row_text.proofs.rows.push_bound.Goals as goal

pub returns-clause-short : goal.returns-clause-short
returns-clause-short c = on_ok_weaker c.push_number.result (λ h. short_turned c.args.flip c.args.bound.now (subst IsShort c.turned.ensures h)) c.push_number.ensures.short
