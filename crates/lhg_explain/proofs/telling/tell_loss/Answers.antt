use Rattle.std.proofs.Common.{subst}
use Rattle.lhg_row.specs.Width.{AllWide}
use Rattle.lhg_explain.proofs.telling.tell_loss.Goals as goal

pub returns : goal.returns
returns c = λ n h. record { piece = subst (λ m. AllWide m c.args.loss.now.piece.lines) h.0 c.rows.ensures.poly.wide; cause = c.tell_cause.ensures n h.1 }
