use Rattle.std.proofs.Common.{sym, ap, ◌∙◌, Some}
use Rattle.lhg_read.specs.Rows.{constraint_of}
use Rattle.lhg_read.proofs.constraints.push_constraint.Goals as goal

pub returns-then-is_keep : goal.returns-then-is_keep
unfolding constraint_of
returns-then-is_keep c = rw (sym c.is_keep.ensures ∙ c.if-is_keep.true) (ap (λ rows. Some rows) (sym c.in_ok-push_keep_rows.ensures))

pub returns : goal.returns
unfolding constraint_of
returns c = rw (sym c.is_keep.ensures ∙ c.if-is_keep.false) c.push_chain.ensures
