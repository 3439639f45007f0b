use Rattle.std.proofs.Common.{◌≡◌, length}
use Rattle.lhg_row.specs.Width.{AllWide}
use Rattle.lhg_jump.proofs.tests.rows.Given as goal

abbrev pub invariant-loop-coef : goal.invariant-loop-coef
invariant-loop-coef l = AllWide 1 l.rows.items × (length l.rows.items ≡ l.coef-index)
