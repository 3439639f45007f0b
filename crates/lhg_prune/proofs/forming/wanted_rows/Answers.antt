use Rattle.std.proofs.Common.{sym, subst}
use Rattle.lhg_row.specs.Width.{AllWide}
use Rattle.lhg_prune.proofs.ListSteps.{levels-wide}
use Rattle.lhg_prune.proofs.forming.wanted_rows.Goals as goal

pub push_wanted-requires-clause-rows : goal.push_wanted-requires-clause-rows
push_wanted-requires-clause-rows g c =
    subst (AllWide c.args.vars) (sym c.in_ok-first.ensures) (levels-wide c.args.k c.args.vars c.args.rows.now c.requires.there c.requires.wide)
