use Rattle.std.proofs.Common.{sym, ◌∙◌, subst}
use Rattle.lhg_row.specs.Width.{AllWide}
use Rattle.lhg_forward.proofs.FlowBack.{turned-wide}
use Rattle.lhg_forward.proofs.flows.flow_within.Goals as goal

pub cross-requires-clause-flow : goal.cross-requires-clause-flow
cross-requires-clause-flow c =
    subst (AllWide c.args.inv.now.width) (sym (c.deref.ensures.value ∙ c.in_ok-back.ensures)) (turned-wide c.args.inv.now.width c.args.flow.now c.requires.flow)
