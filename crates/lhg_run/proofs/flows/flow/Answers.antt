use Rattle.std.proofs.Common.{length, sym, subst}
use Rattle.lhg_row.specs.Width.{AllWide}
use Rattle.lhg_run.proofs.flows.flow.Goals as goal

pub cut-requires-clause-rows : goal.cut-requires-clause-rows
cut-requires-clause-rows c =
    let rows = c.in_ok-rows.rows.items in
    subst (λ n. AllWide n c.deref.result.now) (sym c.requires.start.state.fits) (subst (AllWide (length c.args.plant.now.vars.items)) (sym c.deref.ensures.value) c.in_ok-rows.ensures.wide)

pub follow-requires-clause-flow : goal.follow-requires-clause-flow
follow-requires-clause-flow c = (c.args.time.now, c.in_ok-legal.ensures.exact.0 c.if-not-legal.false)
