use Rattle.std.proofs.Common.{subst}
use Rattle.lhg_plant.specs.Views.{plain_plant, plain_state}
use Rattle.lhg_play.specs.Views.{plain_steps}
use Rattle.lhg_ctl.specs.Views.{plain_controller}
use Rattle.lhg_run.specs.Views.{plain_entries}
use Rattle.lhg_run.specs.Stop.{IsStop}
use Rattle.lhg_run.specs.declared.stops.RunStop.{RunStop}
use Rattle.lhg_run.specs.declared.stops.RunStop.TheVariants.{Illegal}
use Rattle.lhg_cli.proofs.TracePlaces.{run_placed, before_placed}
use Rattle.lhg_cli.proofs.running.run_over.Goals as goal

pub traced-requires : goal.traced-requires
traced-requires c =
    let p = c.args.plant.now in
    let e = c.in-Ok.ensures.trace in
    run_placed (plain_plant p) p.proper (plain_controller c.args.controller.now) c.requires.inside (plain_state c.args.start.now) (plain_entries c.args.log.now) (plain_steps c.in-Ok.trace.steps.items) e.last e.run

pub traced-requires-in-Err-Illegal : goal.traced-requires-in-Err-Illegal
traced-requires-in-Err-Illegal c =
    let p = c.args.plant.now in
    let i = c.in-Err-Illegal in
    let k = plain_controller c.args.controller.now in
    let start = plain_state c.args.start.now in
    let entries = plain_entries c.args.log.now in
    let stop : IsStop (plain_plant p) k start entries (Illegal i.entry i.trace) = subst (λ (s : RunStop). IsStop (plain_plant p) k start entries s) i.field-0-is i.ensures.stop in
    before_placed (plain_plant p) p.proper k c.requires.inside start entries i.entry (plain_steps i.trace.steps.items) stop.1
