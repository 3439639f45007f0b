use Rattle.std.proofs.Common.{List, None, sym, subst}
use Rattle.lhg_plant.specs.SpoilSteps.{AreLegalFrom}
use Rattle.lhg_plant.specs.Views.{plain_plant, plain_state}
use Rattle.lhg_play.specs.Views.{plain_spoil_steps}
use Rattle.lhg_play.specs.declared.spoils.SpoilStep.{SpoilStep}
use Rattle.lhg_loss.specs.Views.{plain_losses}
use Rattle.lhg_spoil.specs.Stops.{IsSpoilStop}
use Rattle.lhg_spoil.specs.Views.{plain_ctl_moves}
use Rattle.lhg_spoil.specs.declared.stops.SpoilStop.{SpoilStop}
use Rattle.lhg_spoil.specs.declared.stops.SpoilStop.TheVariants.{Illegal}
use Rattle.lhg_cli.proofs.SpoilStart.{its_records, its_knowing, its_start}
use Rattle.lhg_cli.proofs.spoiling.exchanged.Goals as goal

pub spoil-requires-clause-knows : goal.spoil-requires-clause-knows
spoil-requires-clause-knows c =
    its_knowing (plain_plant c.args.plant.now) c.args.budget c.args.number c.args.losses.now (plain_state c.args.start.now) c.requires.lost c.round_of-round.result c.round_of-round.ensures c.requires.vars

pub spoil-requires-clause-sought : goal.spoil-requires-clause-sought
spoil-requires-clause-sought c = its_records (plain_plant c.args.plant.now) c.args.budget c.args.number c.args.losses.now (plain_state c.args.start.now) c.requires.lost c.round_of-round.result c.round_of-round.ensures

pub spoil-requires-clause-start : goal.spoil-requires-clause-start
spoil-requires-clause-start c =
    its_start (plain_plant c.args.plant.now) c.args.budget c.args.number c.args.losses.now (plain_state c.args.start.now) c.requires.lost c.round_of-round.result c.round_of-round.ensures c.requires.vars c.tell_pieces.ensures

pub won_text-requires-clause-legal : goal.won_text-requires-clause-legal
won_text-requires-clause-legal c = c.in-Ok.ensures.ok.won.legal

pub won_text-requires-clause-won : goal.won_text-requires-clause-won
won_text-requires-clause-won c = c.in-Ok.ensures.ok.won.unsafe

pub illegal_text-requires-clause-legal : goal.illegal_text-requires-clause-legal
illegal_text-requires-clause-legal c =
    let p = plain_plant c.args.plant.now in
    let z = plain_state c.args.start.now in
    let ls = plain_losses c.args.losses.now in
    let ms = plain_ctl_moves c.args.moves.now in
    let i = c.in-Err-Illegal in
    let stop : IsSpoilStop p ls z ms (Illegal i.entry i.steps) = subst (λ (s : SpoilStop). IsSpoilStop p ls z ms s) i.field-0-is i.ensures.stop in
    (stop.last, subst (λ (ss : List SpoilStep). AreLegalFrom p z None (plain_spoil_steps ss) stop.last) (sym c.deref.ensures.value) stop.legal)
