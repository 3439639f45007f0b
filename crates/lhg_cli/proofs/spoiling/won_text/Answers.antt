use Rattle.std.proofs.Common.{List, None, sym, subst}
use Rattle.lhg_math.specs.Tests.{AllOf}
use Rattle.lhg_plant.specs.Views.{plain_plant, plain_state}
use Rattle.lhg_play.specs.Views.{plain_spoil_steps}
use Rattle.lhg_play.specs.declared.spoils.SpoilStep.{SpoilStep}
use Rattle.lhg_text.specs.SpoilText.{IsPlacedSpoilStep}
use Rattle.lhg_cli.proofs.Placed.{placed_state}
use Rattle.lhg_cli.proofs.SpoilPlaces.{legal_placed}
use Rattle.lhg_cli.proofs.spoiling.won_text.Goals as goal

pub print_spoil-requires-clause-steps : goal.print_spoil-requires-clause-steps
print_spoil-requires-clause-steps c =
    let p = plain_plant c.args.plant.now in
    let won = c.args.won.now in
    subst (λ (ss : List SpoilStep). AllOf (IsPlacedSpoilStep p) (plain_spoil_steps ss)) (sym c.deref.ensures.value)
    (legal_placed p (plain_state c.args.start.now) None (plain_spoil_steps won.steps.items) (plain_state won.last) c.requires.legal)

pub print_spoil-requires-clause-last : goal.print_spoil-requires-clause-last
print_spoil-requires-clause-last c = placed_state (plain_plant c.args.plant.now) (plain_state c.args.won.now.last) c.requires.won.0
