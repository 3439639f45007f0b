use Rattle.std.proofs.Common.{subst}
use Rattle.lhg_plant.specs.Views.{plain_plant, plain_state}
use Rattle.lhg_spoil.specs.Telling.{IsTold}
use Rattle.lhg_spoil.proofs.SpoilCall.{lost_safe}
use Rattle.lhg_spoil.proofs.exchanges.offered.Goals as goal

pub unreachable-requires : goal.unreachable-requires
unreachable-requires g c =
    let a = plain_plant c.args.plant.now in
    let s = plain_state c.args.state.now in
    let upto = g.T.Teller.upto c.args.teller.now in
    lost_safe a upto s c.requires.lost (subst (IsTold a upto s) c.in-Unsafe.is c.in_ok-told.ensures.told)
