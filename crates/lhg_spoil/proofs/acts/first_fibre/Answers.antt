use Rattle.std.proofs.Common.{refl}
use Rattle.lhg_plant.specs.Views.{plain_plant, plain_state}
use Rattle.lhg_loss.specs.Views.{plain_losses}
use Rattle.lhg_spoil.specs.Fibres.{fibre}
use Rattle.lhg_spoil.specs.Replies.{IsFirstFibreIn}
use Rattle.lhg_spoil.specs.Work.{IsFibreWork}
use Rattle.lhg_spoil.proofs.Answering.{err-all}
use Rattle.lhg_spoil.proofs.acts.first_fibre.Goals as goal

pub returns-in_err-found : goal.returns-in_err-found
returns-in_err-found c =
    let a = plain_plant c.args.plant.now in
    let L = plain_losses c.args.losses.now in
    let s = plain_state c.args.state.now in
    err-all c.from_residual.result c.in_err-found.field-0.0 (IsFirstFibreIn a L c.args.j s) (fibre a L c.args.j c.loop-e.e s) (λ o. o) (IsFibreWork a L c.args.j s) c.from_residual.ensures.1 c.in_err-found.ensures (c.loop-e.e, refl)
