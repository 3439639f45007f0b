use Rattle.std.proofs.Common.{◌≤◌, length, ap, subst, arith}
use Rattle.std.proofs.lemmas.List.{length-map}
use Rattle.lhg_plant.specs.Views.{plain_state}
use Rattle.lhg_loss.specs.declared.losses.Loss.{Loss}
use Rattle.lhg_loss.specs.Holding.{IsFirstHolding}
use Rattle.lhg_loss.specs.Views.{plain_loss, plain_losses}
use Rattle.lhg_spoil.proofs.RankSteps.{holder_place, loss_there}
use Rattle.lhg_spoil.proofs.holding.held_round.Goals as goal

pub overflow_sub-result : goal.overflow_sub-result
overflow_sub-result c =
    let L = plain_losses c.args.losses.now in
    let s = plain_state c.args.state.now in
    let p = holder_place s L c.in-Some.number c.requires.counted (subst (IsFirstHolding s L) c.in-Some.is c.in_ok-first.ensures.exact) in
    let low = p.0 in
    omega (arith, low)

pub bounds-losses-number : goal.bounds-losses-number
bounds-losses-number c =
    let L = plain_losses c.args.losses.now in
    let s = plain_state c.args.state.now in
    let p = holder_place s L c.in-Some.number c.requires.counted (subst (IsFirstHolding s L) c.in-Some.is c.in_ok-first.ensures.exact) in
    let low = p.0 in
    let high = p.1 in
    let size = length-map c.args.losses.now plain_loss in
    omega (arith, low, high, size)

pub bounds-losses-number-in-Some : goal.bounds-losses-number-in-Some
bounds-losses-number-in-Some c =
    let L = plain_losses c.args.losses.now in
    let s = plain_state c.args.state.now in
    let p = holder_place s L c.in-Some.number c.requires.counted (subst (IsFirstHolding s L) c.in-Some.is c.in_ok-first.ensures.exact) in
    let low = p.0 in
    let high = p.1 in
    let size = length-map c.args.losses.now plain_loss in
    omega (arith, low, high, size)

pub returns-in-Some-clause-round : goal.returns-in-Some-clause-round
returns-in-Some-clause-round c =
    let losses = c.args.losses.now in
    let L = plain_losses losses in
    let s = plain_state c.args.state.now in
    let m = c.in-Some.number in
    let first = subst (IsFirstHolding s L) c.in-Some.is c.in_ok-first.ensures.exact in
    let p = holder_place s L m c.requires.counted first in
    let low = p.0 in
    let high = p.1 in
    let size = length-map losses plain_loss in
    let few : m ≤ length losses = omega (arith, high, size) in
    let r = c.index-losses-number.result in
    (m, plain_loss r, first, loss_there losses m r low few c.index-losses-number.is, ap (λ (x : Loss). x.round) c.index-losses-number.is)
