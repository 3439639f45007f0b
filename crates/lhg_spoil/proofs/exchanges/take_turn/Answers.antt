use Rattle.std.proofs.Common.{subst, sym, ◌∙◌, arith}
use Rattle.std.proofs.lemmas.List.{length-map}
use Rattle.lhg_row.specs.Decisions.{clash}
use Rattle.lhg_num.specs.FracArithmetic.{frac_arithmetic}
use Rattle.lhg_plant.specs.LegalTruths.{safe_truth}
use Rattle.lhg_plant.specs.Parts.{plain_location}
use Rattle.lhg_plant.specs.Views.{plain_plant, plain_state}
use Rattle.lhg_loss.specs.Views.{plain_losses}
use Rattle.lhg_spoil.specs.Standing.{IsStep, IsTurn, IsStandWork}
use Rattle.lhg_spoil.specs.Views.{plain_ctl_moves}
use Rattle.lhg_spoil.specs.Work.{only}
use Rattle.lhg_spoil.proofs.ActSteps.{state-there}
use Rattle.lhg_spoil.proofs.Answering.{err-answered, wide-answered}
use Rattle.lhg_spoil.proofs.ExchangeSteps.{on-state, end-work}
use Rattle.lhg_spoil.proofs.exchanges.take_turn.Goals as goal

pub returns-in_err-step : goal.returns-in_err-step
returns-in_err-step g c =
    let a = plain_plant c.args.plant.now in
    let L = plain_losses c.args.losses.now in
    let moves = plain_ctl_moves c.args.moves.now in
    let old = c.args.stand in
    err-answered c.from_residual.result c.in_err-step.field-0.0 (IsTurn a L moves old) (IsStep a L moves old) (IsStandWork a L moves old) (IsStandWork a L moves old) c.from_residual.ensures.1 c.in_err-step.ensures (λ m k. k)

pub is_safe-requires-clause-there : goal.is_safe-requires-clause-there
is_safe-requires-clause-there g c =
    let p = c.args.plant.now in
    let a = plain_plant p in
    let L = plain_losses c.args.losses.now in
    let moves = plain_ctl_moves c.args.moves.now in
    let old = c.args.stand in
    let on = subst (IsStep a L moves old) c.in-Answered.is c.in_ok-step.ensures in
    let low = state-there a (plain_state c.in-Answered.next.state) (on-state a L p.proper (g.T.Teller.upto c.args.teller.now) moves old c.in-Answered.next c.requires.standing on) in
    let size = length-map p.locs.items plain_location in
    omega (arith, low, size, p.locs.ok.0)

pub is_safe-requires-clause-lengths : goal.is_safe-requires-clause-lengths
is_safe-requires-clause-lengths g c =
    let p = c.args.plant.now in
    let a = plain_plant p in
    let L = plain_losses c.args.losses.now in
    let moves = plain_ctl_moves c.args.moves.now in
    let old = c.args.stand in
    let on = subst (IsStep a L moves old) c.in-Answered.is c.in_ok-step.ensures in
    (on-state a L p.proper (g.T.Teller.upto c.args.teller.now) moves old c.in-Answered.next c.requires.standing on).fits ∙ sym p.vars.ok.0

pub returns-in_err-safe-in-Answered : goal.returns-in_err-safe-in-Answered
returns-in_err-safe-in-Answered g c =
    let p = c.args.plant.now in
    let a = plain_plant p in
    let L = plain_losses c.args.losses.now in
    let moves = plain_ctl_moves c.args.moves.now in
    let old = c.args.stand in
    let next = c.in-Answered.next in
    let on = subst (IsStep a L moves old) c.in-Answered.is c.in_ok-step.ensures in
    wide-answered _ (IsTurn a L moves old) (IsStandWork a L moves old) (only (safe_truth frac_arithmetic a (plain_state next.state)))
    c.from_residual-in_err-safe-in-Answered.ensures.1 (end-work a L p.proper (g.T.Teller.upto c.args.teller.now) moves old next c.requires.standing on) c.in_err-safe-in-Answered.ensures.calculus

pub returns-then-safe : goal.returns-then-safe
returns-then-safe g c =
    let p = c.args.plant.now in
    let a = plain_plant p in
    let L = plain_losses c.args.losses.now in
    let moves = plain_ctl_moves c.args.moves.now in
    let old = c.args.stand in
    let on = subst (IsStep a L moves old) c.in-Answered.is c.in_ok-step.ensures in
    let state = on-state a L p.proper (g.T.Teller.upto c.args.teller.now) moves old c.in-Answered.next c.requires.standing on in
    (on, (c.in_ok-safe-in-Answered.ensures.exact state).0 c.if-safe.true)

pub returns-else-safe : goal.returns-else-safe
returns-else-safe g c =
    let p = c.args.plant.now in
    let a = plain_plant p in
    let L = plain_losses c.args.losses.now in
    let moves = plain_ctl_moves c.args.moves.now in
    let old = c.args.stand in
    let on = subst (IsStep a L moves old) c.in-Answered.is c.in_ok-step.ensures in
    let state = on-state a L p.proper (g.T.Teller.upto c.args.teller.now) moves old c.in-Answered.next c.requires.standing on in
    (on, λ safe. clash _ ((c.in_ok-safe-in-Answered.ensures.exact state).1 safe) c.if-safe.false)

pub returns-in-Stuck : goal.returns-in-Stuck
returns-in-Stuck g c =
    subst (IsStep (plain_plant c.args.plant.now) (plain_losses c.args.losses.now) (plain_ctl_moves c.args.moves.now) c.args.stand) c.in-Stuck.is c.in_ok-step.ensures
