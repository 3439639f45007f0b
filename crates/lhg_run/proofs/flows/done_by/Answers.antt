use Rattle.std.proofs.Common.{inr, ap, sym, subst}
use Rattle.lhg_plant.specs.State.{PlainState, moved_to}
use Rattle.lhg_plant.specs.Views.{plain_plant, plain_state}
use Rattle.lhg_ctl.specs.Views.{plain_controller}
use Rattle.lhg_run.specs.Seen.{IsWay, MayTake}
use Rattle.lhg_run.proofs.Answering.{answered-as}
use Rattle.lhg_run.proofs.FlowSteps.{guard_taken, stop_does, stop_wide, stop_long}
use Rattle.lhg_run.proofs.flows.done_by.Goals as goal

pub stopped-requires-clause-taken : goal.stopped-requires-clause-taken
stopped-requires-clause-taken c =
    let p = c.args.plant.now in
    let a = plain_plant p in
    let k = plain_controller c.args.controller.now in
    let s = plain_state c.args.from.now in
    let way = subst (IsWay a k s c.args.to.now) c.in-Stopped.is c.requires.way in
    let stop = c.in-Stopped.stop in
    subst (λ (z : PlainState). MayTake a k z stop.switch) (sym (ap (moved_to s) way.1)) (guard_taken a k c.requires.valid p.proper c.requires.inside stop.switch _ way.0.guard.holds)

pub returns-in-Stopped : goal.returns-in-Stopped
returns-in-Stopped c =
    let a = plain_plant c.args.plant.now in
    let k = plain_controller c.args.controller.now in
    let s = plain_state c.args.from.now in
    let t = c.args.time.now in
    let y = c.args.to.now in
    let way = subst (IsWay a k s y) c.in-Stopped.is c.requires.way in
    let stop = c.in-Stopped.stop in
    answered-as c.stopped.result _ _ _ _ _ _ c.stopped.ensures (λ done h. inr (stop_does a k s t y stop way.0 way.1 done h)) (stop_wide a k s t y stop way.0 way.1) (stop_long a k s t y stop way.0 way.1)
