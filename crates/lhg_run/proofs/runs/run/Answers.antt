use Rattle.std.proofs.Common.{◌≤◌, ◌++◌, ◌∷◌, [], length, take, refl, sym, subst, arith, true, false}
use Rattle.std.proofs.lemmas.List.{length-map, take_all}
use Rattle.lhg_play.specs.Views.{plain_steps}
use Rattle.lhg_plant.specs.Views.{plain_plant, plain_state}
use Rattle.lhg_plant.proofs.Picks.{picks_legal}
use Rattle.lhg_ctl.specs.Views.{plain_controller}
use Rattle.lhg_run.specs.Seen.{running_place, IsStep}
use Rattle.lhg_run.specs.Stop.{IsStop}
use Rattle.lhg_ctl.specs.LogViews.{plain_entry}
use Rattle.lhg_run.specs.Views.{plain_entries, IsOver}
use Rattle.lhg_run.proofs.RunCall.{err_on, entry-there, entry-at, take-entry, kept-standing, illegal-at, halted-at}
use Rattle.lhg_run.proofs.RunSteps.{IsRunning, running-more, running-end}
use Rattle.lhg_run.proofs.runs.run.Goals as goal

pub returns-in_err-running-clause-stop : goal.returns-in_err-running-clause-stop
returns-in_err-running-clause-stop c =
    let entries = plain_entries c.args.log.now in
    let a = plain_plant c.args.plant.now in
    let k = plain_controller c.args.controller.now in
    err_on c.from_residual.result c.in_err-running.field-0.0 (IsStop a k (plain_state c.args.start.now) entries) c.from_residual.ensures.1 (c.in_err-running.ensures.err entries)

pub step-requires-clause-standing : goal.step-requires-clause-standing
step-requires-clause-standing c = kept-standing (plain_plant c.args.plant.now) (plain_controller c.args.controller.now) c.loop-i.running c.loop-i.invariant.kept

pub step-requires-clause-end : goal.step-requires-clause-end
step-requires-clause-end c = entry-at (IsOver (length c.args.plant.now.vars.items)) c.args.log.now c.loop-i.i c.index-log-i.result c.requires.ends c.loop-i-test.true c.index-log-i.is

pub returns-in-Ok-false-clause-stop : goal.returns-in-Ok-false-clause-stop
returns-in-Ok-false-clause-stop c =
    let a = plain_plant c.args.plant.now in
    let k = plain_controller c.args.controller.now in
    let start = plain_state c.args.start.now in
    let entries = plain_entries c.args.log.now in
    let i = c.loop-i.i in
    let entry = c.index-log-i.result in
    let is = entry-there c.args.log.now i entry c.index-log-i.is c.loop-i-test.true in
    let old = c.loop-i.running in
    let h = c.in-Ok-false.ensures in
    let told : IsStep a k (plain_entry entry) old c.step.new.running false = subst (IsStep a k (plain_entry entry) old c.step.new.running) c.in-Ok-false.field-0-test h in
    subst (IsStop a k start entries) (sym c.illegal.ensures)
    (illegal-at a k start entries i (plain_entry entry) is (plain_steps old.steps.items) (running_place old) c.loop-i.invariant.run told.0 _ refl (plain_steps c.step.new.running.steps.items) told.1)

pub returns-in-Err-clause-stop : goal.returns-in-Err-clause-stop
returns-in-Err-clause-stop c =
    let a = plain_plant c.args.plant.now in
    let k = plain_controller c.args.controller.now in
    let start = plain_state c.args.start.now in
    let entries = plain_entries c.args.log.now in
    let i = c.loop-i.i in
    let entry = c.index-log-i.result in
    let is = entry-there c.args.log.now i entry c.index-log-i.is c.loop-i-test.true in
    let old = c.loop-i.running in
    halted-at a k start entries i (plain_entry entry) is (plain_steps old.steps.items) (running_place old) c.loop-i.invariant.run c.in-Err.halt _ _ c.stop_at.result refl c.stop_at.ensures c.in-Err.ensures

pub loop-i-preserved : goal.loop-i-preserved
loop-i-preserved c =
    let a = plain_plant c.args.plant.now in
    let k = plain_controller c.args.controller.now in
    let start = plain_state c.args.start.now in
    let entries = plain_entries c.args.log.now in
    let i = c.loop-i.i in
    let entry = c.index-log-i.result in
    let is = entry-there c.args.log.now i entry c.index-log-i.is c.loop-i-test.true in
    let old = c.loop-i.running in
    let new = c.step.new.running in
    let h = c.in-Ok-true.ensures in
    let told : IsStep a k (plain_entry entry) old new true = subst (IsStep a k (plain_entry entry) old new) c.in-Ok-true.field-0-test h in
    let more = running-more a k c.requires.valid (picks_legal a k.region c.args.plant.now.proper c.requires.inside) start (take i entries) (plain_steps old.steps.items) (running_place old) (plain_entry entry) told.1.0 (running_place new) c.loop-i.invariant told.0 told.1.1 in
    subst (λ es. IsRunning a k start es (plain_steps new.steps.items) (running_place new)) (sym (take-entry entries i (plain_entry entry) is))
    (subst (λ us. IsRunning a k start (take i entries ++ plain_entry entry ∷ []) us (running_place new)) (sym told.1.2) more)

pub returns-clause-trace : goal.returns-clause-trace
returns-clause-trace c =
    let a = plain_plant c.args.plant.now in
    let k = plain_controller c.args.controller.now in
    let start = plain_state c.args.start.now in
    let log = c.args.log.now in
    let entries = plain_entries log in
    let i = c.loop-i.i in
    let old = c.loop-i.running in
    let size = length-map log plain_entry in
    let past : length entries ≤ i = omega (arith, size, c.loop-i-test.false) in
    running-end a k c.requires.valid (picks_legal a k.region c.args.plant.now.proper c.requires.inside) start entries (plain_steps old.steps.items) (running_place old)
    (subst (λ es. IsRunning a k start es (plain_steps old.steps.items) (running_place old)) (take_all i entries past) c.loop-i.invariant)
