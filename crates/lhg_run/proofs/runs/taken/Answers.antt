use Rattle.std.proofs.Common.{Option, Some, ℕ, ap, refl}
use Rattle.lhg_plant.specs.Run.{env_entry, land_entry, resting}
use Rattle.lhg_plant.specs.Views.{plain_plant, plain_state}
use Rattle.lhg_ctl.specs.Views.{plain_controller}
use Rattle.lhg_run.specs.Numbers.{IsWideEntry, IsLongEntry}
use Rattle.lhg_run.specs.Seen.{IsTaken, running_place}
use Rattle.lhg_ctl.specs.LogViews.{plain_entry}
use Rattle.lhg_run.specs.Views.{plain_place}
use Rattle.lhg_run.proofs.Answering.{answered-as}
use Rattle.lhg_run.proofs.RunCall.{taken-at}
use Rattle.lhg_run.proofs.runs.taken.Goals as goal

pub returns-in-None-Env : goal.returns-in-None-Env
returns-in-None-Env c =
    let a = plain_plant c.args.plant.now in
    let k = plain_controller c.args.controller.now in
    let s = c.args.running.now.state in
    taken-at c.env.result (λ p e. IsTaken a k p e) (IsWideEntry a k) (IsLongEntry a k) (running_place c.args.running.now) (resting (plain_state s)) (plain_entry c.args.entry.now) (env_entry c.in-None-Env.switch c.in-None-Env.to)
    (ap (λ (o : Option ℕ). plain_place s o) c.in-None-Env.is-0) (ap plain_entry c.in-None-Env.is-1)
    (answered-as c.env.result _ _ _ _ _ _ (c.env.ensures k) (λ x h. h) (λ h. (refl, h.0, h.1)) (λ h. h))

pub returns-in-Some-Land : goal.returns-in-Some-Land
returns-in-Some-Land c =
    let a = plain_plant c.args.plant.now in
    let k = plain_controller c.args.controller.now in
    let s = c.args.running.now.state in
    let e = c.in-Some-Land.switch in
    taken-at c.land.result (λ p x. IsTaken a k p x) (IsWideEntry a k) (IsLongEntry a k) (running_place c.args.running.now) (plain_place s (Some e)) (plain_entry c.args.entry.now) (land_entry c.in-Some-Land.to)
    (ap (λ (o : Option ℕ). plain_place s o) c.in-Some-Land.is-0) (ap plain_entry c.in-Some-Land.is-1)
    (answered-as c.land.result _ _ _ _ _ _ (c.land.ensures k) (λ x h. h) (λ h. (e, refl, h)) (λ h. h))
