use Rattle.std.proofs.Common.{◌≡◌, ◌++◌, Some, ◌∷◌, [], inr, refl}
use Rattle.lhg_math.specs.Number.{mul}
use Rattle.lhg_play.specs.Views.{plain_steps}
use Rattle.lhg_plant.specs.declared.plants.Side.TheVariants.{Pick}
use Rattle.lhg_plant.specs.Run.{switched}
use Rattle.lhg_plant.specs.State.{moved_to}
use Rattle.lhg_plant.specs.Views.{plain_plant, plain_state, plain_switch}
use Rattle.lhg_ctl.specs.Views.{plain_controller}
use Rattle.lhg_run.specs.Seen.{steps_to}
use Rattle.lhg_run.specs.declared.doing.Done.{Done}
use Rattle.lhg_run.proofs.Answering.{answered-as}
use Rattle.lhg_run.proofs.MoveSteps.{switch-there}
use Rattle.lhg_run.proofs.PickCall.{its-side, other-side, with-switch, stop-pending, stop-picked}
use Rattle.lhg_run.proofs.flows.stopped.Goals as goal

pub returns-in-Pick : goal.returns-in-Pick
returns-in-Pick c =
    let p = c.args.plant.now in
    let a = plain_plant p in
    let k = plain_controller c.args.controller.now in
    let s = plain_state c.args.from.now in
    let t = c.args.time.now in
    let stop = c.args.stop in
    let w = c.index.result.now in
    let there = switch-there p.switches.items stop.switch w c.requires.there c.index.ensures in
    let side = its-side a stop.switch (plain_switch w) there Pick c.in-Pick.is in
    let steps : plain_steps c.push.new.self.items ≡ steps_to (mul stop.place t) stop ++ switched stop.switch ∷ [] =
    with-switch c.in_ok-steps.steps.items c.push.new.self.items (steps_to (mul stop.place t) stop) stop.switch c.in_ok-steps.ensures c.in_ok-push.ensures.items in
    answered-as c.picked.result _ _ _ _ _ _ c.picked.ensures (λ done h. stop-picked a k s t stop done side (plain_steps c.push.new.self.items) steps h) (λ h. inr (side, h)) (λ h. (side, h))

pub returns-in_default : goal.returns-in_default
returns-in_default c =
    let p = c.args.plant.now in
    let a = plain_plant p in
    let k = plain_controller c.args.controller.now in
    let s = plain_state c.args.from.now in
    let t = c.args.time.now in
    let stop = c.args.stop in
    let w = c.index.result.now in
    let there = switch-there p.switches.items stop.switch w c.requires.there c.index.ensures in
    let side = other-side a stop.switch (plain_switch w) there k (moved_to s stop.at) c.requires.taken c.in_default.not-Pick in
    let steps : plain_steps c.push.new.self.items ≡ steps_to (mul stop.place t) stop ++ switched stop.switch ∷ [] =
    with-switch c.in_ok-steps.steps.items c.push.new.self.items (steps_to (mul stop.place t) stop) stop.switch c.in_ok-steps.ensures c.in_ok-push.ensures.items in
    let done : Done = record { steps = c.push.new.self; state = record { loc = c.args.from.now.loc; at = stop.at }; pending = Some stop.switch } in
    stop-pending a k s t stop done side steps refl
