use Rattle.std.proofs.Common.{◌≡◌, ◌<◌, length, ap, arith}
use Rattle.std.proofs.lemmas.List.{length-map}
use Rattle.lhg_plant.specs.declared.plants.Side.TheVariants.{Env}
use Rattle.lhg_plant.specs.Run.{env_switched}
use Rattle.lhg_plant.specs.Views.{plain_plant, plain_state, plain_switch}
use Rattle.lhg_run.proofs.MoveSteps.{switch-there, env-taken}
use Rattle.lhg_run.proofs.SightSteps.{there_short}
use Rattle.lhg_run.proofs.moves.env.Goals as goal

pub returns : goal.returns
returns c = λ k.
    let p = c.args.plant.now in
    let a = plain_plant p in
    let e = c.args.switch in
    let w = c.index.result.now in
    let side = c.is_uncontrollable.ensures.0 c.if-not-is_uncontrollable.false in
    let size = length-map p.switches.items plain_switch in
    let in_list = there_short a.switches e (λ v. v.side ≡ Env) side in
    let there : e < length p.switches.items = omega (arith, in_list, size) in
    env-taken a e (plain_state c.args.from.now) c.args.to.now k c.in_ok-rested.field-0 (plain_switch w) (switch-there p.switches.items e w there c.index.ensures)
    (c.in_ok-legal.ensures.exact.0 c.if-not-legal.false) side _ (ap (env_switched e) c.in_ok-state_at.ensures) c.in_ok-rested.ensures
