use Rattle.std.proofs.Common.{◌<◌, length, ◌∙◌, arith}
use Rattle.lhg_plant.specs.Views.{plain_plant}
use Rattle.lhg_jump.proofs.Answering.{switch-there}
use Rattle.lhg_plant.specs.Parts.{plain_switch}
use Rattle.lhg_spoil.proofs.PlaySteps.{result-is, first-done}
use Rattle.lhg_spoil.proofs.acts.goes_first.Goals as goal

pub returns : goal.returns
returns c =
    let p = c.args.plant.now in
    let e = c.args.number in
    let w = c.index.result.now in
    let there : e < length p.switches.items = omega (arith, c.requires.there, p.switches.ok.0) in
    let x = result-is (plain_plant p) e c.args.at.now (plain_switch w) (switch-there p e w there c.index.ensures) in
    first-done e c.args.steps.items _ c.in_ok-state_at.field-0 c.in_ok-state.state _ c.in_ok-push.ensures.items (c.in_ok-state_at.ensures ∙ x) (c.in_ok-state.ensures ∙ x)
