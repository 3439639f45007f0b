use Rattle.std.proofs.Common.{◌≡◌, ◌<◌, length, ap, ◌∙◌, get_or, slice_get, arith, []}
use Rattle.lhg_plant.specs.Plant.{PlainSwitch}
use Rattle.lhg_plant.specs.Views.{plain_plant, plain_switch, plain_state}
use Rattle.lhg_plant.proofs.Options.{there_some}
use Rattle.lhg_union.specs.PolyLists.{lines_of}
use Rattle.lhg_union.specs.Regions.{plain_region}
use Rattle.lhg_run.proofs.MoveSteps.{switch-there}
use Rattle.lhg_run.proofs.SightSteps.{lines-at, guard-exact, guard-refused}
use Rattle.lhg_uses.proofs.advising.has_guard.Goals as goal

pub returns-clause-exact : goal.returns-clause-exact
returns-clause-exact c =
    let p = c.args.plant.now in
    let a = plain_plant p in
    let gs = c.args.guards.now in
    let e = c.args.e in
    let w = c.index-switch.result.now in
    let in_gs : e < length gs = omega (arith, c.requires.there, c.requires.many) in
    let leaves = there_some (slice_get a.switches e) (plain_switch w) (λ (v : PlainSwitch). v.from ≡ c.args.state.now.loc) (switch-there p.switches.items e w c.requires.there c.index-switch.ensures) c.if-switch-state.false in
    let is : lines_of c.deref.result.now ≡ get_or (plain_region gs) e [] = ap lines_of c.deref.ensures.value ∙ lines-at gs e c.index-guards-e.result c.index-guards-e.is in_gs in
    guard-exact a (plain_region gs) e (plain_state c.args.state.now) c.requires.state leaves (lines_of c.deref.result.now) is c.some_has.result c.some_has.ensures

pub returns-clause-wide : goal.returns-clause-wide
returns-clause-wide c =
    let p = c.args.plant.now in
    let a = plain_plant p in
    let gs = c.args.guards.now in
    let e = c.args.e in
    let w = c.index-switch.result.now in
    let in_gs : e < length gs = omega (arith, c.requires.there, c.requires.many) in
    let leaves = there_some (slice_get a.switches e) (plain_switch w) (λ (v : PlainSwitch). v.from ≡ c.args.state.now.loc) (switch-there p.switches.items e w c.requires.there c.index-switch.ensures) c.if-switch-state.false in
    let is : lines_of c.deref.result.now ≡ get_or (plain_region gs) e [] = ap lines_of c.deref.ensures.value ∙ lines-at gs e c.index-guards-e.result c.index-guards-e.is in_gs in
    guard-refused a (plain_region gs) e (plain_state c.args.state.now) c.requires.state leaves (lines_of c.deref.result.now) is c.some_has.result c.some_has.ensures
