use Rattle.std.proofs.Common.{◌≡◌, ◌<◌, length, sym, ap, ◌∙◌, Option, arith, rules}
use Rattle.lhg_num.specs.Marked.{Marked}
use Rattle.lhg_row.specs.Row.{PlainPoint}
use Rattle.lhg_plant.specs.Views.{plain_plant, plain_switch}
use Rattle.lhg_union.specs.PolyLists.{lines_of}
use Rattle.lhg_union.specs.Regions.{plain_region}
use Rattle.lhg_run.proofs.Answering.{answered-rows}
use Rattle.lhg_run.proofs.MoveSteps.{switch-there}
use Rattle.lhg_run.proofs.PickCall.{enters, picked-same, pick-done, some-found}
use Rattle.lhg_run.proofs.SightSteps.{lines-at}
use Rattle.lhg_run.proofs.flows.picked.Goals as goal

pub returns-in_err-found : goal.returns-in_err-found
returns-in_err-found c =
    let p = c.args.plant.now in
    let a = plain_plant p in
    let e = c.args.stop.switch in
    let w = c.index-switch.result.now in
    let there = switch-there p.switches.items e w c.requires.there c.index-switch.ensures in
    let ps = c.args.controller.now.region.pieces.items in
    let in_locs = enters a e (plain_switch w) there p.proper in
    let in_region : w.to < length ps = omega (arith, in_locs, c.requires.controller.locs) in
    let many : c.len.result ≡ length p.vars.items = search rules in
    let pieces = ap lines_of c.deref-2.ensures.value ∙ lines-at ps w.to c.index-pieces.result.now c.index-pieces.ensures in_region in
    let same = picked-same a e (plain_switch w) there (plain_region ps) c.args.stop.at c.len.result many c.deref.result.now c.deref.ensures.value (lines_of c.deref-2.result.now) pieces in
    answered-rows c.from_residual.result _ _ _ c.in_err-found.field-0.0 c.from_residual.ensures.1 _ (λ o. o) c.in_err-found.ensures
    (λ h. ap (λ (m : Marked (Option PlainPoint)). m.wide) (sym same) ∙ h) (λ h. ap (λ (m : Marked (Option PlainPoint)). m.rows) (sym same) ∙ h)

pub unwrap-at-requires : goal.unwrap-at-requires
unwrap-at-requires c =
    let p = c.args.plant.now in
    let a = plain_plant p in
    let e = c.args.stop.switch in
    let w = c.index-switch.result.now in
    let there = switch-there p.switches.items e w c.requires.there c.index-switch.ensures in
    let ps = c.args.controller.now.region.pieces.items in
    let in_locs = enters a e (plain_switch w) there p.proper in
    let in_region : w.to < length ps = omega (arith, in_locs, c.requires.controller.locs) in
    let many : c.len.result ≡ length p.vars.items = search rules in
    let pieces = ap lines_of c.deref-2.ensures.value ∙ lines-at ps w.to c.index-pieces.result.now c.index-pieces.ensures in_region in
    let same = picked-same a e (plain_switch w) there (plain_region ps) c.args.stop.at c.len.result many c.deref.result.now c.deref.ensures.value (lines_of c.deref-2.result.now) pieces in
    some-found c.in_ok-found.found c.requires.found.0 (c.in_ok-found.ensures ∙ ap (λ (m : Marked (Option PlainPoint)). m.value) same ∙ c.requires.found.1)

pub returns : goal.returns
returns c =
    let p = c.args.plant.now in
    let a = plain_plant p in
    let e = c.args.stop.switch in
    let w = c.index-switch.result.now in
    let there = switch-there p.switches.items e w c.requires.there c.index-switch.ensures in
    let ps = c.args.controller.now.region.pieces.items in
    let in_locs = enters a e (plain_switch w) there p.proper in
    let in_region : w.to < length ps = omega (arith, in_locs, c.requires.controller.locs) in
    let many : c.len.result ≡ length p.vars.items = search rules in
    let pieces = ap lines_of c.deref-2.ensures.value ∙ lines-at ps w.to c.index-pieces.result.now c.index-pieces.ensures in_region in
    let same = picked-same a e (plain_switch w) there (plain_region ps) c.args.stop.at c.len.result many c.deref.result.now c.deref.ensures.value (lines_of c.deref-2.result.now) pieces in
    let x = c.unwrap-at.result in (
      x,
      ap (λ (m : Marked (Option PlainPoint)). m.value) (sym same) ∙ sym c.in_ok-found.ensures ∙ c.unwrap-at.ensures,
      pick-done a e (plain_switch w) there c.args.steps.items c.push.new.self.items (record { loc = w.to; at = c.in_ok-copy_point.field-0 }) x c.in_ok-push.ensures.items
          (ap (λ (q : PlainPoint). record { loc = w.to; at = q }) c.in_ok-copy_point.ensures),
    )
