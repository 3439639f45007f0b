use Rattle.std.proofs.Common.{◌≡◌, ◌<◌, length, Err, sym, ap, ◌∙◌, subst, rules, arith}
use Rattle.lhg_num.specs.Halting.{IsHaltedBy}
use Rattle.lhg_plant.specs.declared.states.State.{State}
use Rattle.lhg_plant.specs.Views.{plain_plant, plain_state}
use Rattle.lhg_union.specs.PolyLists.{lines_of}
use Rattle.lhg_union.specs.Regions.{plain_region}
use Rattle.lhg_forward.specs.Growth.{new_state}
use Rattle.lhg_forward.specs.Outcomes.{IsForwardStop}
use Rattle.lhg_forward.proofs.SliceCode.{oldest_slice, newest_slice}
use Rattle.lhg_forward.proofs.Spending.{loc_there, spent_with, spent_stop}
use Rattle.lhg_forward.proofs.forwarding.spent.Goals as goal

pub returns-in-Ok : goal.returns-in-Ok
returns-in-Ok c =
    let p = c.args.plant.now in
    let init = plain_region c.args.init.now.pieces.items in
    let s = c.args.stage.now in
    let xs = s.region.pieces.items in
    let loc = c.unwrap_or-loc.result in
    let many : c.len.result ≡ length p.vars.items = search rules in
    let there = loc_there p init c.args.budget s c.requires.stage c.requires.some loc c.unwrap_or-loc.ensures in
    let in_xs : loc < length xs = omega (arith, there, c.requires.stage.lists.lists.many) in
    let in_ks : loc < length s.older.items = omega (arith, there, c.requires.stage.lists.older_many) in
    let earlier = c.split_at.result.0.now in
    let newest = c.split_at.result.1.now in
    let e = oldest_slice xs s.older.items loc c.index-list.result.now c.index-list.ensures in_xs c.index.result.now c.index.ensures in_ks c.deref.result.now c.deref.ensures.value earlier c.split_at.ensures.front in
    let f = newest_slice xs s.older.items loc c.index-list.result.now c.index-list.ensures in_xs c.index.result.now c.index.ensures in_ks c.deref.result.now c.deref.ensures.value newest c.split_at.ensures.back in
    spent_with p init c.args.budget s c.requires.stage c.requires.some loc c.unwrap_or-loc.ensures c.in-Ok.state (lines_of earlier) (lines_of newest) e f
    (c.in-Ok.ensures ∙ ap (λ k. (new_state k loc (lines_of earlier) (lines_of newest)).value) many)

pub returns-in-Err : goal.returns-in-Err
returns-in-Err c =
    let p = c.args.plant.now in
    let init = plain_region c.args.init.now.pieces.items in
    let s = c.args.stage.now in
    let xs = s.region.pieces.items in
    let loc = c.unwrap_or-loc.result in
    let many : c.len.result ≡ length p.vars.items = search rules in
    let there = loc_there p init c.args.budget s c.requires.stage c.requires.some loc c.unwrap_or-loc.ensures in
    let in_xs : loc < length xs = omega (arith, there, c.requires.stage.lists.lists.many) in
    let in_ks : loc < length s.older.items = omega (arith, there, c.requires.stage.lists.older_many) in
    let earlier = c.split_at.result.0.now in
    let newest = c.split_at.result.1.now in
    let e = oldest_slice xs s.older.items loc c.index-list.result.now c.index-list.ensures in_xs c.index.result.now c.index.ensures in_ks c.deref.result.now c.deref.ensures.value earlier c.split_at.ensures.front in
    let f = newest_slice xs s.older.items loc c.index-list.result.now c.index-list.ensures in_xs c.index.result.now c.index.ensures in_ks c.deref.result.now c.deref.ensures.value newest c.split_at.ensures.back in
    subst (IsForwardStop (plain_plant p) init c.args.budget) (sym c.halted.ensures)
    (spent_stop p init c.args.budget s c.requires.stage c.requires.some loc c.unwrap_or-loc.ensures c.in-Err.halt (lines_of earlier) (lines_of newest) e f
    (subst (λ k. IsHaltedBy {T = State} (Err c.in-Err.halt) (new_state k loc (lines_of earlier) (lines_of newest)) plain_state) many c.in-Err.ensures))
