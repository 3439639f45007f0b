use Rattle.std.proofs.Common.{◌<◌, List, [], length, ap, ◌∙◌, subst, arith}
use Rattle.lhg_num.specs.Halting.{IsHaltedBy}
use Rattle.lhg_num.specs.Marked.{valued}
use Rattle.lhg_num.proofs.Halted.{part_halts}
use Rattle.lhg_row.specs.Piece.{PlainPiece}
use Rattle.lhg_plant.specs.Invariants.{pieces_at}
use Rattle.lhg_plant.specs.Views.{plain_plant, plain_switch}
use Rattle.lhg_union.specs.PolyLists.{lines_of}
use Rattle.lhg_union.specs.Regions.{plain_region}
use Rattle.lhg_jump.proofs.Answering.{rest_halts, switch-is, place-below}
use Rattle.lhg_jump.proofs.AwayCode.{vars-at}
use Rattle.lhg_jump.proofs.RangeSteps.{lines-at}
use Rattle.lhg_ctl.specs.Views.{plain_controller}
use Rattle.lhg_check.specs.Check.{first_of, outside_by, stuck_by, broken_pick}
use Rattle.lhg_check.specs.Views.{plain_piece}
use Rattle.lhg_check.proofs.FirstSteps.{piece_some, piece_none}
use Rattle.lhg_check.proofs.GuardSteps.{pick-part, pick-first, pick-rest}
use Rattle.lhg_check.proofs.InsideSteps.{switch-below, target-inside}
use Rattle.lhg_check.proofs.guarding.broken_pick.Goals as goal

pub returns-in_err-outside-clause-calculus : goal.returns-in_err-outside-clause-calculus
returns-in_err-outside-clause-calculus c =
    let a = plain_plant c.args.plant.now in
    let ct = plain_controller c.args.controller.now in
    let w = plain_switch c.args.switch.now in
    let e = c.args.e in
    part_halts c.from_residual.result c.in_err-outside.field-0.0 (valued first_of (broken_pick a ct e w)) plain_piece (valued first_of (outside_by a ct e w)) plain_piece c.from_residual.ensures.1 c.in_err-outside.ensures.calculus
    (pick-part a [] [] ct e w)

pub index-requires : goal.index-requires
index-requires c =
    let p = c.args.plant.now in
    let w = c.args.switch.now in
    let v = c.args.controller.now.region.pieces in
    let b = place-below p w.to (switch-is p c.args.e w c.requires.switch).to in
    let m = c.requires.controller.region.has_lists.many in
    let k = v.ok.0 in
    omega arith

pub stuck_by-requires-clause-there : goal.stuck_by-requires-clause-there
stuck_by-requires-clause-there c = switch-below c.args.plant.now c.args.e c.args.switch.now c.requires.switch

pub stuck_by-requires-clause-vars : goal.stuck_by-requires-clause-vars
stuck_by-requires-clause-vars c =
    let p = c.args.plant.now in
    let w = c.args.switch.now in
    let xs = c.args.controller.now.region.pieces.items in
    let lists = c.requires.controller.region.has_lists in
    let in_region : w.to < length xs = let b = place-below p w.to (switch-is p c.args.e w c.requires.switch).to in let m = lists.many in omega arith in
    vars-at (length p.vars.items) xs w.to c.index.result.now c.deref.result.now c.deref.ensures.value c.index.ensures in_region lists.vars

pub stuck_by-requires-clause-inside : goal.stuck_by-requires-clause-inside
stuck_by-requires-clause-inside c =
    let p = c.args.plant.now in
    let w = c.args.switch.now in
    let e = c.args.e in
    let xs = c.args.controller.now.region.pieces.items in
    let in_region : w.to < length xs = let b = place-below p w.to (switch-is p e w c.requires.switch).to in let m = c.requires.controller.region.has_lists.many in omega arith in
    target-inside p e w c.requires.switch xs (lines_of c.deref.result.now) c.requires.controller.region (ap lines_of c.deref.ensures.value ∙ lines-at xs w.to c.index.result.now c.index.ensures in_region)

pub returns-in-Some-clause-calculus : goal.returns-in-Some-clause-calculus
returns-in-Some-clause-calculus c =
    let a = plain_plant c.args.plant.now in
    let ct = plain_controller c.args.controller.now in
    let w = plain_switch c.args.switch.now in
    let e = c.args.e in
    pick-first a [] [] ct e w c.in-Some.piece.lines (piece_some c.in_ok-outside.outside c.in-Some.piece (first_of (outside_by a ct e w).value) c.in-Some.is c.in_ok-outside.ensures.calculus)

pub returns-in-None-clause-calculus : goal.returns-in-None-clause-calculus
returns-in-None-clause-calculus c =
    let p = c.args.plant.now in
    let a = plain_plant p in
    let ct = plain_controller c.args.controller.now in
    let w = c.args.switch.now in
    let e = c.args.e in
    let xs = c.args.controller.now.region.pieces.items in
    let in_region : w.to < length xs = let b = place-below p w.to (switch-is p e w c.requires.switch).to in let m = c.requires.controller.region.has_lists.many in omega arith in
    let same = ap lines_of c.deref.ensures.value ∙ lines-at xs w.to c.index.result.now c.index.ensures in_region in
    rest_halts c.stuck_by.result (valued first_of (broken_pick a ct e (plain_switch w))) (valued first_of (stuck_by a ct e (pieces_at (plain_region xs) w.to))) plain_piece
    (pick-rest a [] [] ct e (plain_switch w) (piece_none c.in_ok-outside.outside (first_of (outside_by a ct e (plain_switch w)).value) c.in-None.is c.in_ok-outside.ensures.calculus))
    (subst (λ (ts : List PlainPiece). IsHaltedBy c.stuck_by.result (valued first_of (stuck_by a ct e ts)) plain_piece) same c.stuck_by.ensures.calculus)
