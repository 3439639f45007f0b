use Rattle.std.proofs.Common.{◌<◌, List, length, sym, ap, ◌∙◌, subst, arith}
use Rattle.lhg_num.specs.Halting.{IsHaltedBy}
use Rattle.lhg_num.specs.Marked.{valued}
use Rattle.lhg_num.specs.MarkedLaws.{IsPart}
use Rattle.lhg_num.proofs.Halted.{part_halts}
use Rattle.lhg_row.specs.Piece.{PlainPiece}
use Rattle.lhg_plant.specs.Invariants.{pieces_at}
use Rattle.lhg_plant.specs.Views.{plain_plant, plain_switch}
use Rattle.lhg_union.specs.PolyLists.{lines_of}
use Rattle.lhg_union.specs.Regions.{plain_region}
use Rattle.lhg_jump.proofs.Answering.{rest_halts, switch-is, place-below}
use Rattle.lhg_jump.proofs.AwayCode.{vars-at}
use Rattle.lhg_jump.proofs.RangeSteps.{lines-at}
use Rattle.lhg_ctl.specs.Views.{plain_controller}
use Rattle.lhg_check.specs.Check.{first_of, stuck_by, led_by, unkept_by}
use Rattle.lhg_check.specs.Views.{plain_piece}
use Rattle.lhg_check.proofs.CheckLists.{followed-first, followed-rest, followed-part}
use Rattle.lhg_check.proofs.FirstSteps.{piece_some, piece_none}
use Rattle.lhg_check.proofs.InsideSteps.{switch-below, target-inside}
use Rattle.lhg_check.proofs.guarding.unkept_by.Goals as goal

pub stuck_by-requires-clause-inside : goal.stuck_by-requires-clause-inside
stuck_by-requires-clause-inside c =
    let p = c.args.plant.now in
    let w = c.args.switch.now in
    let e = c.args.e in
    let xs = c.args.invs.now in
    let in_invs : w.to < length xs = let b = place-below p w.to (switch-is p e w c.requires.switch).to in let m = c.requires.invs.has_lists.many in omega arith in
    target-inside p e w c.requires.switch xs (lines_of c.deref.result.now) c.requires.invs (ap lines_of c.deref.ensures.value ∙ lines-at xs w.to c.index-invs-to.result c.index-invs-to.is in_invs)

pub returns-in_err-stuck-clause-calculus : goal.returns-in_err-stuck-clause-calculus
returns-in_err-stuck-clause-calculus c =
    let p = c.args.plant.now in
    let a = plain_plant p in
    let ct = plain_controller c.args.controller.now in
    let w = c.args.switch.now in
    let e = c.args.e in
    let xs = c.args.invs.now in
    let in_invs : w.to < length xs = let b = place-below p w.to (switch-is p e w c.requires.switch).to in let m = c.requires.invs.has_lists.many in omega arith in
    let same = ap lines_of c.deref.ensures.value ∙ lines-at xs w.to c.index-invs-to.result c.index-invs-to.is in_invs in
    let whole = valued first_of (unkept_by a (plain_region xs) (plain_region c.args.away.now) ct e (plain_switch w)) in
    part_halts c.from_residual.result c.in_err-stuck.field-0.0 whole plain_piece (valued first_of (stuck_by a ct e (lines_of c.deref.result.now))) plain_piece c.from_residual.ensures.1 c.in_err-stuck.ensures.calculus
    (subst (λ (ts : List PlainPiece). IsPart whole (valued first_of (stuck_by a ct e ts))) (sym same) (followed-part (stuck_by a ct e (pieces_at (plain_region xs) w.to)) (led_by a ct e (pieces_at (plain_region c.args.away.now) w.to))))

pub bounds-away-to : goal.bounds-away-to
bounds-away-to c =
    let p = c.args.plant.now in
    let w = c.args.switch.now in
    let b = place-below p w.to (switch-is p c.args.e w c.requires.switch).to in
    let m = c.requires.away.has_lists.many in
    omega arith

pub led_by-requires-clause-there : goal.led_by-requires-clause-there
led_by-requires-clause-there c = switch-below c.args.plant.now c.args.e c.args.switch.now c.requires.switch

pub led_by-requires-clause-vars : goal.led_by-requires-clause-vars
led_by-requires-clause-vars c =
    let p = c.args.plant.now in
    let w = c.args.switch.now in
    let ys = c.args.away.now in
    let in_away : w.to < length ys = let b = place-below p w.to (switch-is p c.args.e w c.requires.switch).to in let m = c.requires.away.has_lists.many in omega arith in
    vars-at (length p.vars.items) ys w.to c.index-away-to.result c.deref-in-None.result.now c.deref-in-None.ensures.value c.index-away-to.is in_away c.requires.away.has_lists.vars

pub led_by-requires-clause-inside : goal.led_by-requires-clause-inside
led_by-requires-clause-inside c =
    let p = c.args.plant.now in
    let w = c.args.switch.now in
    let e = c.args.e in
    let ys = c.args.away.now in
    let in_away : w.to < length ys = let b = place-below p w.to (switch-is p e w c.requires.switch).to in let m = c.requires.away.has_lists.many in omega arith in
    target-inside p e w c.requires.switch ys (lines_of c.deref-in-None.result.now) c.requires.away (ap lines_of c.deref-in-None.ensures.value ∙ lines-at ys w.to c.index-away-to.result c.index-away-to.is in_away)

pub returns-in-Some-clause-calculus : goal.returns-in-Some-clause-calculus
returns-in-Some-clause-calculus c =
    let p = c.args.plant.now in
    let a = plain_plant p in
    let ct = plain_controller c.args.controller.now in
    let w = c.args.switch.now in
    let e = c.args.e in
    let xs = c.args.invs.now in
    let in_invs : w.to < length xs = let b = place-below p w.to (switch-is p e w c.requires.switch).to in let m = c.requires.invs.has_lists.many in omega arith in
    let same = ap lines_of c.deref.ensures.value ∙ lines-at xs w.to c.index-invs-to.result c.index-invs-to.is in_invs in
    let stuck = stuck_by a ct e (pieces_at (plain_region xs) w.to) in
    let led = led_by a ct e (pieces_at (plain_region c.args.away.now) w.to) in
    let first = c.in_ok-stuck.ensures.calculus ∙ ap (λ (ts : List PlainPiece). first_of (stuck_by a ct e ts).value) same in
    sym (followed-first stuck led c.in-Some.piece.lines (piece_some c.in_ok-stuck.stuck c.in-Some.piece (first_of stuck.value) c.in-Some.is first))

pub returns-in-None-clause-calculus : goal.returns-in-None-clause-calculus
returns-in-None-clause-calculus c =
    let p = c.args.plant.now in
    let a = plain_plant p in
    let ct = plain_controller c.args.controller.now in
    let w = c.args.switch.now in
    let e = c.args.e in
    let xs = c.args.invs.now in
    let ys = c.args.away.now in
    let b = place-below p w.to (switch-is p e w c.requires.switch).to in
    let in_invs : w.to < length xs = let m = c.requires.invs.has_lists.many in omega arith in
    let in_away : w.to < length ys = let m = c.requires.away.has_lists.many in omega arith in
    let same = ap lines_of c.deref.ensures.value ∙ lines-at xs w.to c.index-invs-to.result c.index-invs-to.is in_invs in
    let others = ap lines_of c.deref-in-None.ensures.value ∙ lines-at ys w.to c.index-away-to.result c.index-away-to.is in_away in
    let stuck = stuck_by a ct e (pieces_at (plain_region xs) w.to) in
    let led = led_by a ct e (pieces_at (plain_region ys) w.to) in
    let first = c.in_ok-stuck.ensures.calculus ∙ ap (λ (ts : List PlainPiece). first_of (stuck_by a ct e ts).value) same in
    rest_halts c.led_by.result (valued first_of (unkept_by a (plain_region xs) (plain_region ys) ct e (plain_switch w))) (valued first_of led) plain_piece
    (followed-rest stuck led (piece_none c.in_ok-stuck.stuck (first_of stuck.value) c.in-None.is first))
    (subst (λ (ts : List PlainPiece). IsHaltedBy c.led_by.result (valued first_of (led_by a ct e ts)) plain_piece) others c.led_by.ensures.calculus)
