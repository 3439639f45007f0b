use Rattle.lhg_num.specs.Marked.{valued}
use Rattle.lhg_num.proofs.Halted.{part_halts}
use Rattle.lhg_plant.specs.Views.{plain_plant, plain_switch}
use Rattle.lhg_union.specs.Regions.{plain_region}
use Rattle.lhg_jump.proofs.Answering.{rest_halts}
use Rattle.lhg_ctl.specs.Views.{plain_controller}
use Rattle.lhg_check.specs.Check.{first_of, outside_by, unkept_by, broken_ctl}
use Rattle.lhg_check.specs.Views.{plain_piece}
use Rattle.lhg_check.proofs.FirstSteps.{piece_some, piece_none}
use Rattle.lhg_check.proofs.GuardSteps.{ctl-part, ctl-first, ctl-rest}
use Rattle.lhg_check.proofs.guarding.broken_ctl.Goals as goal

pub returns-in_err-outside-clause-calculus : goal.returns-in_err-outside-clause-calculus
returns-in_err-outside-clause-calculus c =
    let a = plain_plant c.args.plant.now in
    let invs = plain_region c.args.invs.now in
    let away = plain_region c.args.away.now in
    let ct = plain_controller c.args.controller.now in
    let w = plain_switch c.args.switch.now in
    let e = c.args.e in
    part_halts c.from_residual.result c.in_err-outside.field-0.0 (valued first_of (broken_ctl a invs away ct e w)) plain_piece (valued first_of (outside_by a ct e w)) plain_piece c.from_residual.ensures.1 c.in_err-outside.ensures.calculus
    (ctl-part a invs away ct e w)

pub returns-in-Some-clause-calculus : goal.returns-in-Some-clause-calculus
returns-in-Some-clause-calculus c =
    let a = plain_plant c.args.plant.now in
    let invs = plain_region c.args.invs.now in
    let away = plain_region c.args.away.now in
    let ct = plain_controller c.args.controller.now in
    let w = plain_switch c.args.switch.now in
    let e = c.args.e in
    ctl-first a invs away ct e w c.in-Some.piece.lines (piece_some c.in_ok-outside.outside c.in-Some.piece (first_of (outside_by a ct e w).value) c.in-Some.is c.in_ok-outside.ensures.calculus)

pub returns-in-None-clause-calculus : goal.returns-in-None-clause-calculus
returns-in-None-clause-calculus c =
    let a = plain_plant c.args.plant.now in
    let invs = plain_region c.args.invs.now in
    let away = plain_region c.args.away.now in
    let ct = plain_controller c.args.controller.now in
    let w = plain_switch c.args.switch.now in
    let e = c.args.e in
    rest_halts c.unkept_by.result (valued first_of (broken_ctl a invs away ct e w)) (valued first_of (unkept_by a invs away ct e w)) plain_piece
    (ctl-rest a invs away ct e w (piece_none c.in_ok-outside.outside (first_of (outside_by a ct e w).value) c.in-None.is c.in_ok-outside.ensures.calculus)) c.unkept_by.ensures.calculus
