use Rattle.std.proofs.Common.{◌<◌, [], length, get_or, sym, ap, ◌∙◌, subst, arith}
use Rattle.lhg_num.specs.FracArithmetic.{frac_arithmetic}
use Rattle.lhg_num.specs.Marked.{valued}
use Rattle.lhg_num.specs.MarkedLaws.{IsPart}
use Rattle.lhg_num.proofs.Halted.{part_halts}
use Rattle.lhg_row.specs.Lists.{meet_lists}
use Rattle.lhg_plant.specs.Pre.{pre}
use Rattle.lhg_plant.specs.Views.{plain_plant}
use Rattle.lhg_union.specs.PolyLists.{lines_of, AllVars}
use Rattle.lhg_union.specs.Regions.{plain_region}
use Rattle.lhg_jump.proofs.AwayCode.{vars-at}
use Rattle.lhg_jump.proofs.RangeSteps.{lines-at}
use Rattle.lhg_ctl.specs.Views.{plain_controller}
use Rattle.lhg_check.specs.Check.{first_of, led_by}
use Rattle.lhg_check.specs.Views.{plain_piece}
use Rattle.lhg_check.proofs.FirstSteps.{rest_part_of}
use Rattle.lhg_check.proofs.GuardSteps.{led-rest}
use Rattle.lhg_check.proofs.guarding.led_by.Goals as goal

pub returns-in_err-led-clause-calculus : goal.returns-in_err-led-clause-calculus
returns-in_err-led-clause-calculus c =
    let a = plain_plant c.args.plant.now in
    let n = length c.args.plant.now.vars.items in
    let ct = c.args.controller.now in
    let e = c.args.e in
    let ts = lines_of c.args.target.now in
    let guard = get_or (plain_region ct.guards.items) e [] in
    let in_guards : e < length ct.guards.items = let b = c.requires.there in let m = c.requires.controller.guards.many in omega arith in
    let first = vars-at n ct.guards.items e c.index.result.now c.deref.result.now c.deref.ensures.value c.index.ensures in_guards c.requires.controller.guards.vars in
    let second = subst (AllVars n) (sym c.deref-2.ensures.value) c.in_ok-leading.ensures.vars in
    let same = ap (λ ps. meet_lists frac_arithmetic n ps (lines_of c.deref-2.result.now)) (ap lines_of c.deref.ensures.value ∙ lines-at ct.guards.items e c.index.result.now c.index.ensures in_guards)
    ∙ ap (meet_lists frac_arithmetic n guard) (ap lines_of c.deref-2.ensures.value ∙ c.in_ok-leading.ensures.calculus) in
    let whole = valued first_of (led_by a (plain_controller ct) e ts) in
    part_halts c.from_residual-in_err-led.result c.in_err-led.field-0.0 whole plain_piece _ (λ v. lines_of v.items) c.from_residual-in_err-led.ensures.1 (c.in_err-led.ensures.calculus n first second)
    (subst (IsPart whole) (sym same) (rest_part_of first_of whole (meet_lists frac_arithmetic n guard (pre a e ts).value) (led-rest a (plain_controller ct) e ts)))

pub returns-clause-calculus : goal.returns-clause-calculus
returns-clause-calculus c =
    let n = length c.args.plant.now.vars.items in
    let ct = c.args.controller.now in
    let e = c.args.e in
    let guard = get_or (plain_region ct.guards.items) e [] in
    let in_guards : e < length ct.guards.items = let b = c.requires.there in let m = c.requires.controller.guards.many in omega arith in
    let first = vars-at n ct.guards.items e c.index.result.now c.deref.result.now c.deref.ensures.value c.index.ensures in_guards c.requires.controller.guards.vars in
    let second = subst (AllVars n) (sym c.deref-2.ensures.value) c.in_ok-leading.ensures.vars in
    let same = ap (λ ps. meet_lists frac_arithmetic n ps (lines_of c.deref-2.result.now)) (ap lines_of c.deref.ensures.value ∙ lines-at ct.guards.items e c.index.result.now c.index.ensures in_guards)
    ∙ ap (meet_lists frac_arithmetic n guard) (ap lines_of c.deref-2.ensures.value ∙ c.in_ok-leading.ensures.calculus) in
    c.first_of.ensures.piece ∙ ap first_of (c.in_ok-led.ensures.calculus n first second ∙ ap (λ m. m.value) same)

pub returns-clause-vars : goal.returns-clause-vars
returns-clause-vars c =
    let n = length c.args.plant.now.vars.items in
    let ct = c.args.controller.now in
    let e = c.args.e in
    let in_guards : e < length ct.guards.items = let b = c.requires.there in let m = c.requires.controller.guards.many in omega arith in
    let first = vars-at n ct.guards.items e c.index.result.now c.deref.result.now c.deref.ensures.value c.index.ensures in_guards c.requires.controller.guards.vars in
    let second = subst (AllVars n) (sym c.deref-2.ensures.value) c.in_ok-leading.ensures.vars in
    c.first_of.ensures.vars n (c.in_ok-led.ensures.vars n first second)
