use Rattle.std.proofs.Common.{◌<◌, List, [], length, get_or, sym, ap, ◌∙◌, subst, arith}
use Rattle.lhg_num.specs.FracArithmetic.{frac_arithmetic}
use Rattle.lhg_num.specs.Halting.{IsHaltedBy}
use Rattle.lhg_num.specs.Marked.{Marked, valued}
use Rattle.lhg_row.specs.Piece.{PlainPiece}
use Rattle.lhg_row.specs.Lists.{minus}
use Rattle.lhg_plant.specs.Pre.{pre}
use Rattle.lhg_plant.specs.Views.{plain_plant}
use Rattle.lhg_union.specs.PolyLists.{lines_of, AllVars}
use Rattle.lhg_union.specs.Regions.{plain_region}
use Rattle.lhg_jump.proofs.Answering.{rest_halts}
use Rattle.lhg_jump.proofs.AwayCode.{vars-at}
use Rattle.lhg_jump.proofs.RangeSteps.{lines-at}
use Rattle.lhg_ctl.specs.Views.{plain_controller}
use Rattle.lhg_check.specs.Check.{first_of, stuck_by}
use Rattle.lhg_check.specs.Views.{plain_piece}
use Rattle.lhg_check.proofs.GuardSteps.{stuck-rest}
use Rattle.lhg_check.proofs.guarding.stuck_by.Goals as goal

pub returns-clause-calculus : goal.returns-clause-calculus
returns-clause-calculus c =
    let a = plain_plant c.args.plant.now in
    let n = length c.args.plant.now.vars.items in
    let ct = c.args.controller.now in
    let e = c.args.e in
    let ts = lines_of c.args.target.now in
    let guard = get_or (plain_region ct.guards.items) e [] in
    let in_guards : e < length ct.guards.items = let b = c.requires.there in let m = c.requires.controller.guards.many in omega arith in
    let first = vars-at n ct.guards.items e c.index.result.now c.deref.result.now c.deref.ensures.value c.index.ensures in_guards c.requires.controller.guards.vars in
    let second = subst (AllVars n) (sym c.deref-2.ensures.value) c.in_ok-leading.ensures.vars in
    let same = ap (λ ps. minus frac_arithmetic n ps (lines_of c.deref-2.result.now)) (ap lines_of c.deref.ensures.value ∙ lines-at ct.guards.items e c.index.result.now c.index.ensures in_guards)
    ∙ ap (minus frac_arithmetic n guard) (ap lines_of c.deref-2.ensures.value ∙ c.in_ok-leading.ensures.calculus) in
    rest_halts c.first_left.result (valued first_of (stuck_by a (plain_controller ct) e ts)) (valued first_of (minus frac_arithmetic n guard (pre a e ts).value)) plain_piece (stuck-rest a (plain_controller ct) e ts)
    (subst (λ (m : Marked (List PlainPiece)). IsHaltedBy c.first_left.result (valued first_of m) plain_piece) same (c.first_left.ensures.calculus n first second))

pub returns-clause-vars : goal.returns-clause-vars
returns-clause-vars c =
    let n = length c.args.plant.now.vars.items in
    let ct = c.args.controller.now in
    let e = c.args.e in
    let in_guards : e < length ct.guards.items = let b = c.requires.there in let m = c.requires.controller.guards.many in omega arith in
    c.first_left.ensures.vars n (vars-at n ct.guards.items e c.index.result.now c.deref.result.now c.deref.ensures.value c.index.ensures in_guards c.requires.controller.guards.vars)
    (subst (AllVars n) (sym c.deref-2.ensures.value) c.in_ok-leading.ensures.vars)
