use Rattle.std.proofs.Common.{◌<◌, List, [], length, get_or, ap, ◌∙◌, subst, arith}
use Rattle.lhg_num.specs.FracArithmetic.{frac_arithmetic}
use Rattle.lhg_num.specs.Halting.{IsHaltedBy}
use Rattle.lhg_num.specs.Marked.{Marked, valued}
use Rattle.lhg_row.specs.Piece.{PlainPiece}
use Rattle.lhg_row.specs.Lists.{minus}
use Rattle.lhg_union.specs.PolyLists.{lines_of}
use Rattle.lhg_union.specs.Regions.{plain_region}
use Rattle.lhg_jump.proofs.Answering.{switch-is, place-below}
use Rattle.lhg_jump.proofs.AwayCode.{vars-at}
use Rattle.lhg_jump.proofs.RangeSteps.{lines-at}
use Rattle.lhg_check.specs.Check.{first_of}
use Rattle.lhg_check.specs.Views.{plain_piece}
use Rattle.lhg_check.proofs.InsideSteps.{switch-below}
use Rattle.lhg_check.proofs.guarding.outside_by.Goals as goal

pub returns-clause-calculus : goal.returns-clause-calculus
returns-clause-calculus c =
    let p = c.args.plant.now in
    let n = length p.vars.items in
    let ct = c.args.controller.now in
    let w = c.args.switch.now in
    let e = c.args.e in
    let lists = c.requires.controller.region.has_lists in
    let in_guards : e < length ct.guards.items = let b = switch-below p e w c.requires.switch in let m = c.requires.controller.guards.many in omega arith in
    let in_region : w.from < length ct.region.pieces.items = let b = place-below p w.from (switch-is p e w c.requires.switch).from in let m = lists.many in omega arith in
    let first = vars-at n ct.guards.items e c.index.result.now c.deref.result.now c.deref.ensures.value c.index.ensures in_guards c.requires.controller.guards.vars in
    let second = vars-at n ct.region.pieces.items w.from c.index-2.result.now c.deref-2.result.now c.deref-2.ensures.value c.index-2.ensures in_region lists.vars in
    let same = ap (λ ps. minus frac_arithmetic n ps (lines_of c.deref-2.result.now)) (ap lines_of c.deref.ensures.value ∙ lines-at ct.guards.items e c.index.result.now c.index.ensures in_guards)
    ∙ ap (minus frac_arithmetic n (get_or (plain_region ct.guards.items) e [])) (ap lines_of c.deref-2.ensures.value ∙ lines-at ct.region.pieces.items w.from c.index-2.result.now c.index-2.ensures in_region) in
    subst (λ (m : Marked (List PlainPiece)). IsHaltedBy c.first_left.result (valued first_of m) plain_piece) same (c.first_left.ensures.calculus n first second)

pub returns-clause-vars : goal.returns-clause-vars
returns-clause-vars c =
    let p = c.args.plant.now in
    let n = length p.vars.items in
    let ct = c.args.controller.now in
    let w = c.args.switch.now in
    let e = c.args.e in
    let lists = c.requires.controller.region.has_lists in
    let in_guards : e < length ct.guards.items = let b = switch-below p e w c.requires.switch in let m = c.requires.controller.guards.many in omega arith in
    let in_region : w.from < length ct.region.pieces.items = let b = place-below p w.from (switch-is p e w c.requires.switch).from in let m = lists.many in omega arith in
    c.first_left.ensures.vars n (vars-at n ct.guards.items e c.index.result.now c.deref.result.now c.deref.ensures.value c.index.ensures in_guards c.requires.controller.guards.vars)
    (vars-at n ct.region.pieces.items w.from c.index-2.result.now c.deref-2.result.now c.deref-2.ensures.value c.index-2.ensures in_region lists.vars)
