use Rattle.std.proofs.Common.{◌<◌, length, sym, ap, ◌∙◌, subst, arith}
use Rattle.lhg_num.specs.FracArithmetic.{frac_arithmetic}
use Rattle.lhg_num.specs.Halting.{IsHaltedBy}
use Rattle.lhg_num.specs.MarkedLaws.{and_then-part, and_then-rest}
use Rattle.lhg_num.proofs.Halted.{part_halts}
use Rattle.lhg_row.specs.Lists.{meet_lists}
use Rattle.lhg_plant.specs.Invariants.{pieces_at}
use Rattle.lhg_plant.specs.BackCalculus.{back_by, guard_by}
use Rattle.lhg_plant.specs.Views.{plain_switch}
use Rattle.lhg_union.specs.PolyLists.{lines_of, AllVars}
use Rattle.lhg_union.specs.Regions.{plain_region}
use Rattle.lhg_jump.proofs.AwayCode.{vars-at}
use Rattle.lhg_jump.proofs.Answering.{rest_halts}
use Rattle.lhg_jump.proofs.RangeSteps.{lines-at}
use Rattle.lhg_jump.proofs.backs.guard_by.Goals as goal

pub meet_lists-requires : goal.meet_lists-requires
meet_lists-requires c =
    let n = length c.args.plant.now.vars.items in
    let w = c.args.switch.now in
    let in_region : w.from < length c.args.region.now = omega (arith, c.requires.switch.from, c.requires.region.many) in
    record {
      vars = n;
      first = subst (AllVars n) (sym c.deref.ensures.value) c.in_ok-kept.ensures.vars;
      second = vars-at n c.args.region.now w.from c.index-region-switch.result c.deref-2.result.now c.deref-2.ensures.value c.index-region-switch.is in_region c.requires.region.vars;
    }

pub returns-in_err-kept-clause-calculus : goal.returns-in_err-kept-clause-calculus
returns-in_err-kept-clause-calculus c =
    let n = length c.args.plant.now.vars.items in
    let w = plain_switch c.args.switch.now in
    let region = plain_region c.args.region.now in
    part_halts c.from_residual.result c.in_err-kept.field-0.0 _ (λ v. lines_of v.items) _ (λ v. lines_of v.items) c.from_residual.ensures.1 c.in_err-kept.ensures.calculus
    (and_then-part (back_by n (plain_region c.args.invs.now) (plain_region c.args.region.now) (plain_region c.args.away.now) w) (λ ks. meet_lists frac_arithmetic n ks (pieces_at region w.from)))

pub returns-clause-calculus : goal.returns-clause-calculus
returns-clause-calculus c =
    let n = length c.args.plant.now.vars.items in
    let w = plain_switch c.args.switch.now in
    let region = plain_region c.args.region.now in
    let back = back_by n (plain_region c.args.invs.now) (plain_region c.args.region.now) (plain_region c.args.away.now) w in
    let in_region : w.from < length c.args.region.now = omega (arith, c.requires.switch.from, c.requires.region.many) in
    let first = subst (AllVars n) (sym c.deref.ensures.value) c.in_ok-kept.ensures.vars in
    let second = vars-at n c.args.region.now w.from c.index-region-switch.result c.deref-2.result.now c.deref-2.ensures.value c.index-region-switch.is in_region c.requires.region.vars in
    let kept = ap lines_of c.deref.ensures.value ∙ c.in_ok-kept.ensures.calculus in
    let here = ap lines_of c.deref-2.ensures.value ∙ lines-at c.args.region.now w.from c.index-region-switch.result c.index-region-switch.is in_region in
    let same = ap (λ ks. meet_lists frac_arithmetic n ks (lines_of c.deref-2.result.now)) kept ∙ ap (meet_lists frac_arithmetic n back.value) here in
    rest_halts c.meet_lists.result (guard_by n (plain_region c.args.invs.now) region (plain_region c.args.away.now) w) (meet_lists frac_arithmetic n back.value (pieces_at region w.from)) (λ v. lines_of v.items)
    (and_then-rest back (λ ks. meet_lists frac_arithmetic n ks (pieces_at region w.from)))
    (subst (λ m. IsHaltedBy c.meet_lists.result m (λ v. lines_of v.items)) same (c.meet_lists.ensures.calculus n first second))

pub returns-clause-vars : goal.returns-clause-vars
returns-clause-vars c =
    let n = length c.args.plant.now.vars.items in
    let w = c.args.switch.now in
    let in_region : w.from < length c.args.region.now = omega (arith, c.requires.switch.from, c.requires.region.many) in
    c.meet_lists.ensures.vars n (subst (AllVars n) (sym c.deref.ensures.value) c.in_ok-kept.ensures.vars)
    (vars-at n c.args.region.now w.from c.index-region-switch.result c.deref-2.result.now c.deref-2.ensures.value c.index-region-switch.is in_region c.requires.region.vars)
