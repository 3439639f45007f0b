use Rattle.std.proofs.Common.{◌≡◌, ◌<◌, length, ap, ◌∙◌, subst, rules, arith}
use Rattle.lhg_num.specs.FracArithmetic.{frac_arithmetic}
use Rattle.lhg_num.specs.Halting.{IsHaltedBy}
use Rattle.lhg_num.specs.Marked.{and_then}
use Rattle.lhg_row.specs.Lists.{minus}
use Rattle.lhg_plant.specs.Invariants.{pieces_at}
use Rattle.lhg_plant.specs.Pre.{pre_list}
use Rattle.lhg_plant.specs.Views.{plain_switch}
use Rattle.lhg_union.specs.PolyLists.{lines_of}
use Rattle.lhg_union.specs.Regions.{plain_region}
use Rattle.lhg_jump.proofs.CallCode.{by-ctl, by-pick, by-none}
use Rattle.lhg_jump.proofs.RangeSteps.{lines-at}
use Rattle.lhg_jump.proofs.backs.back_by.Goals as goal

pub returns-in-Ctl-clause-calculus : goal.returns-in-Ctl-clause-calculus
returns-in-Ctl-clause-calculus c =
    let n = length c.args.plant.now.vars.items in
    let w = c.args.switch.now in
    let j = w.jump.items in
    let many : c.len.result ≡ n = search rules in
    let in_from : w.from < length c.args.invs.now = omega (arith, c.requires.switch.from, c.requires.invs.many) in
    let in_to : w.to < length c.args.invs.now = omega (arith, c.requires.switch.to, c.requires.invs.many) in
    let in_away : w.to < length c.args.away.now = omega (arith, c.requires.switch.to, c.requires.away.many) in
    let from = ap lines_of c.deref.ensures.value ∙ lines-at c.args.invs.now w.from c.index-invs-switch.result c.index-invs-switch.is in_from in
    let to = ap lines_of c.deref-in-Ctl.ensures.value ∙ lines-at c.args.invs.now w.to c.index-invs-switch-2.result c.index-invs-switch-2.is in_to in
    let outside = ap lines_of c.deref-in-Ctl-2.ensures.value ∙ lines-at c.args.away.now w.to c.index-away-switch.result c.index-away-switch.is in_away in
    let fs = lines_of c.deref.result.now in
    let ts = lines_of c.deref-in-Ctl.result.now in
    let os = lines_of c.deref-in-Ctl-2.result.now in
    let here = pieces_at (plain_region c.args.invs.now) w.from in
    let there = pieces_at (plain_region c.args.invs.now) w.to in
    let same =
    ap (λ k. and_then (pre_list k fs j ts) (λ all. and_then (pre_list k fs j os) (minus frac_arithmetic k all))) many
    ∙ ap (λ gs. and_then (pre_list n gs j ts) (λ all. and_then (pre_list n gs j os) (minus frac_arithmetic n all))) from
    ∙ ap (λ us. and_then (pre_list n here j us) (λ all. and_then (pre_list n here j os) (minus frac_arithmetic n all))) to
    ∙ ap (λ us. and_then (pre_list n here j there) (λ all. and_then (pre_list n here j us) (minus frac_arithmetic n all))) outside
    ∙ by-ctl n (plain_region c.args.invs.now) (plain_region c.args.region.now) (plain_region c.args.away.now) (plain_switch w) c.in-Ctl.is in
    subst (λ m. IsHaltedBy c.kept_by.result m (λ v. lines_of v.items)) same c.kept_by.ensures.calculus

pub returns-in-Env-clause-calculus : goal.returns-in-Env-clause-calculus
returns-in-Env-clause-calculus c =
    ap lines_of c.new.ensures.items ∙ by-none (length c.args.plant.now.vars.items) (plain_region c.args.invs.now) (plain_region c.args.region.now) (plain_region c.args.away.now) (plain_switch c.args.switch.now) c.in-Env.is

pub returns-in-Pick-clause-calculus : goal.returns-in-Pick-clause-calculus
returns-in-Pick-clause-calculus c =
    let n = length c.args.plant.now.vars.items in
    let w = c.args.switch.now in
    let many : c.len-in-Pick.result ≡ n = search rules in
    let in_from : w.from < length c.args.invs.now = omega (arith, c.requires.switch.from, c.requires.invs.many) in
    let in_region : w.to < length c.args.region.now = omega (arith, c.requires.switch.to, c.requires.region.many) in
    let from = ap lines_of c.deref-in-Pick.ensures.value ∙ lines-at c.args.invs.now w.from c.index-invs-switch.result c.index-invs-switch.is in_from in
    let to = ap lines_of c.deref-in-Pick-3.ensures.value ∙ lines-at c.args.region.now w.to c.index-region-switch.result c.index-region-switch.is in_region in
    let fs = lines_of c.deref-in-Pick.result.now in
    let ts = lines_of c.deref-in-Pick-3.result.now in
    let j = c.deref-in-Pick-2.result.now in
    let here = pieces_at (plain_region c.args.invs.now) w.from in
    let same =
    ap (λ k. pre_list k fs j ts) many
    ∙ ap (λ gs. pre_list n gs j ts) from
    ∙ ap (λ js. pre_list n here js ts) c.deref-in-Pick-2.ensures.value
    ∙ ap (λ us. pre_list n here w.jump.items us) to
    ∙ by-pick n (plain_region c.args.invs.now) (plain_region c.args.region.now) (plain_region c.args.away.now) (plain_switch w) c.in-Pick.is in
    subst (λ m. IsHaltedBy c.pre_list.result m (λ v. lines_of v.items)) same c.pre_list.ensures.calculus
