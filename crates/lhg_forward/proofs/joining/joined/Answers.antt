use Rattle.std.proofs.Common.{◌≡◌, ◌<◌, ◌≤◌, length, sym, ap, ◌∙◌, subst, rules, arith}
use Rattle.lhg_num.specs.MarkedLaws.{IsPart}
use Rattle.lhg_union.specs.PolyLists.{lines_of, AllVars}
use Rattle.lhg_union.specs.Regions.{plain_region}
use Rattle.lhg_union.proofs.Halts.{all_on_pieces}
use Rattle.lhg_jump.proofs.RegionSteps.{region-push, over-push}
use Rattle.lhg_jump.proofs.RangeSteps.{ranging-part, ranging-step, ranging-end}
use Rattle.lhg_forward.specs.Growth.{joined_at, joined}
use Rattle.lhg_forward.proofs.JoinCode.{both_at}
use Rattle.lhg_forward.proofs.StageCode.{joined-whole}
use Rattle.lhg_forward.proofs.joining.joined.Goals as goal

pub returns-in_err-list-clause-calculus : goal.returns-in_err-list-clause-calculus
returns-in_err-list-clause-calculus c =
    let p = c.args.plant.now in
    let m = length p.locs.items in
    let l = c.loop-l.l in
    let xs = c.args.region.now in
    let ys = c.args.new.now in
    let less : l < m = search rules in
    let in_xs : l < length xs = omega (arith, less, c.requires.region.many) in
    let in_ys : l < length ys = omega (arith, less, c.requires.new.many) in
    let f = joined_at (plain_region xs) (plain_region ys) in
    let b = both_at (length p.vars.items) xs ys l c.requires.region.vars c.requires.new.vars in_xs in_ys c.index-region-l.result c.index-new-l.result c.index-region-l.is c.index-new-l.is
    c.deref.result.now c.deref-in-loop-l.result.now c.deref.ensures.value c.deref-in-loop-l.ensures.value in
    all_on_pieces c.from_residual-in_err-list.result c.in_err-list.field-0.0 _ (λ v. plain_region v.items) _ (λ v. lines_of v.items) c.from_residual-in_err-list.ensures.1 c.in_err-list.ensures.calculus
    (subst (IsPart (joined m (plain_region xs) (plain_region ys))) (sym b.same)
    (subst (λ w. IsPart w (f l)) (joined-whole m (plain_region xs) (plain_region ys)) (ranging-part f m (plain_region c.loop-l.out.items) l c.loop-l.invariant.built less)))

pub loop-l-preserved : goal.loop-l-preserved
loop-l-preserved c =
    let p = c.args.plant.now in
    let m = length p.locs.items in
    let l = c.loop-l.l in
    let xs = c.args.region.now in
    let ys = c.args.new.now in
    let less : l < m = search rules in
    let in_xs : l < length xs = omega (arith, less, c.requires.region.many) in
    let in_ys : l < length ys = omega (arith, less, c.requires.new.many) in
    let f = joined_at (plain_region xs) (plain_region ys) in
    let b = both_at (length p.vars.items) xs ys l c.requires.region.vars c.requires.new.vars in_xs in_ys c.index-region-l.result c.index-new-l.result c.index-region-l.is c.index-new-l.is
    c.deref.result.now c.deref-in-loop-l.result.now c.deref.ensures.value c.deref-in-loop-l.ensures.value in
    let list = c.in_ok-list.list in
    record {
      built = ranging-step f m (plain_region c.loop-l.out.items) l c.loop-l.invariant.built less (lines_of list.items) (plain_region c.push.new.self.items) (c.in_ok-list.ensures.calculus ∙ ap (λ w. w.value) b.same)
          (ap plain_region c.in_ok-push.ensures.items ∙ region-push c.loop-l.out.items list);
      vars = over-push p c.loop-l.out.items c.push.new.self.items list c.in_ok-push.ensures.items c.loop-l.invariant.vars (subst (AllVars (length p.vars.items)) (sym c.in_ok-list.ensures.items) b.vars);
      many = search rules;
    }

pub returns-clause-calculus : goal.returns-clause-calculus
returns-clause-calculus c =
    let p = c.args.plant.now in
    let m = length p.locs.items in
    let xs = plain_region c.args.region.now in
    let ys = plain_region c.args.new.now in
    let past : m ≤ c.loop-l.l = search rules in
    ranging-end (joined_at xs ys) m (plain_region c.loop-l.out.items) c.loop-l.l c.loop-l.invariant.built past ∙ ap (λ w. w.value) (joined-whole m xs ys)
