use Rattle.std.proofs.Common.{◌≡◌, ◌<◌, ◌≤◌, length, sym, ap, ◌∙◌, subst, rules, arith}
use Rattle.lhg_num.specs.MarkedLaws.{IsPart}
use Rattle.lhg_num.proofs.Halted.{part_halts}
use Rattle.lhg_plant.specs.OutCalculus.{away_at, away}
use Rattle.lhg_union.specs.PolyLists.{lines_of}
use Rattle.lhg_union.specs.Regions.{plain_region}
use Rattle.lhg_jump.proofs.AwayCode.{away-whole, less-at}
use Rattle.lhg_jump.proofs.RegionSteps.{region-push, over-push}
use Rattle.lhg_jump.proofs.RangeSteps.{ranging-part, ranging-step, ranging-end}
use Rattle.lhg_jump.proofs.outs.away_of.Goals as goal

pub minus-requires : goal.minus-requires
minus-requires c =
    let n = length c.args.plant.now.vars.items in
    let l = c.loop-l.l in
    let in_invs : l < length c.args.invs.now = search rules in
    let below : l < length c.args.plant.now.locs.items = omega (arith, in_invs, c.requires.invs.many) in
    let r = less-at c.args.plant.now c.args.invs.now c.args.region.now l c.requires.invs c.requires.region below c.index-invs-l.result c.index-region-l.result c.index-invs-l.is c.index-region-l.is
    c.deref.result.now c.deref-in-loop-l.result.now c.deref.ensures.value c.deref-in-loop-l.ensures.value in
    record { vars = n; first = r.first; second = r.second }

pub returns-in_err-outside-clause-calculus : goal.returns-in_err-outside-clause-calculus
returns-in_err-outside-clause-calculus c =
    let n = length c.args.plant.now.vars.items in
    let l = c.loop-l.l in
    let invs = c.args.invs.now in
    let region = c.args.region.now in
    let f = away_at n (plain_region invs) (plain_region region) in
    let in_invs : l < length invs = search rules in
    let below : l < length c.args.plant.now.locs.items = omega (arith, in_invs, c.requires.invs.many) in
    let r = less-at c.args.plant.now c.args.invs.now c.args.region.now l c.requires.invs c.requires.region below c.index-invs-l.result c.index-region-l.result c.index-invs-l.is c.index-region-l.is
    c.deref.result.now c.deref-in-loop-l.result.now c.deref.ensures.value c.deref-in-loop-l.ensures.value in
    part_halts c.from_residual-in_err-outside.result c.in_err-outside.field-0.0 _ (λ v. plain_region v.items) _ (λ v. lines_of v.items) c.from_residual-in_err-outside.ensures.1 (c.in_err-outside.ensures.calculus n r.first r.second)
    (subst (IsPart (away n (plain_region invs) (plain_region region))) (sym r.same)
    (subst (λ m. IsPart m (f l)) (away-whole n invs region) (ranging-part f (length invs) (plain_region c.loop-l.away.items) l c.loop-l.invariant.built in_invs)))

pub loop-l-preserved : goal.loop-l-preserved
loop-l-preserved c =
    let n = length c.args.plant.now.vars.items in
    let l = c.loop-l.l in
    let invs = c.args.invs.now in
    let region = c.args.region.now in
    let f = away_at n (plain_region invs) (plain_region region) in
    let in_invs : l < length invs = search rules in
    let below : l < length c.args.plant.now.locs.items = omega (arith, in_invs, c.requires.invs.many) in
    let r = less-at c.args.plant.now c.args.invs.now c.args.region.now l c.requires.invs c.requires.region below c.index-invs-l.result c.index-region-l.result c.index-invs-l.is c.index-region-l.is
    c.deref.result.now c.deref-in-loop-l.result.now c.deref.ensures.value c.deref-in-loop-l.ensures.value in
    let outside = c.in_ok-outside.outside in
    record {
      built = ranging-step f (length invs) (plain_region c.loop-l.away.items) l c.loop-l.invariant.built in_invs (lines_of outside.items) (plain_region c.push.new.self.items)
          (c.in_ok-outside.ensures.calculus n r.first r.second ∙ ap (λ m. m.value) r.same) (ap plain_region c.in_ok-push.ensures.items ∙ region-push c.loop-l.away.items outside);
      vars = over-push c.args.plant.now c.loop-l.away.items c.push.new.self.items outside c.in_ok-push.ensures.items c.loop-l.invariant.vars (c.in_ok-outside.ensures.vars n r.first r.second);
      many = search rules;
    }

pub returns-clause-calculus : goal.returns-clause-calculus
returns-clause-calculus c =
    let n = length c.args.plant.now.vars.items in
    let invs = c.args.invs.now in
    let region = c.args.region.now in
    let f = away_at n (plain_region invs) (plain_region region) in
    let past : length invs ≤ c.loop-l.l = search rules in
    ranging-end f (length invs) (plain_region c.loop-l.away.items) c.loop-l.l c.loop-l.invariant.built past ∙ ap (λ m. m.value) (away-whole n invs region)

pub returns-clause-lists : goal.returns-clause-lists
returns-clause-lists c =
    let past : length c.args.invs.now ≤ c.loop-l.l = search rules in
    let all : c.loop-l.l ≤ length c.args.invs.now = search rules in
    let built : length c.loop-l.away.items ≡ length c.args.plant.now.locs.items = omega (arith, past, all, c.loop-l.invariant.many, c.requires.invs.many) in
    record { many = built; vars = c.loop-l.invariant.vars }
