use Rattle.std.proofs.Common.{◌≡◌, ◌<◌, ◌≤◌, length, sym, ap, ◌∙◌, rules}
use Rattle.lhg_num.proofs.Halted.{part_halts}
use Rattle.lhg_row.specs.Lists.{is_past_list}
use Rattle.lhg_plant.specs.OutCalculus.{hit_by, hit_pieces}
use Rattle.lhg_plant.specs.Views.{plain_switch, plain_plant}
use Rattle.lhg_union.specs.PolyLists.{lines_of}
use Rattle.lhg_union.specs.Regions.{plain_region}
use Rattle.lhg_jump.specs.HitViews.{plain_hits}
use Rattle.lhg_jump.proofs.Answering.{switch-proper}
use Rattle.lhg_jump.proofs.HitCode.{not_false, gathered, hits-part, hits-value, hits-past}
use Rattle.lhg_jump.proofs.WalkSteps.{numbered-part, numbered-step, numbered-end}
use Rattle.lhg_jump.proofs.hits.hits_at.Goals as goal

pub push_by-requires-clause-switch : goal.push_by-requires-clause-switch
push_by-requires-clause-switch c =
    let p = c.args.plant.now in
    let there : c.loop-e.e < length p.switches.items = search rules in
    switch-proper p c.loop-e.e c.index-switch.result.now there c.index-switch.ensures

pub returns-in_err-push_by-clause-calculus : goal.returns-in_err-push_by-clause-calculus
returns-in_err-push_by-clause-calculus c =
    let p = c.args.plant.now in
    let a = plain_plant p in
    let w = c.index-switch.result.now in
    let invs = plain_region c.args.invs.now in
    let away = plain_region c.args.away.now in
    let region = plain_region c.args.region.now in
    let there : c.loop-e.e < length p.switches.items = search rules in
    let f = hit_by (length p.vars.items) invs away region c.args.l in
    let hits = plain_hits c.loop-e.kept.hits.items in
    part_halts c.from_residual.result c.in_err-push_by.field-0.0 _ (λ v. plain_hits v.items) _ (λ _. plain_hits c.push_by.new.kept.hits.items) c.from_residual.ensures.1 c.in_err-push_by.ensures.calculus
    (hits-part a invs away region c.args.l (f hits (c.loop-e.e, plain_switch w))
    (numbered-part f plain_switch p.switches.items (gathered a invs away region c.args.l) hits c.loop-e.e w c.index-switch.ensures there c.loop-e.invariant.rest))

pub loop-e-preserved : goal.loop-e-preserved
loop-e-preserved c =
    let p = c.args.plant.now in
    let a = plain_plant p in
    let w = c.index-switch.result.now in
    let invs = plain_region c.args.invs.now in
    let away = plain_region c.args.away.now in
    let region = plain_region c.args.region.now in
    let there : c.loop-e.e < length p.switches.items = search rules in
    let f = hit_by (length p.vars.items) invs away region c.args.l in
    let hits = plain_hits c.loop-e.kept.hits.items in
    record {
      rest = numbered-step f plain_switch p.switches.items (gathered a invs away region c.args.l) hits c.loop-e.e w c.index-switch.ensures there c.loop-e.invariant.rest (plain_hits c.push_by.new.kept.hits.items) c.in_ok-push_by.ensures.calculus;
      kept = c.in_ok-push_by.ensures.kept;
    }

pub returns-then-is_within-clause-calculus : goal.returns-then-is_within-clause-calculus
returns-then-is_within-clause-calculus c =
    let p = c.args.plant.now in
    let a = plain_plant p in
    let invs = plain_region c.args.invs.now in
    let away = plain_region c.args.away.now in
    let region = plain_region c.args.region.now in
    let f = hit_by (length p.vars.items) invs away region c.args.l in
    let past : length p.switches.items ≤ c.loop-e.e = search rules in
    numbered-end f plain_switch p.switches.items (gathered a invs away region c.args.l) (plain_hits c.loop-e.kept.hits.items) c.loop-e.e past c.loop-e.invariant.rest ∙ sym (hits-value a invs away region c.args.l)

pub returns-else-is_within-clause-calculus : goal.returns-else-is_within-clause-calculus
returns-else-is_within-clause-calculus c =
    let p = c.args.plant.now in
    let a = plain_plant p in
    let invs = plain_region c.args.invs.now in
    let away = plain_region c.args.away.now in
    let region = plain_region c.args.region.now in
    let f = hit_by (length p.vars.items) invs away region c.args.l in
    let past : length p.switches.items ≤ c.loop-e.e = search rules in
    let hits = numbered-end f plain_switch p.switches.items (gathered a invs away region c.args.l) (plain_hits c.loop-e.kept.hits.items) c.loop-e.e past c.loop-e.invariant.rest in
    let lines : lines_of c.deref.result.now ≡ hit_pieces (gathered a invs away region c.args.l).value = ap lines_of c.deref.ensures.value ∙ c.loop-e.invariant.kept.same ∙ ap hit_pieces hits in
    let fails = sym c.is_within.ensures ∙ c.if-is_within.false in
    hits-past a invs away region c.args.l (ap is_past_list (sym lines) ∙ not_false (is_past_list (lines_of c.deref.result.now)) fails)
