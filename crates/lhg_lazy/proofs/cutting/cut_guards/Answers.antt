use Rattle.std.proofs.Common.{◌<◌, ◌≤◌, length, sym, ap, ◌∙◌, subst, rules, arith}
use Rattle.std.proofs.lemmas.List.{length-map}
use Rattle.lhg_num.specs.MarkedLaws.{IsPart}
use Rattle.lhg_num.proofs.Halted.{part_halts}
use Rattle.lhg_plant.specs.Views.{plain_switch, plain_plant}
use Rattle.lhg_union.specs.PolyLists.{lines_of}
use Rattle.lhg_union.specs.Regions.{plain_region}
use Rattle.lhg_jump.proofs.RegionSteps.{region-push, over-push}
use Rattle.lhg_jump.proofs.RangeSteps.{ranging-part, ranging-step, ranging-end}
use Rattle.lhg_lazy.specs.RimCalculus.{cut_at, cut_guards}
use Rattle.lhg_lazy.proofs.PlaceSteps.{source-below, cut-here}
use Rattle.lhg_lazy.proofs.Wholes.{cut-whole}
use Rattle.lhg_lazy.proofs.cutting.cut_guards.Goals as goal

pub bounds-rim-from : goal.bounds-rim-from
bounds-rim-from c =
    let p = c.args.plant.now in
    let there : c.loop-e.e < length p.switches.items = search rules in
    let from = source-below p c.loop-e.e c.index.result.now there c.index.ensures in
    let many = c.requires.rim.many in
    omega (arith, from, many)

pub meet_lists-requires : goal.meet_lists-requires
meet_lists-requires c =
    let p = c.args.plant.now in
    let there : c.loop-e.e < length p.switches.items = search rules in
    let r = cut-here p c.args.guards.now c.args.rim.now c.loop-e.e c.requires.guards c.requires.rim c.index.result.now there c.index.ensures c.index-guards-e.result c.index-rim-from.result c.index-guards-e.is c.index-rim-from.is
    c.deref.result.now c.deref-in-loop-e.result.now c.deref.ensures.value c.deref-in-loop-e.ensures.value in
    record { vars = length p.vars.items; first = r.guard_vars; second = r.edge_vars }

pub returns-in_err-here-clause-calculus : goal.returns-in_err-here-clause-calculus
returns-in_err-here-clause-calculus c =
    let p = c.args.plant.now in
    let a = plain_plant p in
    let e = c.loop-e.e in
    let guards = plain_region c.args.guards.now in
    let rim = plain_region c.args.rim.now in
    let f = cut_at a guards rim in
    let there : e < length p.switches.items = search rules in
    let in_switches : e < length a.switches = omega (arith, there, length-map p.switches.items plain_switch) in
    let r = cut-here p c.args.guards.now c.args.rim.now e c.requires.guards c.requires.rim c.index.result.now there c.index.ensures c.index-guards-e.result c.index-rim-from.result c.index-guards-e.is c.index-rim-from.is
    c.deref.result.now c.deref-in-loop-e.result.now c.deref.ensures.value c.deref-in-loop-e.ensures.value in
    part_halts c.from_residual-in_err-here.result c.in_err-here.field-0.0 _ (λ v. plain_region v.items) _ (λ v. lines_of v.items) c.from_residual-in_err-here.ensures.1 (c.in_err-here.ensures.calculus (length p.vars.items) r.guard_vars r.edge_vars)
    (subst (IsPart (cut_guards a guards rim)) (sym r.same)
    (subst (λ m. IsPart m (f e)) (cut-whole a guards rim) (ranging-part f (length a.switches) (plain_region c.loop-e.cut.items) e c.loop-e.invariant.built in_switches)))

pub loop-e-preserved : goal.loop-e-preserved
loop-e-preserved c =
    let p = c.args.plant.now in
    let a = plain_plant p in
    let n = length p.vars.items in
    let e = c.loop-e.e in
    let guards = plain_region c.args.guards.now in
    let rim = plain_region c.args.rim.now in
    let f = cut_at a guards rim in
    let there : e < length p.switches.items = search rules in
    let in_switches : e < length a.switches = omega (arith, there, length-map p.switches.items plain_switch) in
    let r = cut-here p c.args.guards.now c.args.rim.now e c.requires.guards c.requires.rim c.index.result.now there c.index.ensures c.index-guards-e.result c.index-rim-from.result c.index-guards-e.is c.index-rim-from.is
    c.deref.result.now c.deref-in-loop-e.result.now c.deref.ensures.value c.deref-in-loop-e.ensures.value in
    let here = c.in_ok-here.here in
    record {
      built = ranging-step f (length a.switches) (plain_region c.loop-e.cut.items) e c.loop-e.invariant.built in_switches (lines_of here.items) (plain_region c.push.new.self.items)
          (c.in_ok-here.ensures.calculus n r.guard_vars r.edge_vars ∙ ap (λ m. m.value) r.same) (ap plain_region c.in_ok-push.ensures.items ∙ region-push c.loop-e.cut.items here);
      vars = over-push p c.loop-e.cut.items c.push.new.self.items here c.in_ok-push.ensures.items c.loop-e.invariant.vars (c.in_ok-here.ensures.vars n r.guard_vars r.edge_vars);
      many = search rules;
    }

pub returns-clause-calculus : goal.returns-clause-calculus
returns-clause-calculus c =
    let p = c.args.plant.now in
    let a = plain_plant p in
    let guards = plain_region c.args.guards.now in
    let rim = plain_region c.args.rim.now in
    let f = cut_at a guards rim in
    let past : length p.switches.items ≤ c.loop-e.e = search rules in
    let all : length a.switches ≤ c.loop-e.e = omega (arith, past, length-map p.switches.items plain_switch) in
    ranging-end f (length a.switches) (plain_region c.loop-e.cut.items) c.loop-e.e c.loop-e.invariant.built all ∙ ap (λ m. m.value) (cut-whole a guards rim)

pub returns-clause-lists : goal.returns-clause-lists
returns-clause-lists c = record { many = search rules; vars = c.loop-e.invariant.vars }
