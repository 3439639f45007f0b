use Rattle.std.proofs.Common.{◌<◌, ◌≤◌, length, sym, ap, ◌∙◌, subst, rules, arith}
use Rattle.std.proofs.lemmas.List.{length-map}
use Rattle.lhg_num.specs.MarkedLaws.{IsPart}
use Rattle.lhg_num.proofs.Halted.{part_halts}
use Rattle.lhg_plant.specs.Views.{plain_location, plain_plant}
use Rattle.lhg_union.specs.PolyLists.{lines_of}
use Rattle.lhg_union.specs.Regions.{plain_region}
use Rattle.lhg_jump.proofs.RegionSteps.{region-push, over-push}
use Rattle.lhg_jump.proofs.RangeSteps.{ranging-part, ranging-step, ranging-end}
use Rattle.lhg_lazy.specs.RimCalculus.{rim_at, rim}
use Rattle.lhg_lazy.proofs.PlaceSteps.{rim-here}
use Rattle.lhg_lazy.proofs.Wholes.{rim-whole}
use Rattle.lhg_lazy.proofs.rims.rims_of.Goals as goal

pub rim_of-requires-clause-here : goal.rim_of-requires-clause-here
rim_of-requires-clause-here c =
    let p = c.args.plant.now in
    let below : c.loop-l.l < length p.locs.items = search rules in
    (rim-here p c.args.region.now c.args.away.now c.loop-l.l c.requires.region c.requires.away below c.index-region-l.result c.index-away-l.result c.index-region-l.is c.index-away-l.is
    c.deref.result.now c.deref-in-loop-l.result.now c.deref.ensures.value c.deref-in-loop-l.ensures.value).here_vars

pub rim_of-requires-clause-outside : goal.rim_of-requires-clause-outside
rim_of-requires-clause-outside c =
    let p = c.args.plant.now in
    let below : c.loop-l.l < length p.locs.items = search rules in
    (rim-here p c.args.region.now c.args.away.now c.loop-l.l c.requires.region c.requires.away below c.index-region-l.result c.index-away-l.result c.index-region-l.is c.index-away-l.is
    c.deref.result.now c.deref-in-loop-l.result.now c.deref.ensures.value c.deref-in-loop-l.ensures.value).outside_vars

pub returns-in_err-here-clause-calculus : goal.returns-in_err-here-clause-calculus
returns-in_err-here-clause-calculus c =
    let p = c.args.plant.now in
    let a = plain_plant p in
    let l = c.loop-l.l in
    let region = plain_region c.args.region.now in
    let away = plain_region c.args.away.now in
    let f = rim_at a region away in
    let below : l < length p.locs.items = search rules in
    let in_locs : l < length a.locs = omega (arith, below, length-map p.locs.items plain_location) in
    let r = rim-here p c.args.region.now c.args.away.now l c.requires.region c.requires.away below c.index-region-l.result c.index-away-l.result c.index-region-l.is c.index-away-l.is
    c.deref.result.now c.deref-in-loop-l.result.now c.deref.ensures.value c.deref-in-loop-l.ensures.value in
    part_halts c.from_residual-in_err-here.result c.in_err-here.field-0.0 _ (λ v. plain_region v.items) _ (λ v. lines_of v.items) c.from_residual-in_err-here.ensures.1 c.in_err-here.ensures.calculus
    (subst (IsPart (rim a region away)) (sym r.same) (subst (λ m. IsPart m (f l)) (rim-whole a region away) (ranging-part f (length a.locs) (plain_region c.loop-l.rims.items) l c.loop-l.invariant.built in_locs)))

pub loop-l-preserved : goal.loop-l-preserved
loop-l-preserved c =
    let p = c.args.plant.now in
    let a = plain_plant p in
    let l = c.loop-l.l in
    let region = plain_region c.args.region.now in
    let away = plain_region c.args.away.now in
    let f = rim_at a region away in
    let below : l < length p.locs.items = search rules in
    let in_locs : l < length a.locs = omega (arith, below, length-map p.locs.items plain_location) in
    let r = rim-here p c.args.region.now c.args.away.now l c.requires.region c.requires.away below c.index-region-l.result c.index-away-l.result c.index-region-l.is c.index-away-l.is
    c.deref.result.now c.deref-in-loop-l.result.now c.deref.ensures.value c.deref-in-loop-l.ensures.value in
    let here = c.in_ok-here.here in
    record {
      built = ranging-step f (length a.locs) (plain_region c.loop-l.rims.items) l c.loop-l.invariant.built in_locs (lines_of here.items) (plain_region c.push.new.self.items)
          (c.in_ok-here.ensures.calculus ∙ ap (λ m. m.value) r.same) (ap plain_region c.in_ok-push.ensures.items ∙ region-push c.loop-l.rims.items here);
      vars = over-push p c.loop-l.rims.items c.push.new.self.items here c.in_ok-push.ensures.items c.loop-l.invariant.vars c.in_ok-here.ensures.vars;
      many = search rules;
    }

pub returns-clause-calculus : goal.returns-clause-calculus
returns-clause-calculus c =
    let p = c.args.plant.now in
    let a = plain_plant p in
    let region = plain_region c.args.region.now in
    let away = plain_region c.args.away.now in
    let f = rim_at a region away in
    let past : length p.locs.items ≤ c.loop-l.l = search rules in
    let all : length a.locs ≤ c.loop-l.l = omega (arith, past, length-map p.locs.items plain_location) in
    ranging-end f (length a.locs) (plain_region c.loop-l.rims.items) c.loop-l.l c.loop-l.invariant.built all ∙ ap (λ m. m.value) (rim-whole a region away)

pub returns-clause-lists : goal.returns-clause-lists
returns-clause-lists c = record { many = search rules; vars = c.loop-l.invariant.vars }
