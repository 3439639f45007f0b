use Rattle.std.proofs.Common.{◌<◌, List, ◌∷◌, [], length, map, sym, ap, ◌∙◌, subst, rules, arith}
use Rattle.std.specs.Global.{Vec}
use Rattle.std.proofs.lemmas.List.{length-map, map_push}
use Rattle.lhg_math.specs.Tests.{AllOf}
use Rattle.lhg_num.proofs.Halted.{part_halts}
use Rattle.lhg_row.specs.Members.{all-append}
use Rattle.lhg_plant.specs.OutCalculus.{PlainHit}
use Rattle.lhg_plant.specs.Views.{plain_location, plain_plant}
use Rattle.lhg_union.specs.Regions.{plain_region}
use Rattle.lhg_jump.specs.declared.hits.Hit.{Hit}
use Rattle.lhg_jump.specs.HitViews.{plain_hits, HasVars}
use Rattle.lhg_jump.proofs.RangeSteps.{ranging-part, ranging-step}
use Rattle.lhg_quiet.specs.Masked.{busy_hits_at}
use Rattle.lhg_quiet.proofs.sets.busy_hits.Goals as goal

pub returns-in_err-here-clause-calculus : goal.returns-in_err-here-clause-calculus
returns-in_err-here-clause-calculus c =
    let p = c.args.plant.now in
    let f = busy_hits_at (plain_plant p) c.args.quiet.now (plain_region c.args.invs.now) (plain_region c.args.away.now) (plain_region c.args.region.now) in
    let view : Vec Hit → List PlainHit = λ hs. plain_hits hs.items in
    let there : c.loop-l.l < length p.locs.items = search rules in
    let in_locs : c.loop-l.l < length (plain_plant p).locs = omega (arith, there, length-map p.locs.items plain_location) in
    part_halts c.from_residual-in_err-here.result c.in_err-here.field-0.0 _ (λ v. map view v.items) _ (λ v. plain_hits v.items) c.from_residual-in_err-here.ensures.1 c.in_err-here.ensures.calculus
    (ranging-part f (length (plain_plant p).locs) (map view c.loop-l.hits.items) c.loop-l.l c.loop-l.invariant.built in_locs)

pub loop-l-preserved : goal.loop-l-preserved
loop-l-preserved c =
    let p = c.args.plant.now in
    let f = busy_hits_at (plain_plant p) c.args.quiet.now (plain_region c.args.invs.now) (plain_region c.args.away.now) (plain_region c.args.region.now) in
    let view : Vec Hit → List PlainHit = λ hs. plain_hits hs.items in
    let wide : Vec Hit → Type 0 = λ hs. AllOf (HasVars (length p.vars.items)) hs.items in
    let there : c.loop-l.l < length p.locs.items = search rules in
    let in_locs : c.loop-l.l < length (plain_plant p).locs = omega (arith, there, length-map p.locs.items plain_location) in
    let here = c.in_ok-here.here in
    record {
      built = ranging-step f (length (plain_plant p).locs) (map view c.loop-l.hits.items) c.loop-l.l c.loop-l.invariant.built in_locs (plain_hits here.items) (map view c.push.new.self.items) c.in_ok-here.ensures.calculus
          (ap (map view) c.in_ok-push.ensures.items ∙ map_push view c.loop-l.hits.items here);
      vars = subst (AllOf wide) (sym c.in_ok-push.ensures.items) (all-append wide c.loop-l.hits.items (here ∷ []) c.loop-l.invariant.vars (c.in_ok-here.ensures.vars, tt));
      many = search rules;
    }

pub returns-clause-lists : goal.returns-clause-lists
returns-clause-lists c = record { many = search rules; vars = c.loop-l.invariant.vars }
