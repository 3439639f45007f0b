use Rattle.std.proofs.Common.{◌≡◌, ◌<◌, length, ap, ◌∙◌, subst, rules, arith}
use Rattle.lhg_num.specs.Marked.{walk}
use Rattle.lhg_num.specs.Halting.{IsHaltedBy}
use Rattle.lhg_plant.specs.Invariants.{pieces_at}
use Rattle.lhg_plant.specs.OutCalculus.{hit_into}
use Rattle.lhg_plant.specs.Views.{plain_switch}
use Rattle.lhg_union.specs.PolyLists.{lines_of}
use Rattle.lhg_union.specs.Regions.{plain_region}
use Rattle.lhg_jump.specs.HitViews.{plain_hits}
use Rattle.lhg_jump.proofs.HitCode.{by-env}
use Rattle.lhg_jump.proofs.RangeSteps.{lines-at}
use Rattle.lhg_jump.proofs.hits.push_by.Goals as goal

pub returns-in-Env-clause-calculus : goal.returns-in-Env-clause-calculus
returns-in-Env-clause-calculus c =
    let n = length c.args.plant.now.vars.items in
    let w = c.args.switch.now in
    let e = c.args.e in
    let l = c.args.l in
    let hits = plain_hits c.args.kept.now.hits.items in
    let many : c.len.result ≡ n = search rules in
    let from : w.from ≡ l = search rules in
    let in_invs : l < length c.args.invs.now = omega (arith, c.requires.there, c.requires.invs.many) in
    let in_region : l < length c.args.region.now = omega (arith, c.requires.there, c.requires.region.many) in
    let in_away : w.to < length c.args.away.now = omega (arith, c.requires.switch.to, c.requires.away.many) in
    let invs = ap lines_of c.deref-in-Env.ensures.value ∙ lines-at c.args.invs.now l c.index-invs-l.result c.index-invs-l.is in_invs in
    let here = ap lines_of c.deref-in-Env-2.ensures.value ∙ lines-at c.args.region.now l c.index-region-l.result c.index-region-l.is in_region in
    let outside = ap lines_of c.deref-in-Env-3.ensures.value ∙ lines-at c.args.away.now w.to c.index-away-switch.result c.index-away-switch.is in_away in
    let same =
    ap (λ k. walk (hit_into k (lines_of c.deref-in-Env.result.now) (lines_of c.deref-in-Env-2.result.now) e c.deref.result.now) hits (lines_of c.deref-in-Env-3.result.now)) many
    ∙ ap (λ is. walk (hit_into n is (lines_of c.deref-in-Env-2.result.now) e c.deref.result.now) hits (lines_of c.deref-in-Env-3.result.now)) invs
    ∙ ap (λ hs. walk (hit_into n (pieces_at (plain_region c.args.invs.now) l) hs e c.deref.result.now) hits (lines_of c.deref-in-Env-3.result.now)) here
    ∙ ap (λ js. walk (hit_into n (pieces_at (plain_region c.args.invs.now) l) (pieces_at (plain_region c.args.region.now) l) e js) hits (lines_of c.deref-in-Env-3.result.now)) c.deref.ensures.value
    ∙ ap (λ os. walk (hit_into n (pieces_at (plain_region c.args.invs.now) l) (pieces_at (plain_region c.args.region.now) l) e w.jump.items) hits os) outside
    ∙ by-env n (plain_region c.args.invs.now) (plain_region c.args.away.now) (plain_region c.args.region.now) l hits e (plain_switch w) from c.in-Env.is in
    subst (λ m. IsHaltedBy c.push_outside.result m (λ _. plain_hits c.push_outside.new.kept.hits.items)) same c.push_outside.ensures.calculus
