use Rattle.std.proofs.Common.{List, length, map, refl, sym, ap, ◌∙◌, subst}
use Rattle.std.specs.Global.{Vec}
use Rattle.lhg_math.specs.Tests.{AllOf}
use Rattle.lhg_num.specs.FracArithmetic.{frac_arithmetic}
use Rattle.lhg_num.specs.MarkedLaws.{IsPart, part_part}
use Rattle.lhg_num.proofs.Halted.{part_halts}
use Rattle.lhg_row.specs.System.{PlainSystem}
use Rattle.lhg_union.specs.PolyLists.{ArePolys}
use Rattle.lhg_union.specs.Regions.{plain_region}
use Rattle.lhg_plant.specs.Invariants.{invariants}
use Rattle.lhg_plant.specs.OutCalculus.{PlainHit, away, out}
use Rattle.lhg_plant.specs.Views.{plain_plant}
use Rattle.lhg_jump.specs.declared.hits.Hit.{Hit}
use Rattle.lhg_jump.specs.HitViews.{plain_hits}
use Rattle.lhg_jump.specs.PlantLists.{AreListsOf, AreInvariantsOf, AreAwayOf}
use Rattle.lhg_jump.proofs.CallCode.{out-away}
use Rattle.lhg_loss.specs.Records.{counted_round, one_round}
use Rattle.lhg_loss.specs.RoundFacts.{IsExactRound}
use Rattle.lhg_quiet.specs.Outside.{AreStillOutside}
use Rattle.lhg_quiet.specs.Quiet.{outs_from, backs_from}
use Rattle.lhg_iterate.specs.RoundViews.{plain_round}
use Rattle.lhg_iterate.proofs.CarriedSteps.{hits-of-round, back-of-round, hits-there, joined-there, outside-there}
use Rattle.lhg_iterate.proofs.RoundSteps.{region-is, one-out, one-places, one-counted, one-exact, counted-past}
use Rattle.lhg_iterate.proofs.computing.round_past.Goals as goal

-- ---- what is outside
pub renew_away-requires-clause-invs : goal.renew_away-requires-clause-invs
renew_away-requires-clause-invs c = subst (AreInvariantsOf c.args.plant.now) (sym c.deref-2.ensures.value) c.requires.carried.invs

pub renew_away-requires-clause-region : goal.renew_away-requires-clause-region
renew_away-requires-clause-region c = subst (AreListsOf c.args.plant.now) (sym c.deref-3.ensures.value) c.requires.region.has_lists

pub renew_away-requires-clause-away : goal.renew_away-requires-clause-away
renew_away-requires-clause-away c = λ some.
    let p = c.args.plant.now in
    let outside = c.args.carried.now.outs.away.pieces.items in
    subst (λ ms. AreStillOutside p c.deref-3.result.now ms outside) (sym c.deref-4.ensures.value)
    (subst (λ rs. AreStillOutside p rs c.args.carried.now.changed.items outside) (sym c.deref-3.ensures.value) (c.requires.carried.away some))

pub returns-in_err-renew_away-clause-calculus : goal.returns-in_err-renew_away-clause-calculus
returns-in_err-renew_away-clause-calculus c =
    let p = c.args.plant.now in
    let a = plain_plant p in
    let n = length p.vars.items in
    let region = plain_region c.args.region.now.pieces.items in
    let inv = (invariants a).value in
    let whole = one_round a region c.args.number c.args.first in
    let part = part_part whole (out a region) (away n inv region) (one-out a region c.args.number c.args.first) (out-away a region inv refl) in
    part_halts c.from_residual.result c.in_err-renew_away.field-0.0 whole (λ d. plain_round d.round) (away n inv (plain_region c.deref-3.result.now)) (λ _. plain_region c.renew_away.new.away.items)
    c.from_residual.ensures.1 c.in_err-renew_away.ensures.calculus (subst (λ rs. IsPart whole (away n inv (plain_region rs))) (sym c.deref-3.ensures.value) part)

-- ---- the sets of switches
pub returns-in_err-hits-clause-calculus : goal.returns-in_err-hits-clause-calculus
returns-in_err-hits-clause-calculus c =
    let p = c.args.plant.now in
    let region = c.args.region.now.pieces.items in
    let view : Vec Hit → List PlainHit = λ hs. plain_hits hs.items in
    let invs = subst (AreInvariantsOf p) (sym c.deref-5.ensures.value) c.requires.carried.invs in
    let made = subst (λ rs. AreAwayOf p rs c.renew_away.new.away.items) c.deref-3.ensures.value c.in_ok-renew_away.ensures.outside in
    let outside = subst (AreAwayOf p region) (sym c.deref-6.ensures.value) made in
    part_halts c.from_residual-in_err-hits.result c.in_err-hits.field-0.0 _ (λ d. plain_round d.round) _ (λ v. map view v.items) c.from_residual-in_err-hits.ensures.1 c.in_err-hits.ensures.calculus
    (hits-of-round p region c.args.quiet.now (c.law_masked.ensures (plain_plant p)) c.deref-5.result.now c.deref-6.result.now c.deref-7.result.now invs outside c.deref-7.ensures.value c.args.number c.args.first)

pub returns-in_err-backs-clause-calculus : goal.returns-in_err-backs-clause-calculus
returns-in_err-backs-clause-calculus c =
    let p = c.args.plant.now in
    let region = c.args.region.now.pieces.items in
    let invs = subst (AreInvariantsOf p) (sym c.deref-8.ensures.value) c.requires.carried.invs in
    let made = subst (λ rs. AreAwayOf p rs c.renew_away.new.away.items) c.deref-3.ensures.value c.in_ok-renew_away.ensures.outside in
    let outside = subst (AreAwayOf p region) (sym c.deref-10.ensures.value) made in
    part_halts c.from_residual-in_err-backs.result c.in_err-backs.field-0.0 _ (λ d. plain_round d.round) _ (λ v. plain_region v.items) c.from_residual-in_err-backs.ensures.1 c.in_err-backs.ensures.calculus
    (back-of-round p region c.args.quiet.now (c.law_masked.ensures (plain_plant p)) c.deref-8.result.now c.deref-10.result.now c.deref-9.result.now invs outside c.deref-9.ensures.value c.args.number c.args.first)

pub over_places-requires-clause-sets : goal.over_places-requires-clause-sets
over_places-requires-clause-sets c = λ l busy.
    let p = c.args.plant.now in
    let region = c.args.region.now.pieces.items in
    let law = c.law_masked.ensures (plain_plant p) in
    let made = subst (λ rs. AreAwayOf p rs c.renew_away.new.away.items) c.deref-3.ensures.value c.in_ok-renew_away.ensures.outside in
    let hit_invs = subst (AreInvariantsOf p) (sym c.deref-5.ensures.value) c.requires.carried.invs in
    let hit_outside = subst (AreAwayOf p region) (sym c.deref-6.ensures.value) made in
    let back_invs = subst (AreInvariantsOf p) (sym c.deref-8.ensures.value) c.requires.carried.invs in
    let back_outside = subst (AreAwayOf p region) (sym c.deref-10.ensures.value) made in
    record {
      outside = outside-there p region c.args.quiet.now law c.deref-5.result.now c.renew_away.new.away.items region hit_invs made refl l busy;
      hits = hits-there p region c.args.quiet.now law c.deref-5.result.now c.deref-6.result.now c.deref-7.result.now hit_invs hit_outside c.deref-7.ensures.value l busy _ c.in_ok-hits.ensures.calculus;
      joined = joined-there p region c.args.quiet.now law c.deref-8.result.now c.deref-10.result.now c.deref-9.result.now back_invs back_outside c.deref-9.ensures.value l busy _
          (ap plain_region c.deref-11.ensures.value ∙ c.in_ok-backs.ensures.calculus);
    }

-- ---- the round
pub returns-in_err-passed-clause-calculus : goal.returns-in_err-passed-clause-calculus
returns-in_err-passed-clause-calculus c =
    let a = plain_plant c.args.plant.now in
    let region = plain_region c.args.region.now.pieces.items in
    part_halts c.from_residual-in_err-passed.result c.in_err-passed.field-0.0 _ (λ d. plain_round d.round) _ (λ d. plain_round d.round) c.from_residual-in_err-passed.ensures.1 c.in_err-passed.ensures.calculus
    (one-places a region c.args.number c.args.first (outs_from a region) refl (backs_from a region) refl)

pub returns-then-are_within-clause-calculus : goal.returns-then-are_within-clause-calculus
returns-then-are_within-clause-calculus c =
    let a = plain_plant c.args.plant.now in
    let region = plain_region c.args.region.now.pieces.items in
    c.in_ok-passed.ensures.calculus ∙ (one-counted a region c.args.number c.args.first (outs_from a region) refl (backs_from a region) refl).same

pub returns-then-are_within-clause-exact : goal.returns-then-are_within-clause-exact
returns-then-are_within-clause-exact c =
    let p = c.args.plant.now in
    let a = plain_plant p in
    let xs = c.args.region.now.pieces.items in
    let region = plain_region xs in
    let told : Vec PlainSystem → Type 0 = λ ps. ArePolys frac_arithmetic ps.items in
    let polys = subst (AllOf told) c.deref.ensures.value c.tell_region.ensures in
    let shape = region-is p xs c.requires.region polys in
    let value = c.in_ok-passed.ensures.calculus ∙ (one-counted a region c.args.number c.args.first (outs_from a region) refl (backs_from a region) refl).same in
    subst (IsExactRound a region c.args.number c.args.first) (sym value)
    (one-exact a region c.args.number c.args.first (outs_from a region) refl (backs_from a region) refl (c.law_round.ensures a region) shape ((c.law_parts.ensures a p.proper).sets region shape) c.in_ok-passed.ensures.reached)

pub returns-clause-calculus : goal.returns-clause-calculus
returns-clause-calculus c =
    let a = plain_plant c.args.plant.now in
    let region = plain_region c.args.region.now.pieces.items in
    (one-counted a region c.args.number c.args.first (outs_from a region) refl (backs_from a region) refl).pieces
    (ap (λ r. (counted_round c.args.first r).pieces) (sym c.in_ok-passed.ensures.calculus) ∙ counted-past c.args.first c.in_ok-passed.passed.round c.deref-12.result.now c.deref-12.ensures.value (sym c.if-are_within.false ∙ c.are_within.ensures))
