use Rattle.std.proofs.Common.{ℕ, length, sym, ap, ◌∙◌, subst}
use Rattle.std.proofs.lemmas.List.{length-map}
use Rattle.lhg_plant.specs.Controller.{PlainController}
use Rattle.lhg_plant.specs.Region.{PlainRegion, PlainGuards}
use Rattle.lhg_plant.specs.Inside.{AllInside}
use Rattle.lhg_plant.specs.Invariants.{pieces_at}
use Rattle.lhg_plant.specs.Views.{plain_location, plain_switch, plain_plant}
use Rattle.lhg_union.specs.Regions.{plain_region}
use Rattle.lhg_jump.proofs.Answering.{region_over}
use Rattle.lhg_ctl.specs.Written.{AreOfController}
use Rattle.lhg_lazy.specs.Rim.{IsCandidate}
use Rattle.lhg_lazy.specs.RimFacts.{AreCut, AreGuardsInside}
use Rattle.lhg_lazy.proofs.Candidates.{kept-plain, kept-many, kept-over, cut-uncontrollable, cut-inside}
use Rattle.lhg_lazy.proofs.CutStates.{cut-exact, candidate-laws}
use Rattle.lhg_lazy.proofs.cutting.candidate.Goals as goal

pub returns-clause-region : goal.returns-clause-region
returns-clause-region c = kept-plain c.args.region.now.pieces.items c.in_ok-kept.kept.pieces.items c.in_ok-kept.ensures

pub returns-clause-calculus : goal.returns-clause-calculus
returns-clause-calculus c =
    let a = plain_plant c.args.plant.now in
    let region = plain_region c.args.region.now.pieces.items in
    let kept = plain_region c.in_ok-kept.kept.pieces.items in
    let guards = plain_region c.args.guards.now in
    let rim = plain_region c.args.rim.now in
    ap (λ (r : PlainRegion). record { region = r; guards = plain_region c.in_ok-guards.guards.items }) (returns-clause-region c)
    ∙ ap (λ (gs : PlainGuards). record { region = region; guards = gs }) c.in_ok-guards.ensures.calculus

pub returns-clause-guards : goal.returns-clause-guards
returns-clause-guards c =
    let p = c.args.plant.now in
    let a = plain_plant p in
    let n = length p.vars.items in
    let guards = plain_region c.args.guards.now in
    let rim = plain_region c.args.rim.now in
    subst (AreCut a guards rim) (sym c.in_ok-guards.ensures.calculus) (cut-exact a guards rim (region_over n c.args.guards.now c.requires.guards.vars c.tell_lists.ensures) (region_over n c.args.rim.now c.requires.rim.vars c.tell_lists-2.ensures))

pub returns-clause-candidate : goal.returns-clause-candidate
returns-clause-candidate c = λ rim_is.
    let a = plain_plant c.args.plant.now in
    let region = plain_region c.args.region.now.pieces.items in
    let guards = plain_region c.args.guards.now in
    let whole : PlainController = record { region = region; guards = guards } in
    let made = plain_region c.in_ok-guards.guards.items in
    subst (λ (r : PlainRegion). IsCandidate a whole (record { region = r; guards = made })) (sym (returns-clause-region c)) ((candidate-laws a whole).cut (plain_region c.args.rim.now) made rim_is (returns-clause-guards c))

pub returns-clause-inside : goal.returns-clause-inside
returns-clause-inside c =
    let p = c.args.plant.now in
    let a = plain_plant p in
    let n = length p.vars.items in
    let guards = plain_region c.args.guards.now in
    let rim = plain_region c.args.rim.now in
    record {
      region = subst (λ (r : PlainRegion). (l : ℕ) → AllInside a l (pieces_at r l)) (sym (returns-clause-region c)) c.requires.region.inside;
      guards = subst (AreGuardsInside a) (sym c.in_ok-guards.ensures.calculus)
          (cut-inside a guards rim (region_over n c.args.guards.now c.requires.guards.vars c.tell_lists.ensures) (region_over n c.args.rim.now c.requires.rim.vars c.tell_lists-2.ensures) c.requires.guards_inside);
    }

pub returns-clause-controller : goal.returns-clause-controller
returns-clause-controller c = λ ctl.
    let p = c.args.plant.now in
    let a = plain_plant p in
    let n = length p.vars.items in
    let xs = c.args.region.now.pieces.items in
    let ks = c.in_ok-kept.kept.pieces.items in
    let guards = plain_region c.args.guards.now in
    let rim = plain_region c.args.rim.now in
    record {
      locs = kept-many xs ks c.in_ok-kept.ensures ∙ c.requires.region.has_lists.many ∙ sym (length-map p.locs.items plain_location);
      switches = c.in_ok-guards.ensures.lists.many ∙ sym (length-map p.switches.items plain_switch);
      region = kept-over xs ks c.in_ok-kept.ensures n c.requires.region.has_lists.vars;
      guards = c.in_ok-guards.ensures.lists.vars;
      ctl = subst (AreOfController a) (sym c.in_ok-guards.ensures.calculus) (cut-uncontrollable a guards rim ctl);
    }
