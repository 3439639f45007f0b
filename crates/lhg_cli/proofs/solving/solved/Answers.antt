use Rattle.std.proofs.Common.{◌≡◌, ℕ, List, length, sym, subst, ap, ◌∙◌}
use Rattle.std.specs.Prelude.{Contains}
use Rattle.std.proofs.lemmas.List.{length-map}
use Rattle.lhg_math.specs.Tests.{AllOf}
use Rattle.lhg_plant.specs.Controller.{PlainController}
use Rattle.lhg_plant.specs.Loss.{PlainLoss}
use Rattle.lhg_plant.specs.Sound.{IsSoundLoss}
use Rattle.lhg_plant.specs.Views.{plain_plant, plain_location, plain_switch}
use Rattle.lhg_union.specs.Regions.{plain_region}
use Rattle.lhg_loss.specs.Views.{plain_losses, AreOver, AllHaveVars}
use Rattle.lhg_loss.specs.declared.losses.Loss.{Loss}
use Rattle.lhg_text.specs.ReportConditions.{IsPlacedLoss}
use Rattle.lhg_text.specs.ReportLaws.{IsWrittenReport, SameReport}
use Rattle.lhg_text.specs.ReportText.{report_text}
use Rattle.lhg_cli.proofs.solving.solved.Goals as goal

pub report-requires-clause-controller : goal.report-requires-clause-controller
report-requires-clause-controller c =
    let s = c.in-Ok.found in
    let e = c.in-Ok.ensures in
    let p = c.args.plant.now in
    record {
      locs = e.many ∙ sym (length-map p.locs.items plain_location);
      switches = e.guards_many ∙ sym (length-map p.switches.items plain_switch);
      region = e.vars;
      guards = e.guards_vars;
      ctl = ((c.law_solved_check.ensures (plain_plant p)).of_solution c.args.budget s.rounds (plain_region s.region.pieces.items) (plain_region s.guards.items) (plain_losses s.losses.items) p.proper e.solved.region_is e.solution).uncontrollable;
    }

pub tell_places-requires-clause-vars : goal.tell_places-requires-clause-vars
tell_places-requires-clause-vars c = subst (AllHaveVars (length c.args.plant.now.vars.items)) (sym c.deref.ensures.value) c.in-Ok.ensures.losses_vars

pub tell_places-requires-clause-sound : goal.tell_places-requires-clause-sound
tell_places-requires-clause-sound c =
    let a = plain_plant c.args.plant.now in
    subst (λ (rs : List Loss). (loss : PlainLoss) → Contains (plain_losses rs) loss → IsSoundLoss a (plain_losses rs) loss) (sym c.deref.ensures.value) c.in-Ok.ensures.solved.sound

pub report-requires-clause-places : goal.report-requires-clause-places
report-requires-clause-places c =
    let a = plain_plant c.args.plant.now in
    subst (λ (rs : List Loss). AllOf (IsPlacedLoss a) (plain_losses rs)) (c.deref.ensures.value ∙ sym c.deref-in-Ok.ensures.value) c.tell_places.ensures.places

pub report-requires-clause-vars : goal.report-requires-clause-vars
report-requires-clause-vars c =
    let n = length c.args.plant.now.vars.items in
    subst (λ (rs : List Loss). AreOver n rs) (c.deref.ensures.value ∙ sym c.deref-in-Ok.ensures.value) c.tell_places.ensures.vars

pub returns-in_ok-text-in-Ok : goal.returns-in_ok-text-in-Ok
returns-in_ok-text-in-Ok c =
    let a = plain_plant c.args.plant.now in
    let s = c.in-Ok.found in
    let e = c.in-Ok.ensures in
    let text = c.in_ok-text-in-Ok.text.items in
    let controller : PlainController = record { region = plain_region s.region.pieces.items; guards = plain_region s.guards.items } in
    let same = c.deref-in-Ok.ensures.value in
    record {
      controller = controller;
      rounds = s.rounds;
      losses = plain_losses s.losses.items;
      printed = c.in_ok-text-in-Ok.ensures.text ∙ ap (λ (rs : List Loss). report_text a s.rounds controller (plain_losses rs)) same;
      one_reading = subst (λ (rs : List Loss). (r : ℕ) (k : PlainController) (ls : List PlainLoss) → IsWrittenReport a r k ls → report_text a r k ls ≡ text → SameReport s.rounds controller (plain_losses rs) r k ls) same c.in_ok-text-in-Ok.ensures.one_reading;
      solves = e.solved;
      calculus = e.solution;
    }
