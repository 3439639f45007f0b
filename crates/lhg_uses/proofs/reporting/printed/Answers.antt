use Rattle.std.proofs.Common.{◌≡◌, ℕ, List, length, sym, subst, ap, ◌∙◌}
use Rattle.std.specs.Prelude.{Contains}
use Rattle.std.proofs.lemmas.List.{length-map}
use Rattle.lhg_math.specs.Tests.{AllOf}
use Rattle.lhg_plant.specs.Controller.{PlainController}
use Rattle.lhg_plant.specs.Loss.{PlainLoss}
use Rattle.lhg_plant.specs.Sound.{IsSoundLoss}
use Rattle.lhg_plant.specs.Views.{plain_plant, plain_location, plain_switch}
use Rattle.lhg_union.specs.Regions.{plain_region}
use Rattle.lhg_loss.specs.Views.{plain_losses, AreOver, AllHaveVars}
use Rattle.lhg_loss.specs.declared.losses.Loss.{Loss}
use Rattle.lhg_text.specs.ReportConditions.{IsPlacedLoss}
use Rattle.lhg_text.specs.ReportLaws.{IsWrittenReport, SameReport}
use Rattle.lhg_text.specs.ReportText.{report_text}
use Rattle.lhg_uses.proofs.reporting.printed.Goals as goal

pub tell_places-requires-clause-vars : goal.tell_places-requires-clause-vars
tell_places-requires-clause-vars c = subst (AllHaveVars (length c.args.plant.now.vars.items)) (sym c.deref.ensures.value) c.requires.losses_vars

pub tell_places-requires-clause-sound : goal.tell_places-requires-clause-sound
tell_places-requires-clause-sound c =
    let a = plain_plant c.args.plant.now in
    subst (λ (rs : List Loss). (loss : PlainLoss) → Contains (plain_losses rs) loss → IsSoundLoss a (plain_losses rs) loss) (sym c.deref.ensures.value) c.requires.solved.sound

pub print_report-requires-clause-controller : goal.print_report-requires-clause-controller
print_report-requires-clause-controller c =
    let s = c.args.found in
    let p = c.args.plant.now in
    record {
      locs = c.requires.many ∙ sym (length-map p.locs.items plain_location);
      switches = c.requires.guards_many ∙ sym (length-map p.switches.items plain_switch);
      region = c.requires.vars;
      guards = c.requires.guards_vars;
      ctl = ((c.law_solved_check.ensures (plain_plant p)).of_solution c.args.budget s.rounds (plain_region s.region.pieces.items) (plain_region s.guards.items) (plain_losses s.losses.items) p.proper c.requires.solved.region_is c.requires.solution).uncontrollable;
    }

pub print_report-requires-clause-places : goal.print_report-requires-clause-places
print_report-requires-clause-places c =
    let a = plain_plant c.args.plant.now in
    subst (λ (rs : List Loss). AllOf (IsPlacedLoss a) (plain_losses rs)) (c.deref.ensures.value ∙ sym c.deref-2.ensures.value) c.tell_places.ensures.places

pub print_report-requires-clause-vars : goal.print_report-requires-clause-vars
print_report-requires-clause-vars c =
    let n = length c.args.plant.now.vars.items in
    subst (λ (rs : List Loss). AreOver n rs) (c.deref.ensures.value ∙ sym c.deref-2.ensures.value) c.tell_places.ensures.vars

pub returns-in-Ok-clause-report : goal.returns-in-Ok-clause-report
returns-in-Ok-clause-report c =
    let a = plain_plant c.args.plant.now in
    let s = c.args.found in
    let e = c.requires.solved in
    let text = c.in-Ok.text.items in
    let controller : PlainController = record { region = plain_region s.region.pieces.items; guards = plain_region s.guards.items } in
    let same = c.deref-2.ensures.value in
    record {
      controller = controller;
      rounds = s.rounds;
      losses = plain_losses s.losses.items;
      solves = e.solution;
      guards = e.guards;
      within = e.within;
      printed = c.in-Ok.ensures.text ∙ ap (λ (rs : List Loss). report_text a s.rounds controller (plain_losses rs)) same;
      one_reading = subst (λ (rs : List Loss). (r : ℕ) (k : PlainController) (ls : List PlainLoss) → IsWrittenReport a r k ls → report_text a r k ls ≡ text → SameReport s.rounds controller (plain_losses rs) r k ls) same c.in-Ok.ensures.one_reading;
    }
