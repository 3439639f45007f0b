use Rattle.std.proofs.Common.{◌⊎◌, inl, inr, sym, ◌∙◌}
use Rattle.std.proofs.lemmas.List.{length-map}
use Rattle.lhg_plant.specs.Controller.{PlainController}
use Rattle.lhg_plant.specs.Views.{plain_plant, plain_location, plain_switch}
use Rattle.lhg_union.specs.Regions.{plain_region}
use Rattle.lhg_loss.specs.Views.{plain_losses}
use Rattle.lhg_cli.specs.LazyAnswer.{IsTried, IsTriedText}
use Rattle.lhg_cli.specs.PlantAnswer.{IsStopText}
use Rattle.lhg_cli.specs.declared.solving.Answer.{Answer}
use Rattle.lhg_cli.proofs.AnswerSteps.{ok_by}
use Rattle.lhg_cli.proofs.lazing.lazied.Goals as goal

pub tried-requires-clause-controller : goal.tried-requires-clause-controller
tried-requires-clause-controller c =
    let s = c.in-Ok.found in
    let e = c.in-Ok.ensures in
    let p = c.args.plant.now in
    record {
      locs = e.many ∙ sym (length-map p.locs.items plain_location);
      switches = e.guards_many ∙ sym (length-map p.switches.items plain_switch);
      region = e.vars;
      guards = e.guards_vars;
      ctl = ((c.law_solved_check.ensures (plain_plant p)).of_solution c.args.budget s.rounds (plain_region s.region.pieces.items) (plain_region s.guards.items) (plain_losses s.losses.items) p.proper e.solved.region_is e.solution).uncontrollable;
    }

pub tried-requires-clause-inside : goal.tried-requires-clause-inside
tried-requires-clause-inside c =
    let s = c.in-Ok.found in
    let e = c.in-Ok.ensures in
    let p = c.args.plant.now in
    let given = (c.law_solved_check.ensures (plain_plant p)).of_solution c.args.budget s.rounds (plain_region s.region.pieces.items) (plain_region s.guards.items) (plain_losses s.losses.items) p.proper e.solved.region_is e.solution in
    record { region = given.region_is.inside; guards = given.guards_inside }

pub tried-requires-clause-valid : goal.tried-requires-clause-valid
tried-requires-clause-valid c = c.in-Ok.ensures.solved.solution.valid

pub returns-in-Ok : goal.returns-in-Ok
returns-in-Ok c =
    let a = plain_plant c.args.plant.now in
    let n = c.args.budget in
    let s = c.in-Ok.found in
    let e = c.in-Ok.ensures in
    let k : PlainController = record { region = plain_region s.region.pieces.items; guards = plain_region s.guards.items } in
    ok_by (λ (x : Answer). IsTried a k x.status x.text.items) (λ (x : Answer). IsTriedText a n x.status x.text.items ⊎ IsStopText a n x.status x.text.items) c.tried.result
    (λ x h. inl (record { controller = k; synthesised = record { rounds = s.rounds; losses = plain_losses s.losses.items; solves = e.solved; calculus = e.solution }; told = h })) c.tried.ensures

pub returns-in-Err : goal.returns-in-Err
returns-in-Err c =
    let a = plain_plant c.args.plant.now in
    let n = c.args.budget in
    ok_by (λ (x : Answer). IsStopText a n x.status x.text.items) (λ (x : Answer). IsTriedText a n x.status x.text.items ⊎ IsStopText a n x.status x.text.items) c.stopped.result (λ x h. inr h) c.stopped.ensures
