use Rattle.std.proofs.Common.{◌≡◌, ◌+◌, suc, length, arith, sym, ap, subst, rules}
use Rattle.lhg_plant.specs.Views.{plain_plant}
use Rattle.lhg_union.specs.Regions.{plain_region}
use Rattle.lhg_loss.specs.Records.{one_round}
use Rattle.lhg_quiet.specs.Quiet.{AreQuiet}
use Rattle.lhg_iterate.specs.RoundViews.{plain_round}
use Rattle.lhg_iterate.specs.Stops.{IsStageStop}
use Rattle.lhg_iterate.proofs.CarriedSteps.{still-carried}
use Rattle.lhg_iterate.proofs.StageSteps.{carrying, carried-after, round-part, round-after}
use Rattle.lhg_iterate.proofs.StopSteps.{stage_stop}
use Rattle.lhg_iterate.proofs.stages.next_round.Goals as goal

pub round_past-requires-clause-region : goal.round_past-requires-clause-region
round_past-requires-clause-region c = record { has_lists = record { many = c.requires.stage.many; vars = c.requires.stage.vars }; inside = c.requires.stage.stage_is.region_is.inside }

pub round_past-requires-clause-quiet : goal.round_past-requires-clause-quiet
round_past-requires-clause-quiet c = subst (AreQuiet (plain_plant c.args.plant.now) (plain_region c.args.stage.now.region.pieces.items)) (sym c.deref.ensures.value) c.requires.stage.quiet

pub returns-in-Ok-clause-ok : goal.returns-in-Ok-clause-ok
returns-in-Ok-clause-ok c =
    let s = carrying c.args.stage.now c.round_past.new.carried in
    let i = c.args.rounds in
    let first = c.len.result + 1 in
    let many : c.len.result ≡ length s.losses.items = search rules in
    let first_is = ap (λ k. k + 1) many in
    let number_is : i + 1 ≡ suc i = omega arith in
    record {
      round = round-after c.args.plant.now c.args.budget i s (i + 1) first number_is first_is c.in-Ok.passed.round c.in-Ok.ensures.calculus c.in-Ok.ensures.exact c.in-Ok.ensures.many c.in-Ok.ensures.vars c.in-Ok.ensures.losses_vars c.in-Ok.ensures.few;
      changes = c.in-Ok.ensures.changes;
      marks = c.in-Ok.ensures.marks;
    }

pub returns-in-Err-clause-stop : goal.returns-in-Err-clause-stop
returns-in-Err-clause-stop c =
    let a = plain_plant c.args.plant.now in
    let s = c.args.stage.now in
    let i = c.args.rounds in
    let first = c.len.result + 1 in
    let many : c.len.result ≡ length s.losses.items = search rules in
    let first_is = ap (λ k. k + 1) many in
    let number_is : i + 1 ≡ suc i = omega arith in
    subst (IsStageStop a c.args.budget (suc i)) (sym c.halted.ensures)
    (stage_stop a c.args.budget (suc i) (i + 1) c.in-Err.halt (one_round a (plain_region s.region.pieces.items) (i + 1) first) (λ d. plain_round d.round) number_is (omega arith) c.requires.stage.computed
    (round-part c.args.plant.now c.args.budget i s (i + 1) first number_is first_is c.requires.stage) c.in-Err.ensures.calculus)

pub returns-in-Ok-clause-stage : goal.returns-in-Ok-clause-stage
returns-in-Ok-clause-stage c =
    let p = c.args.plant.now in
    let s = c.args.stage.now in
    carried-after p c.args.budget c.args.rounds s c.round_past.new.carried c.requires.stage (still-carried p s.region.pieces.items c.round_past.new.carried c.in-Ok.ensures.renewed)
