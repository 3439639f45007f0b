use Rattle.std.proofs.Common.{arith, refl, sym, subst}
use Rattle.lhg_num.specs.MarkedLaws.{part_part}
use Rattle.lhg_plant.specs.Invariants.{invariants}
use Rattle.lhg_plant.specs.SafeRegion.{safe_region}
use Rattle.lhg_plant.specs.Views.{plain_plant}
use Rattle.lhg_union.specs.Regions.{plain_region}
use Rattle.lhg_iterate.specs.Stops.{IsStageStop}
use Rattle.lhg_iterate.proofs.CarriedSteps.{safe-invariants}
use Rattle.lhg_iterate.proofs.StageSteps.{begins}
use Rattle.lhg_iterate.proofs.StopSteps.{stage-safe, stage_stop_rows}
use Rattle.lhg_iterate.proofs.stages.first_stage.Goals as goal

pub returns-in-Ok-first_carried-clause-ok : goal.returns-in-Ok-first_carried-clause-ok
returns-in-Ok-first_carried-clause-ok c =
    let a = plain_plant c.args.plant.now in
    begins c.args.plant.now c.args.budget _ (c.law_stages.ensures a) (c.law_work.ensures.steps a) c.new.ensures.items c.in-Ok.ensures.calculus c.in-Ok.ensures.region.has_lists.many c.in-Ok.ensures.region.has_lists.vars refl
    (c.in_ok-quiet.ensures (plain_region c.in-Ok.region.pieces.items)) (c.in-Ok-first_carried.ensures.carried c.in-Ok.region.pieces.items)

pub returns-in-Err-clause-stop : goal.returns-in-Err-clause-stop
returns-in-Err-clause-stop c =
    let a = plain_plant c.args.plant.now in
    subst (IsStageStop a c.args.budget 0) (sym c.halted.ensures)
    (stage_stop_rows a c.args.budget 0 0 c.in-Err.halt (safe_region a) (λ r. plain_region r.pieces.items) refl (omega arith) (c.law_work.ensures.steps a).computed_first.0 (stage-safe a) c.in-Err.ensures.calculus)

pub returns-in-Err-first_carried-clause-stop : goal.returns-in-Err-first_carried-clause-stop
returns-in-Err-first_carried-clause-stop c =
    let a = plain_plant c.args.plant.now in
    subst (IsStageStop a c.args.budget 0) (sym c.halted-in-Err-first_carried.ensures)
    (stage_stop_rows a c.args.budget 0 0 c.in-Err-first_carried.halt (invariants a) (λ k. plain_region k.invs.items) refl (omega arith) (c.law_work.ensures.steps a).computed_first.0
    (part_part _ _ _ (stage-safe a) (safe-invariants a)) c.in-Err-first_carried.ensures.calculus)
