use Rattle.std.proofs.Common.{◌≡◌, ◌+◌, ℕ, suc, sym, subst, arith}
use Rattle.lhg_plant.specs.Views.{plain_plant}
use Rattle.lhg_union.specs.Regions.{plain_region}
use Rattle.lhg_forward.specs.Outcomes.{IsForwardStop, stop_of}
use Rattle.lhg_forward.proofs.Turning.{turned, level_stop}
use Rattle.lhg_forward.proofs.forwarding.go_on.Goals as goal

pub next_stage-requires-clause-stage : goal.next_stage-requires-clause-stage
next_stage-requires-clause-stage c = c.requires.stage.lists

pub next_stage-requires-clause-inside : goal.next_stage-requires-clause-inside
next_stage-requires-clause-inside c = c.requires.stage.stage_is.closed_is.region_is.inside

pub returns-in-Ok-clause-ok : goal.returns-in-Ok-clause-ok
returns-in-Ok-clause-ok c =
    turned c.args.plant.now (plain_region c.args.init.now.pieces.items) c.args.budget c.args.level c.args.stage c.requires.stage c.requires.within c.in-Ok.next c.in-Ok.ensures.calculus c.in-Ok.ensures.lists

pub returns-in-Err-clause-stop : goal.returns-in-Err-clause-stop
returns-in-Err-clause-stop c =
    let a = plain_plant c.args.plant.now in
    let init = plain_region c.args.init.now.pieces.items in
    let next : suc c.args.level ≡ c.args.level + 1 = omega arith in
    subst (IsForwardStop a init c.args.budget) (sym c.halted.ensures)
    (subst (λ (k : ℕ). IsForwardStop a init c.args.budget (stop_of c.in-Err.halt k)) next
    (level_stop c.args.plant.now init c.args.budget c.args.level c.args.stage c.requires.stage c.requires.within c.in-Err.halt c.in-Err.ensures.calculus))
