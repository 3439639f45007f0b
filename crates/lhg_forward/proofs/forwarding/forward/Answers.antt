use Rattle.std.proofs.Common.{◌≡◌, ◌+◌, ℕ, suc, subst, arith}
use Rattle.lhg_plant.specs.Views.{plain_plant}
use Rattle.lhg_union.specs.Regions.{plain_region}
use Rattle.lhg_forward.specs.Outcomes.{IsAfter}
use Rattle.lhg_forward.specs.StageFacts.{IsForward}
use Rattle.lhg_forward.proofs.StopCode.{none_is, some_is}
use Rattle.lhg_forward.proofs.forwarding.forward.Goals as goal

pub returns-then-is_none-clause-forward : goal.returns-then-is_none-clause-forward
returns-then-is_none-clause-forward c =
    let next : suc c.loop-level.level ≡ c.loop-level.level + 1 = omega arith in
    let s = c.in_ok-stage-2.stage in
    subst (λ (k : ℕ). IsForward (plain_plant c.args.plant.now) (plain_region c.args.init.now.pieces.items) c.args.budget k (plain_region s.region.pieces.items)) next
    (c.in_ok-stage-2.ensures.ok.forward (none_is s.first c.is_none.result c.is_none.ensures c.if-is_none.true))

pub loop-level-preserved : goal.loop-level-preserved
loop-level-preserved c =
    let next : suc c.loop-level.level ≡ c.loop-level.level + 1 = omega arith in
    let s = c.in_ok-stage-2.stage in
    subst (λ (k : ℕ). IsAfter c.args.plant.now (plain_region c.args.init.now.pieces.items) c.args.budget k s) next
    (c.in_ok-stage-2.ensures.ok.goes_on (some_is s.first c.is_none.result c.is_none.ensures c.if-is_none.false))
