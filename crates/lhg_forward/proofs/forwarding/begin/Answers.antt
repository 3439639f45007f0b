use Rattle.std.proofs.Common.{sym, ◌∙◌, subst}
use Rattle.lhg_math.specs.Tests.{AllOf}
use Rattle.lhg_num.specs.FracArithmetic.{frac_arithmetic}
use Rattle.lhg_plant.specs.Views.{plain_plant}
use Rattle.lhg_union.specs.PolyLists.{ArePolys}
use Rattle.lhg_union.specs.Regions.{plain_region}
use Rattle.lhg_forward.specs.Outcomes.{IsForwardStop}
use Rattle.lhg_forward.specs.Views.{plain_stage}
use Rattle.lhg_forward.proofs.Iteration.{step_laws}
use Rattle.lhg_forward.proofs.StopCode.{memory_stop, region_is}
use Rattle.lhg_forward.proofs.Turning.{after_start}
use Rattle.lhg_forward.proofs.forwarding.begin.Goals as goal

pub returns-in-Ok-clause-ok : goal.returns-in-Ok-clause-ok
returns-in-Ok-clause-ok c =
    let p = c.args.plant.now in
    let init = c.args.init.now.pieces.items in
    let laws = step_laws (plain_plant p) (plain_region init) in
    after_start p (plain_region init) c.args.budget c.in-Ok.stage (region_is p init c.requires (subst (AllOf (λ ps. ArePolys frac_arithmetic ps.items)) c.deref.ensures.value c.tell_lists.ensures)) (c.in-Ok.ensures.stage ∙ sym laws.starts) c.in-Ok.ensures.lists

pub returns-in-Err-clause-stop : goal.returns-in-Err-clause-stop
returns-in-Err-clause-stop c =
    let a = plain_plant c.args.plant.now in
    let init = plain_region c.args.init.now.pieces.items in
    subst (IsForwardStop a init c.args.budget) (sym c.halted.ensures) (memory_stop a init c.args.budget 1 c.in-Err.halt _ plain_stage c.in-Err.ensures.stage)
