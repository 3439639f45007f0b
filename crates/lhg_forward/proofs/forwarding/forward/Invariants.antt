use Rattle.lhg_union.specs.Regions.{plain_region}
use Rattle.lhg_forward.specs.Outcomes.{IsAfter}
use Rattle.lhg_forward.proofs.forwarding.forward.Given as goal

abbrev pub invariant-loop-level : goal.invariant-loop-level
invariant-loop-level l = IsAfter l.plant (plain_region l.init.pieces.items) l.budget l.level l.stage
