use Rattle.std.proofs.Common.{length}
use Rattle.lhg_num.specs.Marked.{each}
use Rattle.lhg_plant.specs.OutCalculus.{numbered}
use Rattle.lhg_plant.specs.Views.{plain_plant}
use Rattle.lhg_union.specs.Regions.{plain_region}
use Rattle.lhg_check.specs.Check.{unsafe_at}
use Rattle.lhg_check.proofs.FirstSteps.{IsClear}
use Rattle.lhg_check.proofs.safety.first_unsafe.Given as goal

abbrev pub invariant-loop-l : goal.invariant-loop-l
invariant-loop-l l =
    IsClear (each (unsafe_at (length l.plant.vars.items) (plain_region l.safe.pieces.items) (plain_region l.region.pieces.items)) (numbered 0 (plain_plant l.plant).locs)).value l.l
