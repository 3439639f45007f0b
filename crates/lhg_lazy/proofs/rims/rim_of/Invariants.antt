use Rattle.std.proofs.Common.{length}
use Rattle.lhg_plant.specs.Views.{plain_plant}
use Rattle.lhg_union.specs.PolyLists.{lines_of, AllVars}
use Rattle.lhg_lazy.specs.RimCalculus.{flow_at}
use Rattle.lhg_lazy.proofs.RimSteps.{IsListed}
use Rattle.lhg_lazy.proofs.rims.rim_of.Given as goal

abbrev pub invariant-loop-piece : goal.invariant-loop-piece
invariant-loop-piece l =
    let n = length l.fn.plant.vars.items in
    record {
      built : IsListed n (flow_at (plain_plant l.fn.plant) l.fn.l) (lines_of l.outside) l.here l.rim.items l.piece-index;
      vars : AllVars n l.rim.items;
    }
