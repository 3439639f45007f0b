use Rattle.std.proofs.Common.{drop}
use Rattle.lhg_num.specs.Marked.{IsRest}
use Rattle.lhg_union.specs.PolyLists.{lines_of, AllVars}
use Rattle.lhg_plant.specs.Pick.{first_result}
use Rattle.lhg_pick.proofs.picks.first_result.Given as goal

abbrev pub invariant-loop-piece : goal.invariant-loop-piece
invariant-loop-piece l = record {
  left : IsRest (first_result l.vars l.point l.jump (lines_of l.pieces)) (first_result l.vars l.point l.jump (lines_of (drop l.piece-index l.pieces)));
  same : AllVars l.vars l.pieces;
}
