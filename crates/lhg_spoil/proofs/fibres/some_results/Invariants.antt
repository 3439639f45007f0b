use Rattle.std.proofs.Common.{drop}
use Rattle.lhg_num.specs.Marked.{IsRest}
use Rattle.lhg_union.specs.PolyLists.{lines_of, AllVars}
use Rattle.lhg_spoil.specs.Work.{results_of}
use Rattle.lhg_spoil.proofs.fibres.some_results.Given as goal

abbrev pub invariant-loop-piece : goal.invariant-loop-piece
invariant-loop-piece l = record {
  left : IsRest (results_of l.vars l.point l.jump (lines_of l.pieces)) (results_of l.vars l.point l.jump (lines_of (drop l.piece-index l.pieces)));
  same : AllVars l.vars l.pieces;
}
