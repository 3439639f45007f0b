use Rattle.std.proofs.Common.{drop}
use Rattle.lhg_num.specs.Marked.{walk, IsRest}
use Rattle.lhg_union.specs.PolyLists.{lines_of}
use Rattle.lhg_plant.specs.OutCalculus.{hit_into}
use Rattle.lhg_jump.specs.HitViews.{plain_hits, AreKept}
use Rattle.lhg_jump.proofs.hits.push_outside.Given as goal

abbrev pub invariant-loop-into : goal.invariant-loop-into
invariant-loop-into l = record {
  rest : IsRest (walk (hit_into l.vars (lines_of l.invs) (lines_of l.here) l.e l.jump) (plain_hits l.initial.kept.hits.items) (lines_of l.outside)) (walk (hit_into l.vars (lines_of l.invs) (lines_of l.here) l.e l.jump) (plain_hits l.kept.hits.items) (lines_of (drop l.into-index l.outside)));
  kept : AreKept l.vars l.kept.hits.items l.kept.pieces.items;
}
