use Rattle.std.proofs.Common.{drop}
use Rattle.lhg_num.specs.Marked.{walk, IsRest}
use Rattle.lhg_union.specs.PolyLists.{lines_of}
use Rattle.lhg_plant.specs.OutCalculus.{hit_region}
use Rattle.lhg_jump.specs.HitViews.{plain_hits, AreKept}
use Rattle.lhg_jump.proofs.hits.push_sources.Given as goal

abbrev pub invariant-loop-source : goal.invariant-loop-source
invariant-loop-source l = record {
  rest : IsRest (walk (hit_region l.vars (lines_of l.here) l.e l.into.lines) (plain_hits l.initial.kept.hits.items) (lines_of l.sources)) (walk (hit_region l.vars (lines_of l.here) l.e l.into.lines) (plain_hits l.kept.hits.items) (lines_of (drop l.source-index l.sources)));
  kept : AreKept l.vars l.kept.hits.items l.kept.pieces.items;
}
