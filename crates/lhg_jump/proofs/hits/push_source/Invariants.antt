use Rattle.std.proofs.Common.{drop}
use Rattle.lhg_num.specs.Marked.{walk, IsRest}
use Rattle.lhg_union.specs.PolyLists.{lines_of}
use Rattle.lhg_plant.specs.OutCalculus.{hit_piece, hit_region}
use Rattle.lhg_jump.specs.HitViews.{plain_hits, AreKept}
use Rattle.lhg_jump.proofs.hits.push_source.Given as goal

abbrev pub invariant-loop-place : goal.invariant-loop-place
invariant-loop-place l = record {
  rest : IsRest (hit_region l.vars (lines_of l.here) l.e l.into.lines (plain_hits l.initial.kept.hits.items) l.source.lines) (walk (hit_piece l.vars l.e l.into.lines l.source.lines) (plain_hits l.kept.hits.items) (lines_of (drop l.place-index l.here)));
  kept : AreKept l.vars l.kept.hits.items l.kept.pieces.items;
}
