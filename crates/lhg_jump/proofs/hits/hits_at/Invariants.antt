use Rattle.std.proofs.Common.{[], length, map, drop}
use Rattle.lhg_num.specs.Marked.{walk, IsRest}
use Rattle.lhg_union.specs.Regions.{plain_region}
use Rattle.lhg_plant.specs.OutCalculus.{hit_by, numbered}
use Rattle.lhg_plant.specs.Views.{plain_switch, plain_plant}
use Rattle.lhg_jump.specs.HitViews.{plain_hits, AreKept}
use Rattle.lhg_jump.proofs.hits.hits_at.Given as goal

abbrev pub invariant-loop-e : goal.invariant-loop-e
invariant-loop-e l =
    let f = hit_by (length l.plant.vars.items) (plain_region l.invs) (plain_region l.away) (plain_region l.region) l.l in
    record {
      rest : IsRest (walk f [] (numbered 0 (plain_plant l.plant).switches)) (walk f (plain_hits l.kept.hits.items) (numbered l.e (map plain_switch (drop l.e l.plant.switches.items))));
      kept : AreKept (length l.plant.vars.items) l.kept.hits.items l.kept.pieces.items;
    }
