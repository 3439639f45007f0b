-- The rim and the cut guards are the lists of each location and of each switch.
use Rattle.std.proofs.Common.{◌≡◌, length, refl}
use Rattle.std.specs.List.{range_with_len}
use Rattle.lhg_num.specs.Marked.{each}
use Rattle.lhg_plant.specs.Plant.{PlainPlant}
use Rattle.lhg_plant.specs.Region.{PlainRegion, PlainGuards}
use Rattle.lhg_lazy.specs.RimCalculus.{rim_at, rim, cut_at, cut_guards}

pub rim-whole : (a : PlainPlant) (region away : PlainRegion) → each (rim_at a region away) (range_with_len 0 (length a.locs)) ≡ rim a region away
unfolding rim
rim-whole a region away = refl

pub cut-whole : (a : PlainPlant) (guards : PlainGuards) (rim : PlainRegion) → each (cut_at a guards rim) (range_with_len 0 (length a.switches)) ≡ cut_guards a guards rim
unfolding cut_guards
cut-whole a guards rim = refl
