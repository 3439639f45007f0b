-- What do contracts see of the states from which the plant leaves a region, as the code holds them?
use Rattle.std.specs.Prelude.{map}
use Rattle.lhg_union.specs.Regions.{plain_region}
use Rattle.lhg_plant.specs.OutCalculus.{PlainOuts}
use Rattle.lhg_jump.specs.declared.outs.Outs.{Outs}
use Rattle.lhg_jump.specs.HitViews.{plain_hits}

-- both parts as plain data
abbrev pub plain_outs : Outs → PlainOuts
plain_outs o = record { away = plain_region o.away.pieces.items; hits = map (λ hs. plain_hits hs.items) o.hits.items }
