-- Which plant has k locations that lose their safe states one after the other, the last one first?
use Rattle.std.specs.Prelude.{ℕ, ◌-◌, [], ◌∷◌, map, codes}
use Rattle.std.specs.List.{range_with_len}
use Rattle.lhg_plant.specs.Example.{at_most, at_least}
use Rattle.lhg_plant.specs.Plant.{PlainLocation, PlainSwitch, PlainPlant}
use Rattle.lhg_plant.specs.declared.plants.Side.TheVariants.{Ctl}
use Rattle.lhg_read.specs.Keep.{keep_rows}
use Rattle.lhg_gen.specs.GeneratedText.{location_word, switch_word}

-- x grows from 0 to 10 at speed 1, through a gap between 8 and 9 that is not safe
abbrev pub generated_location : ℕ → PlainLocation
generated_location i = record {
  name = location_word i;
  inv = at_least 0 ∷ at_most 10 ∷ [];
  flow = at_most 1 ∷ at_least 1 ∷ [];
  safe = (at_most 8 ∷ []) ∷ (at_least 9 ∷ []) ∷ [];
}

-- the controller may go on to the next location; locations are counted from 1, and their places from 0
abbrev pub generated_switch : ℕ → PlainSwitch
generated_switch i = record { name = switch_word i; from = i - 1; to = i; side = Ctl; jump = keep_rows 1 }

-- the locations from 1 to k, and the switches of all but the last
abbrev pub generated_plant : ℕ → PlainPlant
generated_plant k = record { vars = codes "x" ∷ []; locs = map generated_location (range_with_len 1 k); switches = map generated_switch (range_with_len 1 (k - 1)) }
