-- The names at the places of lists of locations and switches that the code holds.
use Rattle.std.proofs.Common.{◌≡◌, ◌<◌, ◌∷◌, [], ℕ, zero, suc, List, length, map, get_or, sym, ap, arith}
use Rattle.std.specs.Prelude.{slice_get}
use Rattle.lhg_plant.specs.declared.plants.Location.{Location}
use Rattle.lhg_plant.specs.declared.plants.Switch.{Switch}
use Rattle.lhg_plant.specs.Views.{plain_location, plain_switch}
use Rattle.lhg_row_text.specs.PrintedLine.{location_name, switch_name}

-- the name of the location at a place
pub location_at : (locs : List Location) (i : ℕ) (l : Location) → i < length locs → l ≡ get_or locs i l → location_name (slice_get (map plain_location locs) i) ≡ l.name
location_at [] i l h e = absurd (omega arith)
location_at (k ∷ locs) zero l h e = ap (λ m. m.name) (sym e)
location_at (k ∷ locs) (suc i) l h e = location_at locs i l (omega arith) e

-- the name of the switch at a place
pub switch_at : (switches : List Switch) (i : ℕ) (w : Switch) → i < length switches → w ≡ get_or switches i w → switch_name (slice_get (map plain_switch switches) i) ≡ w.name
switch_at [] i w h e = absurd (omega arith)
switch_at (s ∷ switches) zero w h e = ap (λ x. x.name) (sym e)
switch_at (s ∷ switches) (suc i) w h e = switch_at switches i w (omega arith) e
