-- Which pieces and regions lie inside the invariants of a plant?
use Rattle.std.specs.Prelude.{ℕ, List, [], length, get_or}
use Rattle.lhg_math.specs.Tests.{AllOf}
use Rattle.lhg_row.specs.Piece.{PlainPiece}
use Rattle.lhg_row.specs.PieceFacts.{AllOver}
use Rattle.lhg_plant.specs.Plant.{PlainPlant}
use Rattle.lhg_plant.specs.Region.{PlainRegion}
use Rattle.lhg_plant.specs.Sound.{IsInside}

-- each piece of the list lies inside the location's invariant
abbrev pub AllInside : PlainPlant → ℕ → List PlainPiece → Type 0
AllInside a l pieces = AllOf (IsInside a l) pieces

-- each piece of the region is over the plant's variables
abbrev pub IsRegionOver : PlainPlant → PlainRegion → Type 0
IsRegionOver a region = (l : ℕ) → AllOver (length a.vars) (get_or region l [])

-- each piece of the region is over the plant's variables, and lies inside the invariant of its location
pub record IsRegionInside (a : PlainPlant) (region : PlainRegion) : Type 0 where
  pub over : IsRegionOver a region
  pub inside : (l : ℕ) → AllInside a l (get_or region l [])
