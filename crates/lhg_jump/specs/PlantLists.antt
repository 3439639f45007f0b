-- Which lists of pieces belong to a plant?
use Rattle.std.specs.Prelude.{◌≡◌, ℕ, List, length}
use Rattle.std.specs.Global.{Vec}
use Rattle.lhg_math.specs.Tests.{AllOf}
use Rattle.lhg_row.specs.System.{PlainSystem}
use Rattle.lhg_plant.specs.declared.plants.Plant.{Plant}
use Rattle.lhg_plant.specs.Inside.{AllInside}
use Rattle.lhg_plant.specs.Invariants.{pieces_at, invariants}
use Rattle.lhg_plant.specs.OutCalculus.{away}
use Rattle.lhg_plant.specs.Views.{plain_plant}
use Rattle.lhg_union.specs.PolyLists.{AllVars}
use Rattle.lhg_union.specs.Regions.{plain_region}

-- each piece of each list is over the plant's variables
abbrev pub AreOver : Plant → List (Vec PlainSystem) → Type 0
AreOver plant lists = AllOf (λ ps. AllVars (length plant.vars.items) ps.items) lists

-- a list for each location, of pieces over the plant's variables
pub record AreListsOf (plant : Plant) (lists : List (Vec PlainSystem)) : Type 0 where
  pub many : length lists ≡ length plant.locs.items
  pub vars : AreOver plant lists

-- such lists, each piece of which lies inside the invariant of its location
pub record IsRegionOf (plant : Plant) (lists : List (Vec PlainSystem)) : Type 0 where
  pub has_lists : AreListsOf plant lists
  pub inside : (l : ℕ) → AllInside (plain_plant plant) l (pieces_at (plain_region lists) l)

-- a list for each switch, of pieces over the plant's variables
pub record AreGuardsOf (plant : Plant) (lists : List (Vec PlainSystem)) : Type 0 where
  pub many : length lists ≡ length plant.switches.items
  pub vars : AreOver plant lists

-- the invariants of the plant
pub record AreInvariantsOf (plant : Plant) (lists : List (Vec PlainSystem)) : Type 0 where
  pub has_lists : AreListsOf plant lists
  pub same : plain_region lists ≡ (invariants (plain_plant plant)).value

-- the states outside the region
pub record AreAwayOf (plant : Plant) (region lists : List (Vec PlainSystem)) : Type 0 where
  pub has_lists : AreListsOf plant lists
  pub same : plain_region lists ≡ (away (length plant.vars.items) (invariants (plain_plant plant)).value (plain_region region)).value
