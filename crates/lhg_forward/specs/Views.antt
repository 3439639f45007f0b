-- What do contracts see of the levels that the code holds?
use Rattle.std.specs.Prelude.{◌≡◌, ◌≤◌, ℕ, length, get_or}
use Rattle.lhg_union.specs.Regions.{polys_at, plain_region}
use Rattle.lhg_plant.specs.declared.plants.Plant.{Plant}
use Rattle.lhg_jump.specs.PlantLists.{AreListsOf}
use Rattle.lhg_forward.specs.declared.growth.Growth.{Growth}
use Rattle.lhg_forward.specs.declared.stages.Stage.{Stage}
use Rattle.lhg_forward.specs.Growth.{PlainGrowth, PlainStage}

-- the new pieces of a level, as plain data
abbrev pub plain_growth : Growth → PlainGrowth
plain_growth g = record { new = plain_region g.pieces.items; first = g.first }

-- a stage as plain data
abbrev pub plain_stage : Stage → PlainStage
plain_stage s = record { region = plain_region s.region.pieces.items; older = s.older.items; first = s.first }

-- a list for each location, of pieces over the plant's variables, and a number for each, which is at most that of its pieces
pub record IsStageOf (p : Plant) (s : Stage) : Type 0 where
  pub lists : AreListsOf p s.region.pieces.items
  pub older_many : length s.older.items ≡ length p.locs.items
  pub older_few : (l : ℕ) → get_or s.older.items l 0 ≤ length (polys_at s.region.pieces.items l)
