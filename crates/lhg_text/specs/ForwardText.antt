-- How are forward sets printed, and what does their text determine?
use Rattle.std.specs.Prelude.{◌≡◌, ◌≤◌, ℕ, List, [], ◌∷◌, ◌++◌, length, map, codes}
use Rattle.std.specs.List.{flat_map}
use Rattle.lhg_math.specs.Tests.{AllOf}
use Rattle.lhg_lex.specs.Literal.{limit}
use Rattle.lhg_plant.specs.Plant.{PlainPlant}
use Rattle.lhg_plant.specs.Region.{PlainRegion}
use Rattle.lhg_row_text.specs.PrintedLine.{line}
use Rattle.lhg_ctl.specs.ControllerText.{piece_line, rounds_text}
use Rattle.lhg_ctl.specs.Draft.{placed_from}
use Rattle.lhg_ctl.specs.Written.{IsWritten}

-- the lines of forward sets: the head, the number of rounds, the pieces in the order of locations and then of the list, and the end
abbrev pub forward_lines : PlainPlant → PlainRegion → ℕ → List (List ℕ)
forward_lines a region rounds = codes "reach 1" ∷ rounds_text rounds ∷ (map (piece_line a) (placed_from 0 region) ++ codes "end" ∷ [])

-- each line ends with a line feed
abbrev pub forward_text : PlainPlant → PlainRegion → ℕ → List ℕ
forward_text a region rounds = flat_map line (forward_lines a region rounds)

-- a list of pieces for each location, whose numbers, and that of rounds, can be read
pub record IsWrittenForward (a : PlainPlant) (region : PlainRegion) (rounds : ℕ) : Type 0 where
  pub few_rounds : rounds ≤ limit
  pub locs : length region ≡ length a.locs
  pub pieces : AllOf (AllOf (IsWritten (length a.vars))) region

-- two forward sets of a plant with one text have the same pieces and number of rounds
pub record SameForward (region_1 : PlainRegion) (rounds_1 : ℕ) (region_2 : PlainRegion) (rounds_2 : ℕ) : Type 0 where
  pub region : region_1 ≡ region_2
  pub rounds : rounds_1 ≡ rounds_2
