-- Which text sums up what solves the game of a generated plant?
use Rattle.std.specs.Prelude.{◌≡◌, ℕ, List, [], ◌∷◌, ◌++◌, length, codes, decimal}
use Rattle.std.specs.List.{flat_map, sum_by}
use Rattle.lhg_row.specs.Piece.{PlainPiece}
use Rattle.lhg_plant.specs.Controller.{PlainController}
use Rattle.lhg_plant.specs.Loss.{PlainLoss}
use Rattle.lhg_plant.specs.Region.{PlainRegion, PlainGuards}
use Rattle.lhg_loss.specs.Iterate.{solution, solved}
use Rattle.lhg_loss.specs.StageFacts.{IsSolved}
use Rattle.lhg_row_text.specs.PrintedLine.{line}
use Rattle.lhg_gen.specs.GeneratedPlant.{generated_plant}
use Rattle.lhg_cli.specs.PlantAnswer.{IsOutcome}
use Rattle.lhg_cli.specs.Words.{most_rounds}
use Rattle.lhg_cli.specs.declared.status.Status.{Status}

-- how many pieces the lists have in all
abbrev pub pieces_in : List (List PlainPiece) → ℕ
pieces_in lists = sum_by (λ ps. length ps) lists

-- a name and a number
abbrev pub count_line : List ℕ → ℕ → List ℕ
count_line name count = name ++ 32 ∷ decimal count

-- the number of locations, and the numbers of rounds, of pieces of the region, of guard pieces and of records
abbrev pub summary_text : ℕ → ℕ → PlainRegion → PlainGuards → List PlainLoss → List ℕ
summary_text k rounds region guards losses =
    flat_map line (count_line (codes "gen") k ∷ count_line (codes "rounds") rounds ∷ count_line (codes "pieces") (pieces_in region) ∷ count_line (codes "guards") (pieces_in guards)
    ∷ count_line (codes "losses") (length losses) ∷ [])

-- the text sums up what solves the game of the generated plant within the most rounds, which is that of the calculus
pub record IsSummary (k : ℕ) (text : List ℕ) : Type 0 where
  pub controller : PlainController
  pub rounds : ℕ
  pub losses : List PlainLoss
  pub printed : text ≡ summary_text k rounds controller.region controller.guards losses
  pub solves : IsSolved (generated_plant k) most_rounds controller rounds losses
  pub calculus : solution (generated_plant k) most_rounds ≡ solved rounds controller.region controller.guards losses

-- the text that stands for the status where a generated plant is asked for
abbrev pub IsGenAnswer : ℕ → Status → List ℕ → Type 0
IsGenAnswer k s text = IsOutcome (IsSummary k) (generated_plant k) most_rounds s text
