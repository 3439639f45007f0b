-- Which lines begin a plant, and what is read of it so far?
use Rattle.std.specs.Prelude.{◌≡◌, ℕ, List, ◌∷◌, map, Some}
use Rattle.lhg_lex.specs.LineTokens.{Spot}
use Rattle.lhg_read.specs.Machine.{all_taken}
use Rattle.lhg_read.specs.Names.{vars_of}
use Rattle.lhg_read.specs.PlantText.{IsHead}
use Rattle.lhg_read.specs.PlantSteps.{PlainDraft, empty_draft, taken_at, has_ended}

-- the head, the variables, and lines that are taken one after another
pub record IsBegun (lines : List (List Spot)) (vars : List (List ℕ)) (d : PlainDraft) : Type 0 where
  pub head : List Spot
  pub names : List Spot
  pub rest : List (List Spot)
  pub lines_are : lines ≡ head ∷ names ∷ rest
  pub head_is : IsHead head
  pub vars_are : vars_of (map (λ spot. spot.says) names) ≡ Some vars
  pub taken : all_taken (taken_at vars) has_ended empty_draft rest ≡ Some d
