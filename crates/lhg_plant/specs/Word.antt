-- Which words are names, and which are names of variables?
use Rattle.std.specs.Prelude.{◌≡◌, ◌≢◌, ◌≤◌, ℕ, true, List, length, codes}
use Rattle.lhg_lex.specs.Word.{is_word}
use Rattle.lhg_plant.specs.Limits.{most_name_bytes}

-- a word that is not too long
pub record IsName (bytes : List ℕ) : Type 0 where
  pub word : is_word bytes ≡ true
  pub fits : length bytes ≤ most_name_bytes

-- a name that no keyword for rows takes
pub record IsVariable (bytes : List ℕ) : Type 0 where
  pub name : IsName bytes
  pub not_all : bytes ≢ codes "all"
  pub not_still : bytes ≢ codes "still"
  pub not_keep : bytes ≢ codes "keep"
