-- Which line of a text is the first that cannot stand there, for any grammar of texts?
use Rattle.std.specs.Prelude.{◌≡◌, ◌<◌, ◌≤◌, ◌-◌, ◌+◌, ◌⊎◌, ℕ, List, ◌++◌, length, take}

-- some continuation makes the lines a text of the grammar
abbrev pub CanStand : (List (List ℕ) → Type 0) → List (List ℕ) → Type 0
CanStand IsText lines = (more : List (List ℕ)) × IsText (lines ++ more)

-- line n, counted from 1, is the first that cannot stand there; where the text ends too early it is the line after the last one
pub record IsFirstBad (IsText : List (List ℕ) → Type 0) (lines : List (List ℕ)) (n : ℕ) : Type 0 where
  pub counted : 0 < n
  pub before : CanStand IsText (take (n - 1) lines)
  pub bad : (n ≤ length lines × ¬ CanStand IsText (take n lines)) ⊎ ((n ≡ length lines + 1) × ¬ IsText lines)
