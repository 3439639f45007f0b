-- Words with one space between each two, one by one.
use Rattle.std.proofs.Common.{◌≡◌, ◌++◌, ◌∷◌, [], ℕ, List, sym, ap, append-nil}
use Rattle.std.specs.List.{flat_map}
use Rattle.lhg_row_text.specs.PrintedLine.{spaced}

-- words with one space between each two are the first one and each other behind a space
pub spaced-flat : (w : List ℕ) (ws : List (List ℕ)) → spaced (w ∷ ws) ≡ w ++ flat_map (λ v. 32 ∷ v) ws
spaced-flat w [] = sym (append-nil w)
spaced-flat w (v ∷ ws) = ap (λ t. w ++ (32 ∷ t)) (spaced-flat v ws)
