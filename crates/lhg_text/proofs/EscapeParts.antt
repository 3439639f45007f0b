-- The text of an escape, part by part.
use Rattle.std.proofs.Common.{◌≡◌, ◌++◌, ◌∷◌, [], ℕ, List, Option, map, ap, ◌∙◌, codes, decimal}
use Rattle.std.specs.List.{flat_map}
use Rattle.std.proofs.lemmas.Grind.{flat_map-append}
use Rattle.lhg_motion.specs.Play.{PlainMove}
use Rattle.lhg_plant.specs.Plant.{PlainPlant}
use Rattle.lhg_plant.specs.State.{PlainState}
use Rattle.lhg_row_text.specs.PrintedLine.{line}
use Rattle.lhg_text.specs.EscapeText.{move_line, exit_lines, escape_text}

-- the round, the flows, the last switch and the end
pub escape_parts : (a : PlainPlant) (round : ℕ) (moves : List PlainMove) (last : Option (ℕ × PlainState))
    → escape_text a round moves last ≡ line (codes "round" ++ 32 ∷ decimal round) ++ (flat_map line (map (move_line a.vars) moves) ++ (flat_map line (exit_lines a last) ++ line (codes "end")))
escape_parts a round moves last =
    let flows = map (move_line a.vars) moves in
    let exit = exit_lines a last in
    ap (λ t. line (codes "round" ++ 32 ∷ decimal round) ++ t)
    (flat_map-append line flows (exit ++ codes "end" ∷ []) ∙ ap (λ t. flat_map line flows ++ t) (flat_map-append line exit (codes "end" ∷ [])))
