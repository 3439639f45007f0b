-- The text of exchanges, part by part.
use Rattle.std.proofs.Common.{◌≡◌, ◌++◌, ◌∷◌, [], ℕ, List, Option, Result, Ok, Err, OnOk, refl, sym, ap, ◌∙◌, codes, append_assoc, append-nil}
use Rattle.std.specs.List.{flat_map}
use Rattle.std.proofs.lemmas.Grind.{flat_map-append}
use Rattle.lhg_plant.specs.Plant.{PlainPlant}
use Rattle.lhg_plant.specs.SpoilSteps.{PlainSpoilStep}
use Rattle.lhg_plant.specs.State.{PlainState}
use Rattle.lhg_row_text.specs.PointText.{state_text}
use Rattle.lhg_row_text.specs.PrintedLine.{line}
use Rattle.lhg_text.specs.SpoilText.{spoil_step_lines, spoil_step_text, unsafe_lines, spoil_text}
use Rattle.lhg_text.specs.TraceText.{last_line}

-- the lines of steps are those of each step
each_step : (a : PlainPlant) (steps : List PlainSpoilStep) → flat_map line (flat_map (spoil_step_lines a) steps) ≡ flat_map (spoil_step_text a) steps
each_step a [] = refl
each_step a (s ∷ steps) = flat_map-append line (spoil_step_lines a s) (flat_map (spoil_step_lines a) steps) ∙ ap (λ t. spoil_step_text a s ++ t) (each_step a steps)

-- the head and the start, the steps, the unsafe state and the last line
pub spoil_parts : (a : PlainPlant) (start : PlainState) (steps : List PlainSpoilStep) (last : Option PlainState) (illegal : Option ℕ)
    → spoil_text a start steps last illegal ≡ line (codes "spoil 1") ++ (line (codes "start" ++ 32 ∷ state_text a start) ++ (flat_map (spoil_step_text a) steps ++ (flat_map line (unsafe_lines a last) ++ line (last_line illegal))))
spoil_parts a start steps last illegal =
    let told = flat_map (spoil_step_lines a) steps in
    let won = unsafe_lines a last in
    ap (λ t. line (codes "spoil 1") ++ (line (codes "start" ++ 32 ∷ state_text a start) ++ t))
    (flat_map-append line told (won ++ last_line illegal ∷ [])
    ∙ ap (λ t. t ++ flat_map line (won ++ last_line illegal ∷ [])) (each_step a steps)
    ∙ ap (λ t. flat_map (spoil_step_text a) steps ++ t) (flat_map-append line won (last_line illegal ∷ []) ∙ ap (λ t. flat_map line won ++ t) (append-nil (line (last_line illegal)))))

-- a text to which four parts were appended
pub four_more : (before t u v w a b c d : List ℕ) → t ≡ before ++ a → u ≡ t ++ b → v ≡ u ++ c → w ≡ v ++ d → w ≡ before ++ (a ++ (b ++ (c ++ d)))
four_more before t u v w a b c d e f g h =
    h ∙ ap (λ x. x ++ d) (g ∙ ap (λ x. x ++ c) (f ∙ ap (λ x. x ++ b) e)) ∙ append_assoc ((before ++ a) ++ b) c d ∙ append_assoc (before ++ a) b (c ++ d) ∙ append_assoc before a (b ++ (c ++ d))

-- and then a fifth one, where there was memory
pub last_more : {T E : Type 0} (r : Result T E) (before w x a b c d e whole : List ℕ) → OnOk r (x ≡ w ++ e) → w ≡ before ++ (a ++ (b ++ (c ++ d))) → whole ≡ a ++ (b ++ (c ++ (d ++ e))) → OnOk r (x ≡ before ++ whole)
last_more (Ok y) before w x a b c d e whole h f g =
    h ∙ ap (λ t. t ++ e) f ∙ append_assoc before (a ++ (b ++ (c ++ d))) e
    ∙ ap (λ t. before ++ t) (append_assoc a (b ++ (c ++ d)) e ∙ ap (λ t. a ++ t) (append_assoc b (c ++ d) e ∙ ap (λ t. b ++ t) (append_assoc c d e)) ∙ sym g)
last_more (Err y) before w x a b c d e whole h f g = tt
