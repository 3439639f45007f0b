-- A text has one value at most.
use Rattle.std.proofs.Common.{◌≡◌, List, [], ◌∷◌, sym, ap, ◌∙◌}
use Rattle.std.proofs.lemmas.Option.{same_Some}
use Rattle.lhg_lex.specs.LineTokens.{Spot}
use Rattle.lhg_plant.specs.Plant.{PlainPlant}
use Rattle.lhg_plant.specs.State.{PlainState}
use Rattle.lhg_read.specs.Machine.{all_taken}
use Rattle.lhg_read.specs.Names.{vars_of}
use Rattle.lhg_read.specs.PlantText.{said_in, IsPlant, IsPlantText, IsSomePlantText}
use Rattle.lhg_read.specs.PlantSteps.{empty_draft, taken_at, has_ended, plant_with}
use Rattle.lhg_read.specs.StateText.{state_line, IsStateText, IsStateLines, IsSomeState}
use Rattle.lhg_read.specs.TextLaws.{HasOneReading}
use Rattle.lhg_read.specs.TokenText.{IsTextBy}
use Rattle.lhg_read.proofs.PlantRefusals.{same_three}
use Rattle.lhg_read.proofs.PlantTexts.{begun_of_plant}
use Rattle.lhg_read.proofs.TextEnds.{one_reading}

-- tokens are one plant at most
one_plant : (lines : List (List Spot)) (p q : PlainPlant) → IsPlant lines p → IsPlant lines q → p ≡ q
one_plant lines p q h k =
    let f = begun_of_plant lines p h in
    let g = begun_of_plant lines q k in
    let t = same_three f.1.head f.1.names g.1.head g.1.names f.1.rest g.1.rest (sym f.1.lines_are ∙ g.1.lines_are) in
    let v : p.vars ≡ q.vars = same_Some p.vars q.vars (sym f.1.vars_are ∙ ap (λ l. vars_of (said_in l)) t.1 ∙ g.1.vars_are) in
    let d : f.0 ≡ g.0 =
    same_Some f.0 g.0 (sym f.1.taken ∙ ap (all_taken (taken_at p.vars) has_ended empty_draft) t.2 ∙ ap (λ vars. all_taken (taken_at vars) has_ended empty_draft g.1.rest) v ∙ g.1.taken) in
    sym f.3 ∙ ap (plant_with p.vars) d ∙ ap (λ vars. plant_with vars g.0) v ∙ g.3

same_line : (a b : List Spot) → a ∷ [] ≡ b ∷ [] → a ≡ b
same_line a b e = cc

-- and one state
one_state : (p : PlainPlant) (lines : List (List Spot)) (s t : PlainState) → IsStateText p lines s → IsStateText p lines t → s ≡ t
one_state p lines s t h k = same_Some s t (sym h.says ∙ ap (λ l. state_line p (said_in l)) (same_line h.line k.line (sym h.lines_are ∙ k.lines_are)) ∙ k.says)

pub plant_reading : HasOneReading IsPlantText IsSomePlantText
plant_reading = one_reading IsPlant one_plant

pub state_reading : (p : PlainPlant) → HasOneReading (IsStateLines p) (IsTextBy (IsSomeState p))
state_reading p = one_reading (IsStateText p) (one_state p)
