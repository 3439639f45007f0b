-- Behind the text of a plant stand only blank lines.
use Rattle.std.proofs.Common.{◌≡◌, List, [], ◌++◌}
use Rattle.lhg_lex.specs.LineTokens.{Spot}
use Rattle.lhg_plant.specs.Plant.{PlainPlant}
use Rattle.lhg_read.specs.MachineLaws.{after_end}
use Rattle.lhg_read.specs.PlantText.{IsPlant, IsPlantText}
use Rattle.lhg_read.specs.PlantSteps.{PlainDraft, taken_at, has_ended}
use Rattle.lhg_read.specs.TextLaws.{HasBlankEnd}
use Rattle.lhg_read.proofs.PlantRefusals as PlantRefusals
use Rattle.lhg_read.proofs.PlantTexts.{begun_of_plant}
use Rattle.lhg_read.proofs.TextEnds.{blank_end}

-- the tokens of a plant, and further ones, that are those of a plant: there are no further ones
no_more : (tokens more : List (List Spot)) (p q : PlainPlant) → IsPlant tokens p → IsPlant (tokens ++ more) q → more ≡ []
no_more tokens more p q h k =
    let a = begun_of_plant tokens p h in
    let g = PlantRefusals.goes_on tokens p.vars a.0 a.1 more q k in
    after_end PlainDraft (taken_at p.vars) has_ended a.0 g.0 more a.2 g.1

-- what may follow the text of a plant
pub plant_end : HasBlankEnd IsPlantText
plant_end = blank_end IsPlant no_more
