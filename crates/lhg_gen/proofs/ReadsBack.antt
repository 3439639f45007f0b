-- What is read of a text that is a plant?
use Rattle.std.proofs.Common.{◌≡◌, ℕ, List, [], ◌∷◌, ◌++◌, subst}
use Rattle.lhg_lex.specs.Lines.{lines_of}
use Rattle.lhg_lex.specs.Reading.{Reading, left_of}
use Rattle.lhg_lex.specs.declared.stops.What.{What}
use Rattle.lhg_plant.specs.Plant.{PlainPlant}
use Rattle.lhg_read.specs.PlantText.{IsPlant, IsPlantText, IsSomePlantText}
use Rattle.lhg_read.specs.TokenText.{ReadsText, IsFirstFault}
use Rattle.lhg_read.proofs.PlantEnds.{plant_end}
use Rattle.lhg_read.proofs.TextLawProofs.{plant_reading}

-- the whole text is to be read
abbrev pub start : List ℕ → Reading
start bytes = record { bytes = bytes; read = 0 }

module _ (bytes : List ℕ) (a : PlainPlant) (t : IsPlantText (lines_of bytes) a) where
  -- the plant that is read is this one
  pub one_read : (p : PlainPlant) (new : Reading) → ReadsText (λ tokens. IsPlant tokens p) (start bytes) new → p ≡ a
  one_read p new r =
      let front = r.before ++ r.last ∷ [] in
      let more = left_of new in
      let whole : IsPlantText (front ++ more) a = subst (λ lines. IsPlantText lines a) r.read.left t in
      let same : IsPlantText (front ++ more) p = plant_end.goes_on front more p r.text (plant_end.ends front more p a r.text whole) in
      plant_reading.one_value (front ++ more) p a same whole

  -- and the text is not refused
  pub not_refused : (line column : ℕ) (what : What) → IsFirstFault IsSomePlantText (start bytes) line column what → ⊥
  not_refused line column what h = plant_reading.no_bad_line (lines_of bytes) h.n (record { tokens = t.tokens; are = t.are; is = (a, t.is) }) h.first
