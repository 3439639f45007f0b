-- A switch is found again by its name.
use Rattle.std.proofs.Common.{◌≡◌, ◌<◌, ℕ, zero, suc, List, [], ◌∷◌, length, get_or, refl, ap, ◌∙◌, true, Some, arith}
use Rattle.std.specs.Prelude.{slice_get}
use Rattle.std.proofs.lemmas.List.{length-map}
use Rattle.lhg_math.specs.Tests.{AllOf}
use Rattle.lhg_plant.specs.Differ.{all_differ}
use Rattle.lhg_plant.specs.Plant.{PlainSwitch}
use Rattle.lhg_plant.specs.Proper.{IsSwitch}
use Rattle.lhg_plant.specs.Word.{IsName}
use Rattle.lhg_read.specs.PlantSteps.{switch_names}
use Rattle.lhg_read.specs.Term.{place_of}
use Rattle.lhg_row_text.proofs.NamePlaces.{place_of_name}
use Rattle.lhg_row_text.specs.PrintedLine.{switch_name}

name_at : (switches : List PlainSwitch) (e : ℕ) → e < length switches → switch_name (slice_get switches e) ≡ get_or (switch_names switches) e []
name_at [] e h = absurd (omega arith)
name_at (s ∷ switches) zero h = refl
name_at (s ∷ switches) (suc e) h = name_at switches e (omega arith)

-- its name is a name
pub switch_named : (n m : ℕ) (switches : List PlainSwitch) (e : ℕ) → e < length switches → AllOf (IsSwitch n m) switches → IsName (switch_name (slice_get switches e))
switch_named n m [] e h k = absurd (omega arith)
switch_named n m (s ∷ switches) zero h k = k.0.name
switch_named n m (s ∷ switches) (suc e) h k = switch_named n m switches e (omega arith) k.1

-- it is found at its place
pub switch_back : (switches : List PlainSwitch) (e : ℕ) → e < length switches → all_differ (switch_names switches) ≡ true → place_of (switch_name (slice_get switches e)) (switch_names switches) ≡ Some e
switch_back switches e h differ =
    let size = length-map switches (λ s. s.name) in
    ap (λ w. place_of w (switch_names switches)) (name_at switches e h) ∙ place_of_name (switch_names switches) e (omega arith) differ
