-- A location or a switch is found again by its name.
use Rattle.std.proofs.Common.{◌≡◌, ◌<◌, ℕ, zero, suc, List, [], ◌∷◌, ◌++◌, length, take, drop, get_or, map, refl, sym, ap, ◌∙◌, true, Some, arith, drop-cons}
use Rattle.std.specs.Prelude.{slice_get}
use Rattle.std.proofs.lemmas.List.{length-map, length-take-le, take-append-drop}
use Rattle.lhg_math.specs.Tests.{AllOf}
use Rattle.lhg_plant.specs.Plant.{PlainLocation, PlainSwitch}
use Rattle.lhg_plant.specs.Word.{IsName}
use Rattle.lhg_plant.specs.Differ.{all_differ}
use Rattle.lhg_plant.specs.Proper.{IsLocation, IsSwitch}
use Rattle.lhg_read.specs.Term.{place_of}
use Rattle.lhg_row_text.specs.PrintedLine.{location_name}
use Rattle.lhg_row_text.proofs.Places.{place_at, not_before}

-- a location is found by its name
name_of_place : (locs : List PlainLocation) (i : ℕ) → i < length locs → location_name (slice_get locs i) ≡ get_or (map (λ l. l.name) locs) i []
name_of_place [] i h = absurd (omega arith)
name_of_place (l ∷ locs) zero h = refl
name_of_place (l ∷ locs) (suc i) h = name_of_place locs i (omega arith)

-- it is a name
pub is_named : (n : ℕ) (locs : List PlainLocation) (i : ℕ) → i < length locs → AllOf (IsLocation n) locs → IsName (location_name (slice_get locs i))
is_named n [] i h k = absurd (omega arith)
is_named n (l ∷ locs) zero h k = k.0.name
is_named n (l ∷ locs) (suc i) h k = is_named n locs i (omega arith) k.1

-- a name among names that differ is found at its place
pub place_of_name : (names : List (List ℕ)) (i : ℕ) → i < length names → all_differ names ≡ true → place_of (get_or names i []) names ≡ Some i
place_of_name names i h differ =
    let w = get_or names i [] in
    let split : names ≡ take i names ++ (w ∷ drop (suc i) names) = sym (take-append-drop i names) ∙ ap (λ ns. take i names ++ ns) (drop-cons names i [] h) in
    let none = not_before w (take i names) (drop (suc i) names) (ap all_differ (sym split) ∙ differ) in
    ap (place_of w) split ∙ place_at w (take i names) (drop (suc i) names) none ∙ ap (λ (n : ℕ). Some n) (length-take-le i names (omega arith))

-- a location is found again
pub place_back : (locs : List PlainLocation) (i : ℕ) → i < length locs → all_differ (map (λ l. l.name) locs) ≡ true → place_of (location_name (slice_get locs i)) (map (λ l. l.name) locs) ≡ Some i
place_back locs i h differ =
    let size = length-map locs (λ l. l.name) in
    ap (λ w. place_of w (map (λ l. l.name) locs)) (name_of_place locs i h) ∙ place_of_name (map (λ l. l.name) locs) i (omega arith) differ
