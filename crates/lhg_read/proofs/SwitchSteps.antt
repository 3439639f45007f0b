-- A switch is found by its name, and its side is looked up.
use Rattle.std.proofs.Common.{◌≡◌, ◌<◌, ◌+◌, ℕ, zero, suc, List, [], ◌∷◌, length, map, refl, sym, ap, ◌∙◌, Bool, not, cond, Option, Some, None, arith, get_or}
use Rattle.std.specs.List.{position, position_or_len}
use Rattle.std.specs.Option.{option_and_then}
use Rattle.std.specs.Prelude.{nat_lt, slice_get}
use Rattle.std.specs.Str.{bytes_eq}
use Rattle.std.proofs.lemmas.List.{length-map}
use Rattle.lhg_lex.specs.PlainToken.{PlainToken}
use Rattle.lhg_plant.specs.declared.plants.Side.{Side}
use Rattle.lhg_plant.specs.declared.plants.Switch.{Switch}
use Rattle.lhg_plant.specs.Plant.{PlainPlant}
use Rattle.lhg_plant.specs.Views.{plain_switch}
use Rattle.lhg_read.specs.Names.{name_of}
use Rattle.lhg_read.specs.PlantSteps.{switch_names}
use Rattle.lhg_read.specs.SwitchName.{if_of, is_of, switch_in}
use Rattle.lhg_read.specs.Term.{place_of}

switch_len : (w : List ℕ) (switches : List Switch) → position_or_len (λ s. bytes_eq s.name w) switches ≡ position_or_len (λ n. bytes_eq n w) (switch_names (map plain_switch switches))
switch_len w [] = refl
switch_len w (s ∷ switches) = ap (λ (n : ℕ). cond (not (bytes_eq s.name w)) (1 + n) 0) (switch_len w switches)

count_names : (switches : List Switch) → length switches ≡ length (switch_names (map plain_switch switches))
count_names switches = sym (length-map (map plain_switch switches) (λ s. s.name) ∙ length-map switches plain_switch)

-- a switch is at the place of its name
place_switches : (w : List ℕ) (switches : List Switch) → position (λ s. bytes_eq s.name w) switches ≡ place_of w (switch_names (map plain_switch switches))
place_switches w switches =
    ap (λ k. cond (nat_lt k (length switches)) (Some k) None) (switch_len w switches)
    ∙ ap (λ n. cond (nat_lt (position_or_len (λ n. bytes_eq n w) (switch_names (map plain_switch switches))) n) (Some (position_or_len (λ n. bytes_eq n w) (switch_names (map plain_switch switches)))) None) (count_names switches)

-- a switch that is found among those of the plant, whatever its side
pub switch_found : (test : Side → Bool) (p : PlainPlant) (token : PlainToken) (name : List ℕ) (switches : List Switch) (place : Option ℕ) → name_of token ≡ Some name → map plain_switch switches ≡ p.switches
    → place ≡ position (λ s. bytes_eq s.name name) switches → switch_in test p token ≡ option_and_then (if_of test p) place
switch_found test p token name switches place e f g =
    ap (λ o. option_and_then (if_of test p) (option_and_then (λ w. place_of w (switch_names p.switches)) o)) e
    ∙ ap (λ ss. option_and_then (if_of test p) (place_of name (switch_names ss))) (sym f) ∙ ap (option_and_then (if_of test p)) (sym (place_switches name switches) ∙ sym g)

-- the side of the switch at a place
pub side_at : (test : Side → Bool) (switches : List Switch) (k : ℕ) (w : Switch) → k < length switches → w ≡ get_or switches k w → is_of test (slice_get (map plain_switch switches) k) ≡ test w.side
side_at test [] k w h e = absurd (omega arith)
side_at test (s ∷ switches) zero w h e = ap (λ (x : Switch). test x.side) (sym e)
side_at test (s ∷ switches) (suc k) w h e = side_at test switches k w (omega arith) e
