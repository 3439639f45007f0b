-- What the code holds of a plant that is being read, and what it changes.
use Rattle.std.proofs.Common.{◌≡◌, ◌<◌, ◌+◌, ℕ, zero, suc, List, [], ◌∷◌, length, map, set, get_or, refl, sym, ap, ◌∙◌, true, not, cond, ◌||◌, ◌&&◌, Some, None, arith}
use Rattle.std.specs.Prelude.{nat_lt}
use Rattle.std.specs.List.{list_any, position, position_or_len}
use Rattle.std.specs.Str.{bytes_eq}
use Rattle.std.proofs.lemmas.List.{length-map}
use Rattle.std.proofs.lemmas.Bool.{lt-ltb}
use Rattle.lhg_plant.specs.declared.plants.Location.{Location}
use Rattle.lhg_plant.specs.declared.plants.Switch.{Switch}
use Rattle.lhg_plant.specs.Plant.{PlainLocation}
use Rattle.lhg_plant.specs.Views.{plain_location, plain_switch}
use Rattle.lhg_plant.specs.Differ.{is_among}
use Rattle.lhg_read.specs.Term.{place_of}
use Rattle.lhg_read.specs.PlantSteps.{is_nil, loc_names, switch_names, with_last, safe_lines}

-- whether a location has the name
pub among_locs : (w : List ℕ) (locs : List Location) → list_any (λ l. bytes_eq l.name w) locs ≡ is_among w (loc_names (map plain_location locs))
among_locs w [] = refl
among_locs w (l ∷ locs) = ap (λ b. bytes_eq l.name w || b) (among_locs w locs)

-- whether a switch has it
pub among_switches : (w : List ℕ) (switches : List Switch) → list_any (λ s. bytes_eq s.name w) switches ≡ is_among w (switch_names (map plain_switch switches))
among_switches w [] = refl
among_switches w (s ∷ switches) = ap (λ b. bytes_eq s.name w || b) (among_switches w switches)

place_len : (w : List ℕ) (locs : List Location) → position_or_len (λ l. bytes_eq l.name w) locs ≡ position_or_len (λ n. bytes_eq n w) (loc_names (map plain_location locs))
place_len w [] = refl
place_len w (l ∷ locs) = ap (λ k. cond (not (bytes_eq l.name w)) (1 + k) 0) (place_len w locs)

count_names : (locs : List Location) → length locs ≡ length (loc_names (map plain_location locs))
count_names [] = refl
count_names (l ∷ locs) = ap suc (count_names locs)

-- where a location with the name is
pub place_locs : (w : List ℕ) (locs : List Location) → position (λ l. bytes_eq l.name w) locs ≡ place_of w (loc_names (map plain_location locs))
place_locs w locs =
    ap (λ k. cond (nat_lt k (length locs)) (Some k) None) (place_len w locs)
    ∙ ap (λ n. cond (nat_lt (position_or_len (λ n. bytes_eq n w) (loc_names (map plain_location locs))) n) (Some (position_or_len (λ n. bytes_eq n w) (loc_names (map plain_location locs)))) None) (count_names locs)

-- the last location changed
pub set_last : (change : PlainLocation → PlainLocation) (locs : List Location) (last : ℕ) (old new d : Location) → 0 < length locs → last + 1 ≡ length locs → old ≡ get_or locs last d → plain_location new ≡ change (plain_location old)
    → map plain_location (set locs last new) ≡ with_last change (map plain_location locs)
set_last change [] last old new d some e g h = absurd (omega arith)
set_last change (l ∷ []) zero old new d some e g h = ap (λ x. x ∷ []) (h ∙ ap (λ x. change (plain_location x)) g)
set_last change (l ∷ []) (suc last) old new d some e g h = absurd (omega arith)
set_last change (l ∷ m ∷ locs) zero old new d some e g h = absurd (omega arith)
set_last change (l ∷ m ∷ locs) (suc last) old new d some e g h = ap (λ xs. plain_location l ∷ xs) (set_last change (m ∷ locs) last old new d (omega arith) (omega arith) g h)

-- how many safe lines the last location has
pub safe_last : (locs : List Location) (last : ℕ) (l : Location) → last + 1 ≡ length locs → l ≡ get_or locs last l → length l.safe.items ≡ safe_lines (map plain_location locs)
safe_last [] last l e g = absurd (omega arith)
safe_last (x ∷ []) zero l e g = sym (length-map l.safe.items (λ rows. rows.items)) ∙ ap (λ y. length (map (λ rows. rows.items) y.safe.items)) g
safe_last (x ∷ []) (suc last) l e g = absurd (omega arith)
safe_last (x ∷ y ∷ locs) zero l e g = absurd (omega arith)
safe_last (x ∷ y ∷ locs) (suc last) l e g = safe_last (y ∷ locs) last l (omega arith) g

-- ---- tests

-- whether a location may begin, where no switch has come and there is room
pub begin_is : (locs : List Location) (switches : List Switch) (w : List ℕ) → length switches ≡ 0 → length locs < 64
    → not (list_any (λ l. bytes_eq l.name w) locs) ≡ (is_nil (map plain_switch switches) && (nat_lt (length (map plain_location locs)) 64 && not (is_among w (loc_names (map plain_location locs)))))
begin_is locs [] w e h =
    let room : nat_lt (length (map plain_location locs)) 64 ≡ true = ap (λ k. nat_lt k 64) (length-map locs plain_location) ∙ lt-ltb (length locs) 64 h in
    rw room (ap not (among_locs w locs))
begin_is locs (s ∷ switches) w e h = absurd (omega arith)

-- whether a switch may come, where some location has begun and there is room
pub switch_is : (locs : List Location) (switches : List Switch) (w : List ℕ) → 0 < length locs → length switches < 256
    → not (list_any (λ s. bytes_eq s.name w) switches) ≡ (not (is_nil (map plain_location locs)) && (nat_lt (length (map plain_switch switches)) 256 && not (is_among w (switch_names (map plain_switch switches)))))
switch_is [] switches w e h = absurd (omega arith)
switch_is (l ∷ locs) switches w e h =
    let room : nat_lt (length (map plain_switch switches)) 256 ≡ true = ap (λ k. nat_lt k 256) (length-map switches plain_switch) ∙ lt-ltb (length switches) 256 h in
    rw room (ap not (among_switches w switches))
