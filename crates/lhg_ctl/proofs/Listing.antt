-- Names are found in their lists, also where one comes.
use Rattle.std.proofs.Common.{◌≡◌, ◌≢◌, ◌<◌, ◌+◌, ◌*◌, ◌%◌, ℕ, zero, suc, List, [], ◌∷◌, ◌++◌, length, get_or, set, replicate, refl, sym, ap, ◌∙◌, Bool, true, false, ◌||◌, ◌==◌, arith, eqb-true}
use Rattle.std.specs.Global.{Vec}
use Rattle.std.specs.Str.{bytes_eq}
use Rattle.std.proofs.Math.Nat.{mod-lt}
use Rattle.std.proofs.lemmas.List.{get_or-set_same, get_or-set_other, length-set, length-map, get_or-map, map-set}
use Rattle.std.proofs.lemmas.List.Folds.{list_any-append}
use Rattle.std.proofs.lemmas.Slice.Eq.{bytes_eq-Decides}
use Rattle.lhg_math.specs.Tests.{by_bool, false_true}
use Rattle.lhg_plant.specs.Differ.{is_among}
use Rattle.lhg_read.proofs.Collecting.{same_eq}
use Rattle.lhg_ctl.specs.NameLists.{list_count, list_from, list_of, lists_in, AreListed}

-- a name belongs to one of the lists
from_below : (place : ℕ) (bytes : List ℕ) → place < list_count → list_from place bytes < list_count
from_below place [] h = h
from_below place (b ∷ bytes) h = from_below ((place * 31 + b) % list_count) bytes (mod-lt (place * 31 + b) (omega arith))

pub list_below : (name : List ℕ) → list_of name < list_count
list_below name = from_below 0 name (omega arith)

-- no name is in empty lists
pub none_listed : (n : ℕ) (lists : List (List (List ℕ))) → lists ≡ replicate n [] → n ≡ list_count → AreListed lists []
none_listed n lists e f = record { many = ap (λ (ls : List (List (List ℕ))). length ls) e ∙ size n ∙ f; each = λ name. ap (λ (ls : List (List (List ℕ))). is_among name (get_or ls (list_of name) [])) e ∙ ap (is_among name) (empty n (list_of name)) }
  where
    none : List (List ℕ)
    none = []

    size : (n : ℕ) → length (replicate n none) ≡ n
    size zero = refl
    size (suc n) = ap (λ (k : ℕ). suc k) (size n)

    empty : (n k : ℕ) → get_or (replicate n none) k [] ≡ none
    empty zero k = refl
    empty (suc n) zero = refl
    empty (suc n) (suc k) = empty n k

-- one more name is among names where it was, or is that one
among_more : (w : List ℕ) (names : List (List ℕ)) (name : List ℕ) → is_among w (names ++ name ∷ []) ≡ (is_among w names || is_among w (name ∷ []))
among_more w names name = list_any-append (λ n. bytes_eq n w) names (name ∷ [])

or_false : (b : Bool) → (b || false) ≡ b
or_false true = refl
or_false false = refl

-- one more name in its list
pub one_listed : (lists : List (List (List ℕ))) (names : List (List ℕ)) (name : List ℕ) → AreListed lists names → AreListed (set lists (list_of name) (get_or lists (list_of name) [] ++ name ∷ [])) (names ++ name ∷ [])
one_listed lists names name h = record { many = length-set lists place more ∙ h.many; each = each }
  where
    place : ℕ
    place = list_of name

    more : List (List ℕ)
    more = get_or lists place [] ++ name ∷ []

    there : place < length lists
    there = let e = h.many in let b = list_below name in omega (arith, e, b)

    -- in its own list
    same : (w : List ℕ) → place ≡ list_of w → is_among w (get_or (set lists place more) (list_of w) []) ≡ is_among w (names ++ name ∷ [])
    same w e =
        ap (λ (k : ℕ). is_among w (get_or (set lists place more) k [])) (sym e) ∙ ap (is_among w) (get_or-set_same lists place more [] there) ∙ among_more w (get_or lists place []) name
        ∙ ap (λ b. b || is_among w (name ∷ [])) (ap (λ (k : ℕ). is_among w (get_or lists k [])) e ∙ h.each w) ∙ sym (among_more w names name)

    -- and in another one
    other : (w : List ℕ) → (place == list_of w) ≡ false → is_among w (get_or (set lists place more) (list_of w) []) ≡ is_among w (names ++ name ∷ [])
    other w e =
        let apart : list_of w ≢ place = λ f. false_true (sym e ∙ ap (λ (k : ℕ). place == k) f ∙ same_eq place) in
        let differs : bytes_eq name w ≡ false = by_bool (bytes_eq name w) (λ t. absurd (apart (ap list_of (sym ((bytes_eq-Decides name w).0 t))))) (λ t. t) in
        ap (is_among w) (get_or-set_other lists place (list_of w) more [] apart) ∙ h.each w ∙ sym (or_false (is_among w names)) ∙ ap (λ b. is_among w names || b) (sym (ap (λ b. b || false) differs)) ∙ sym (among_more w names name)

    each : (w : List ℕ) → is_among w (get_or (set lists place more) (list_of w) []) ≡ is_among w (names ++ name ∷ [])
    each w = by_bool (place == list_of w) (λ e. same w (eqb-true place (list_of w) e)) (other w)

-- as many lists as the code holds
pub list_total : (lists : List (Vec (List ℕ))) → length (lists_in lists) ≡ length lists
list_total lists = length-map lists (λ names. names.items)

-- one list with one name more
pub set_more : (xs : List (Vec (List ℕ))) (k : ℕ) (v new : Vec (List ℕ)) → v ≡ get_or xs k v → k < length xs → (name : List ℕ) → new.items ≡ v.items ++ name ∷ [] → lists_in (set xs k new) ≡ set (lists_in xs) k (get_or (lists_in xs) k [] ++ name ∷ [])
set_more xs k v new is lt name e =
    let at : v.items ≡ get_or (lists_in xs) k [] = ap (λ (z : Vec (List ℕ)). z.items) is ∙ sym (get_or-map (λ (z : Vec (List ℕ)). z.items) xs k v [] lt) in
    map-set (λ (z : Vec (List ℕ)). z.items) xs k new ∙ ap (set (lists_in xs) k) (e ∙ ap (λ ns. ns ++ name ∷ []) at)
