-- The lines of a draft are printed one after another.
use Rattle.std.proofs.Common.{◌≡◌, ◌<◌, ◌+◌, ℕ, zero, suc, List, [], ◌∷◌, ◌++◌, length, get_or, drop, map, sym, ap, ◌∙◌, subst, arith, append_assoc, codes}
use Rattle.std.specs.Prelude.{slice_get}
use Rattle.std.specs.Global.{Vec}
use Rattle.std.specs.List.{flat_map}
use Rattle.std.proofs.lemmas.Grind.{flat_map-append}
use Rattle.lhg_math.specs.Tests.{AllOf}
use Rattle.lhg_row.specs.Piece.{PlainPiece}
use Rattle.lhg_row.specs.Row.{PlainRow}
use Rattle.lhg_math.specs.ListFacts.{drop_cons}
use Rattle.lhg_plant.specs.declared.plants.Location.{Location}
use Rattle.lhg_plant.specs.declared.plants.Switch.{Switch}
use Rattle.lhg_plant.specs.Parts.{plain_location, plain_switch}
use Rattle.lhg_plant.specs.Plant.{PlainPlant}
use Rattle.lhg_row_text.specs.PrintedLine.{line, location_name, switch_name}
use Rattle.lhg_ctl.specs.ControllerText.{piece_line, named_guard_line, named_guard_lines, rounds_text, second_text}
use Rattle.lhg_ctl.specs.Draft.{PlainDraft}
use Rattle.lhg_ctl.specs.Views.{plain_placed}

-- the name of the location at a place
pub name_at : (locs : List Location) (i : ℕ) (l : Location) → i < length locs → l ≡ get_or locs i l → location_name (slice_get (map plain_location locs) i) ≡ l.name
name_at [] i l h e = absurd (omega arith)
name_at (x ∷ locs) zero l h e = ap (λ (y : Location). y.name) (sym e)
name_at (x ∷ locs) (suc i) l h e = name_at locs i l (omega arith) e

-- and of the switch
pub switch_at : (switches : List Switch) (i : ℕ) (w : Switch) → i < length switches → w ≡ get_or switches i w → switch_name (slice_get (map plain_switch switches) i) ≡ w.name
switch_at [] i w h e = absurd (omega arith)
switch_at (x ∷ switches) zero w h e = ap (λ (y : Switch). y.name) (sym e)
switch_at (x ∷ switches) (suc i) w h e = switch_at switches i w (omega arith) e

-- the text of a draft, part by part
pub second_grown : (a : PlainPlant) (d : PlainDraft) (s t u v w x : List ℕ) → s ≡ [] → t ≡ s ++ line (codes "controller 2") → u ≡ t ++ line (rounds_text d.rounds) → v ≡ u ++ flat_map line (map (piece_line a) d.pieces)
    → w ≡ v ++ flat_map line (named_guard_lines a d.names d.guards) → x ≡ w ++ line (codes "end") → x ≡ second_text a d
second_grown a d s t u v w x e0 e1 e2 e3 e4 e5 =
    let head = line (codes "controller 2") in
    let rounds = line (rounds_text d.rounds) in
    let ps = map (piece_line a) d.pieces in
    let gs = named_guard_lines a d.names d.guards in
    let last = line (codes "end") in
    let front : u ≡ head ++ rounds = e2 ∙ ap (λ z. z ++ rounds) (e1 ∙ ap (λ z. z ++ head) e0) in
    let four : w ≡ ((head ++ rounds) ++ flat_map line ps) ++ flat_map line gs = e4 ∙ ap (λ z. z ++ flat_map line gs) (e3 ∙ ap (λ z. z ++ flat_map line ps) front) in
    e5 ∙ ap (λ z. z ++ last) four
    ∙ append_assoc ((head ++ rounds) ++ flat_map line ps) (flat_map line gs) last ∙ append_assoc (head ++ rounds) (flat_map line ps) (flat_map line gs ++ last) ∙ append_assoc head rounds (flat_map line ps ++ (flat_map line gs ++ last))
    ∙ ap (λ z. head ++ (rounds ++ z)) (sym (flat_map-append line ps (gs ++ codes "end" ∷ []) ∙ ap (λ z. flat_map line ps ++ z) (flat_map-append line gs (codes "end" ∷ []))))

-- a line more
pub placed_more : (f : ℕ × PlainPiece → List ℕ) (xs : List (ℕ × Vec PlainRow)) (i : ℕ) (x : ℕ × Vec PlainRow) → x ≡ get_or xs i x → i < length xs
    → flat_map line (map f (map plain_placed (drop i xs))) ≡ line (f (plain_placed x)) ++ flat_map line (map f (map plain_placed (drop (i + 1) xs)))
placed_more f xs i x e lt = ap (λ ps. flat_map line (map f (map plain_placed ps))) (drop_cons xs i x e lt)

-- a line of a guard with its name more
pub guards_more : (a : PlainPlant) (names : List (List ℕ)) (xs : List (ℕ × Vec PlainRow)) (i : ℕ) (w : List ℕ) (x : ℕ × Vec PlainRow) → w ≡ get_or names i w → i < length names → x ≡ get_or xs i x → i < length xs
    → flat_map line (named_guard_lines a (drop i names) (map plain_placed (drop i xs))) ≡ line (named_guard_line a w (plain_placed x)) ++ flat_map line (named_guard_lines a (drop (i + 1) names) (map plain_placed (drop (i + 1) xs)))
guards_more a names xs i w x e lt f below =
    ap (λ ws. flat_map line (named_guard_lines a ws (map plain_placed (drop i xs)))) (drop_cons names i w e lt)
    ∙ ap (λ ps. flat_map line (named_guard_lines a (w ∷ drop (i + 1) names) (map plain_placed ps))) (drop_cons xs i x f below)

-- what holds of a line and of the further ones
pub all_more : (P : ℕ × PlainPiece → Type 0) (xs : List (ℕ × Vec PlainRow)) (i : ℕ) (x : ℕ × Vec PlainRow) → x ≡ get_or xs i x → i < length xs → P (plain_placed x) → AllOf P (map plain_placed (drop (i + 1) xs)) → AllOf P (map plain_placed (drop i xs))
all_more P xs i x e lt h k = subst (λ ps. AllOf P (map plain_placed ps)) (sym (drop_cons xs i x e lt)) (h, k)

-- the same of names
pub names_more : (P : List ℕ → Type 0) (names : List (List ℕ)) (i : ℕ) (w : List ℕ) → w ≡ get_or names i w → i < length names → P w → AllOf P (drop (i + 1) names) → AllOf P (drop i names)
names_more P names i w e lt h k = subst (AllOf P) (sym (drop_cons names i w e lt)) (h, k)
