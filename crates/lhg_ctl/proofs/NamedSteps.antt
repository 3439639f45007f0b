-- The lines of a printed controller, list by list, are its lines.
use Rattle.std.proofs.Common.{◌≡◌, ◌<◌, ◌+◌, ℕ, zero, suc, List, [], ◌∷◌, ◌++◌, length, get_or, drop, map, refl, sym, ap, ◌∙◌, subst, arith, codes, inl, inr, append_assoc, if◌then◌else◌, Result, Ok, Err, OnOk}
use Rattle.std.specs.Prelude.{slice_get}
use Rattle.std.specs.Global.{Vec}
use Rattle.std.specs.List.{flat_map}
use Rattle.std.specs.Result.{is_ok}
use Rattle.std.proofs.lemmas.Grind.{flat_map-append}
use Rattle.std.proofs.lemmas.List.{map-append, length-map}
use Rattle.lhg_math.specs.Tests.{AllOf, Every, false_true}
use Rattle.lhg_num.specs.FracArithmetic.{frac_arithmetic, frac_is_lawful}
use Rattle.lhg_row.specs.Constant.{varies}
use Rattle.lhg_row.specs.ConstantLaws.{nothing-fails}
use Rattle.lhg_row.specs.Piece.{PlainPiece}
use Rattle.lhg_row.specs.PieceFacts.{IsPoly}
use Rattle.lhg_row.specs.PieceLemmas.{in_piece_is}
use Rattle.lhg_row.specs.System.{PlainSystem}
use Rattle.lhg_row.specs.Trim.{IsSettledOrNothing}
use Rattle.lhg_row.specs.TrimmedLaws.{trimmed-settled}
use Rattle.lhg_row.specs.Width.{AllWide}
use Rattle.lhg_math.specs.ListFacts.{drop_cons}
use Rattle.lhg_plant.specs.declared.plants.Location.{Location}
use Rattle.lhg_plant.specs.declared.plants.Switch.{Switch}
use Rattle.lhg_plant.specs.Controller.{PlainController}
use Rattle.lhg_plant.specs.Plant.{PlainLocation, PlainSwitch, PlainPlant}
use Rattle.lhg_plant.specs.Parts.{plain_location, plain_switch, plain_parts}
use Rattle.lhg_union.specs.PolyLists.{lines_of}
use Rattle.lhg_union.specs.Regions.{polys_of, plain_region}
use Rattle.lhg_row_text.specs.PrintedLine.{line, location_name, switch_name}
use Rattle.lhg_row_text.specs.Short.{AllShort}
use Rattle.lhg_row_text.proofs.Appended.{appended}
use Rattle.lhg_ctl.specs.ControllerText.{piece_line, guard_line, controller_text}
use Rattle.lhg_ctl.specs.Draft.{all_at, placed_from}
use Rattle.lhg_ctl.specs.NamedLines.{named_line, named_lines}
use Rattle.lhg_ctl.specs.Written.{IsWritten}

-- ---- the rows of a piece can be read again

vary_of : (rows : PlainPiece) (n : ℕ) → IsPoly frac_arithmetic n rows → Every varies rows
vary_of rows n h = by_kind (trimmed-settled frac_arithmetic rows frac_is_lawful h.trimmed)
  where
    by_kind : IsSettledOrNothing frac_arithmetic rows → Every varies rows
    by_kind (inl none) = false_true (sym (nothing-fails rows h.point.point none) ∙ (in_piece_is rows h.point.point).0 h.point.holds)
    by_kind (inr settled) = settled.vary

-- so are those of a piece whose numbers can be read
pub written_of : (n : ℕ) (p : PlainSystem) → IsPoly frac_arithmetic p.width p.lines → p.width ≡ n → AllShort p.lines → IsWritten n p.lines
written_of n p h e short = record { wide = subst (λ (k : ℕ). AllWide k p.lines) e h.wide; vary = vary_of p.lines p.width h; short = short }

-- ---- the lines

list_lines : (f : ℕ × PlainPiece → List ℕ) (word name : List ℕ) (vars : List (List ℕ)) (k : ℕ) (ps : List PlainPiece) → ((p : PlainPiece) → f (k, p) ≡ named_line word name vars p) → map f (all_at k ps) ≡ map (named_line word name vars) ps
list_lines f word name vars k [] h = refl
list_lines f word name vars k (p ∷ ps) h = ap (λ l. l ∷ map f (all_at k ps)) (h p) ∙ ap (λ ls. named_line word name vars p ∷ ls) (list_lines f word name vars k ps h)

-- the lines of placed pieces are those of the lists behind their names
pub placed_lines : (f : ℕ × PlainPiece → List ℕ) (word : List ℕ) (vars names : List (List ℕ)) (k : ℕ) (lists : List (List PlainPiece)) → ((j : ℕ) (p : PlainPiece) → f (k + j, p) ≡ named_line word (get_or names j []) vars p) → length lists ≡ length names
    → map f (placed_from k lists) ≡ named_lines word names vars lists
placed_lines f word vars [] k [] h e = refl
placed_lines f word vars [] k (ps ∷ lists) h e = absurd (omega arith)
placed_lines f word vars (w ∷ names) k [] h e = absurd (omega arith)
placed_lines f word vars (w ∷ names) k (ps ∷ lists) h e =
    map-append f (all_at k ps) (placed_from (suc k) lists)
    ∙ ap (λ ls. ls ++ map f (placed_from (suc k) lists)) (list_lines f word w vars k ps (λ p. ap (λ (i : ℕ). f (i, p)) (plus_zero k) ∙ h 0 p))
    ∙ ap (λ ls. map (named_line word w vars) ps ++ ls) (placed_lines f word vars names (suc k) lists (λ j p. ap (λ (i : ℕ). f (i, p)) (plus_suc k j) ∙ h (suc j) p) (omega arith))
  where
    plus_zero : (n : ℕ) → n ≡ n + 0
    plus_zero n = omega arith

    plus_suc : (n j : ℕ) → suc n + j ≡ n + suc j
    plus_suc n j = omega arith

loc_name : (locs : List PlainLocation) (j : ℕ) → location_name (slice_get locs j) ≡ get_or (map (λ l. l.name) locs) j []
loc_name [] j = refl
loc_name (l ∷ locs) zero = refl
loc_name (l ∷ locs) (suc j) = loc_name locs j

sw_name : (switches : List PlainSwitch) (j : ℕ) → switch_name (slice_get switches j) ≡ get_or (map (λ s. s.name) switches) j []
sw_name [] j = refl
sw_name (s ∷ switches) zero = refl
sw_name (s ∷ switches) (suc j) = sw_name switches j

no_more : (j : ℕ) → 0 + j ≡ j
no_more j = omega arith

-- the lines of pieces by their lists
pieces-named : (a : PlainPlant) (region : List (List PlainPiece)) → length region ≡ length a.locs → map (piece_line a) (placed_from 0 region) ≡ named_lines (codes "piece") (map (λ l. l.name) a.locs) a.vars region
pieces-named a region locs =
    placed_lines (piece_line a) (codes "piece") a.vars (map (λ l. l.name) a.locs) 0 region (λ j q. ap (λ w. named_line (codes "piece") w a.vars q) (ap (λ (i : ℕ). location_name (slice_get a.locs i)) (no_more j) ∙ loc_name a.locs j)) (locs ∙ sym (length-map a.locs (λ l. l.name)))

-- the text of a controller by its lists
pub text-named : (a : PlainPlant) (c : PlainController) → length c.region ≡ length a.locs → length c.guards ≡ length a.switches
    → controller_text a c ≡ line (codes "controller 1") ++ (flat_map line (named_lines (codes "piece") (map (λ l. l.name) a.locs) a.vars c.region) ++ (flat_map line (named_lines (codes "guard") (map (λ s. s.name) a.switches) a.vars c.guards) ++ line (codes "end")))
text-named a c locs switches =
    let ps = map (piece_line a) (placed_from 0 c.region) in
    let gs = map (guard_line a) (placed_from 0 c.guards) in
    let p : ps ≡ named_lines (codes "piece") (map (λ l. l.name) a.locs) a.vars c.region = pieces-named a c.region locs in
    let g : gs ≡ named_lines (codes "guard") (map (λ s. s.name) a.switches) a.vars c.guards =
    placed_lines (guard_line a) (codes "guard") a.vars (map (λ s. s.name) a.switches) 0 c.guards (λ j q. ap (λ w. named_line (codes "guard") w a.vars q) (ap (λ (i : ℕ). switch_name (slice_get a.switches i)) (no_more j) ∙ sw_name a.switches j)) (switches ∙ sym (length-map a.switches (λ s. s.name))) in
    ap (λ t. line (codes "controller 1") ++ t) (
    flat_map-append line ps (gs ++ codes "end" ∷ [])
    ∙ ap (λ t. flat_map line ps ++ t) (flat_map-append line gs (codes "end" ∷ []))
    ∙ ap (λ ls. flat_map line ls ++ (flat_map line gs ++ line (codes "end"))) p
    ∙ ap (λ ls. flat_map line (named_lines (codes "piece") (map (λ l. l.name) a.locs) a.vars c.region) ++ (flat_map line ls ++ line (codes "end"))) g
    )

-- ---- the steps of the printing calls

-- a piece more of a list
pub list_more : (f : PlainPiece → List ℕ) (pieces : List PlainSystem) (i : ℕ) (p : PlainSystem) → p ≡ get_or pieces i p → i < length pieces → flat_map line (map f (lines_of (drop i pieces))) ≡ line (f p.lines) ++ flat_map line (map f (lines_of (drop (i + 1) pieces)))
list_more f pieces i p e h = ap (λ ps. flat_map line (map f (lines_of ps))) (drop_cons pieces i p e h)

-- and it can be read again
pub written_more : (n : ℕ) (pieces : List PlainSystem) (i : ℕ) (p : PlainSystem) → p ≡ get_or pieces i p → i < length pieces → IsWritten n p.lines → AllOf (IsWritten n) (lines_of (drop (i + 1) pieces)) → AllOf (IsWritten n) (lines_of (drop i pieces))
written_more n pieces i p e h w more = subst (λ ps. AllOf (IsWritten n) (lines_of ps)) (sym (drop_cons pieces i p e h)) (w, more)

-- a text that grows three times
pub grown : (before t u v xs ys zs : List ℕ) → t ≡ before ++ xs → u ≡ t ++ ys → v ≡ u ++ zs → v ≡ before ++ (xs ++ (ys ++ zs))
grown before t u v xs ys zs e f g =
    g ∙ ap (λ w. w ++ zs) (f ∙ ap (λ w. w ++ ys) e) ∙ append_assoc (before ++ xs) ys zs ∙ append_assoc before xs (ys ++ zs)

-- an end behind three parts
pub ended : (xs ys zs end : List ℕ) → xs ++ (ys ++ (zs ++ end)) ≡ (xs ++ (ys ++ zs)) ++ end
ended xs ys zs end = sym (append_assoc xs (ys ++ zs) end ∙ ap (λ w. xs ++ w) (append_assoc ys zs end))

loc_names : (locs : List Location) → map (λ l. l.name) (map plain_location locs) ≡ map (λ l. l.name) locs
loc_names [] = refl
loc_names (l ∷ locs) = ap (λ ws. l.name ∷ ws) (loc_names locs)

sw_names : (switches : List Switch) → map (λ s. s.name) (map plain_switch switches) ≡ map (λ s. s.name) switches
sw_names [] = refl
sw_names (s ∷ switches) = ap (λ ws. s.name ∷ ws) (sw_names switches)

-- as many lists of rows as lists of pieces
pub same_count : (lists : List (Vec PlainSystem)) → length (plain_region lists) ≡ length lists
same_count lists = length-map (polys_of lists) lines_of ∙ length-map lists (λ ps. ps.items)

-- the lines of pieces that the code holds, by their lists
pub pieces_held : (vars : List (List ℕ)) (locs : List Location) (switches : List Switch) (region : List (Vec PlainSystem)) → length region ≡ length locs
    → map (piece_line (plain_parts vars locs switches)) (placed_from 0 (plain_region region)) ≡ named_lines (codes "piece") (map (λ l. l.name) locs) vars (plain_region region)
pieces_held vars locs switches region h =
    pieces-named (plain_parts vars locs switches) (plain_region region) (same_count region ∙ h ∙ sym (length-map locs plain_location)) ∙ ap (λ ws. named_lines (codes "piece") ws vars (plain_region region)) (loc_names locs)

-- the text of a controller that the code holds, by its lists
pub text_held : (vars : List (List ℕ)) (locs : List Location) (switches : List Switch) (region guards : List (Vec PlainSystem)) → length region ≡ length (map plain_location locs) → length guards ≡ length (map plain_switch switches)
    → controller_text (plain_parts vars locs switches) (record { region = plain_region region; guards = plain_region guards })
    ≡ line (codes "controller 1") ++ (flat_map line (named_lines (codes "piece") (map (λ l. l.name) locs) vars (plain_region region)) ++ (flat_map line (named_lines (codes "guard") (map (λ s. s.name) switches) vars (plain_region guards)) ++ line (codes "end")))
text_held vars locs switches region guards h k =
    text-named (plain_parts vars locs switches) (record { region = plain_region region; guards = plain_region guards }) (same_count region ∙ h) (same_count guards ∙ k)
    ∙ ap (λ ws. line (codes "controller 1") ++ (flat_map line (named_lines (codes "piece") ws vars (plain_region region)) ++ (flat_map line (named_lines (codes "guard") (map (λ s. s.name) (map plain_switch switches)) vars (plain_region guards)) ++ line (codes "end")))) (loc_names locs)
    ∙ ap (λ ws. line (codes "controller 1") ++ (flat_map line (named_lines (codes "piece") (map (λ l. l.name) locs) vars (plain_region region)) ++ (flat_map line (named_lines (codes "guard") ws vars (plain_region guards)) ++ line (codes "end")))) (sw_names switches)

-- a text to which a slice was appended where there was memory
pub appended_if : {T E : Type 0} (r : Result T E) (now between before xs ys zs : List ℕ) → now ≡ (if is_ok r then between ++ ys else between) → between ≡ before ++ xs → zs ≡ xs ++ ys → OnOk r (now ≡ before ++ zs)
appended_if {T} {E} (Ok x) now between before xs ys zs h e f = appended {T = T} {E = E} (Ok x) now between before xs ys zs h e f
appended_if {T} {E} (Err x) now between before xs ys zs h e f = tt
