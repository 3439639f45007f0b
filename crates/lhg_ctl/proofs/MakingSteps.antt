-- A controller is made line by line.
use Rattle.std.proofs.Common.{◌≡◌, ◌<◌, ◌≤◌, ◌+◌, ℕ, zero, suc, List, [], ◌∷◌, ◌++◌, length, get_or, set, drop, replicate, map, refl, sym, ap, ◌∙◌, subst, Option, Some, Result, Ok, Err, OnOk, arith}
use Rattle.std.specs.Prelude.{slice_get}
use Rattle.std.specs.Global.{Vec}
use Rattle.std.proofs.Math.ListN.{drop_of_length-le}
use Rattle.std.proofs.lemmas.List.{length-map, length-set}
use Rattle.lhg_num.specs.Halting.{IsHaltedBy, IsHaltedByPieces}
use Rattle.lhg_num.specs.Marked.{Marked, walk, valued, IsRest}
use Rattle.lhg_num.specs.MarkedLaws.{IsPart, rest_self, rest_part, and_then-part, and_then-rest, walk-step, walk-part}
use Rattle.lhg_num.specs.declared.refusals.Halt.{Halt}
use Rattle.lhg_num.specs.declared.refusals.Halt.TheVariants.{Wide, Rows, Pieces, Memory}
use Rattle.lhg_row.specs.Lists.{counted_pieces}
use Rattle.lhg_row.specs.Piece.{PlainPiece}
use Rattle.lhg_row.specs.Row.{PlainRow}
use Rattle.lhg_math.specs.ListFacts.{drop_cons, all_map_at}
use Rattle.lhg_row.specs.System.{PlainSystem}
use Rattle.lhg_row.specs.Width.{AllWide}
use Rattle.lhg_plant.specs.declared.plants.Location.{Location}
use Rattle.lhg_plant.specs.declared.plants.Plant.{Plant}
use Rattle.lhg_plant.specs.declared.plants.Switch.{Switch}
use Rattle.lhg_plant.specs.Parts.{plain_location, plain_switch}
use Rattle.lhg_plant.specs.Controller.{PlainController}
use Rattle.lhg_plant.specs.Plant.{PlainPlant}
use Rattle.lhg_plant.specs.Views.{plain_plant}
use Rattle.lhg_math.specs.Tests.{AllOf}
use Rattle.lhg_union.specs.PolyLists.{lines_of, AllVars}
use Rattle.lhg_union.specs.Regions.{polys_of, polys_at, plain_region}
use Rattle.lhg_union.proofs.ListFacts.{lines_of-append}
use Rattle.lhg_row.specs.Members.{all-append}
use Rattle.lhg_ctl.specs.AllOver.{AreAllOver}
use Rattle.lhg_ctl.specs.Making.{made_in, put, inv_in, inv_at, source_in, source_at, line_at, line_made, all_made, controller_of}
use Rattle.lhg_ctl.specs.Draft.{PlainDraft}
use Rattle.lhg_ctl.specs.DraftStates.{IsPlaced}
use Rattle.lhg_ctl.specs.Views.{plain_placed, plain_draft}
use Rattle.lhg_ctl.specs.declared.controllers.Draft.{Draft}
use Rattle.lhg_ctl.proofs.NamedSteps.{same_count}

-- a halt of the rest is one of the whole
pub rest_halts : {T A : Type 0} (r : Result T Halt) (whole rest : Marked A) (f : T → A) → IsRest whole rest → IsHaltedBy r rest f → IsHaltedBy r whole f
rest_halts (Ok x) whole rest f s h = h ∙ s.same
rest_halts (Err Wide) whole rest f s h = s.wide h
rest_halts (Err Rows) whole rest f s h = s.rows h
rest_halts (Err Pieces) whole rest f s h = s.pieces h
rest_halts (Err Memory) whole rest f s h = tt

map-set : (xs : List (List PlainSystem)) (k : ℕ) (ys : List PlainSystem) → map lines_of (set xs k ys) ≡ set (map lines_of xs) k (lines_of ys)
map-set [] k ys = refl
map-set (x ∷ xs) zero ys = refl
map-set (x ∷ xs) (suc k) ys = ap (λ zs. lines_of x ∷ zs) (map-set xs k ys)

lines_at : (xs : List (List PlainSystem)) (k : ℕ) → lines_of (get_or xs k []) ≡ get_or (map lines_of xs) k []
lines_at [] k = refl
lines_at (x ∷ xs) zero = refl
lines_at (x ∷ xs) (suc k) = lines_at xs k

-- the lists of rows with a piece more in one list
pub added : (old new : List (Vec PlainSystem)) (k : ℕ) (p : PlainSystem) → polys_of new ≡ set (polys_of old) k (polys_at old k ++ p ∷ []) → plain_region new ≡ set (plain_region old) k (get_or (plain_region old) k [] ++ p.lines ∷ [])
added old new k p h =
    ap (map lines_of) h ∙ map-set (polys_of old) k (polys_at old k ++ p ∷ [])
    ∙ ap (set (plain_region old) k) (lines_of-append (polys_at old k) (p ∷ []) ∙ ap (λ ls. ls ++ p.lines ∷ []) (lines_at (polys_of old) k))

-- a piece is put where it is added
pub put_as : {T : Type 0} (r : Result T Halt) (old new : List (Vec PlainSystem)) (k : ℕ) (p : PlainSystem) → IsHaltedByPieces r (counted_pieces (lines_of (polys_at old k ++ p ∷ []))) (λ _. lines_of (polys_at new k))
    → OnOk r (polys_of new ≡ set (polys_of old) k (polys_at old k ++ p ∷ [])) → IsHaltedByPieces r (put (plain_region old) k (Some p.lines)) (λ _. plain_region new)
put_as (Ok x) old new k p h e = added old new k p e
put_as (Err Wide) old new k p h e = h
put_as (Err Rows) old new k p h e = h
put_as (Err Pieces) old new k p h e = ap (λ ps. (counted_pieces ps).pieces) (sym (lines_of-append (polys_at old k) (p ∷ []) ∙ ap (λ ls. ls ++ p.lines ∷ []) (lines_at (polys_of old) k))) ∙ h
put_as (Err Memory) old new k p h e = tt

-- as many lists as before
pub count_same : (old new : List (Vec PlainSystem)) (k : ℕ) (ys : List PlainSystem) → polys_of new ≡ set (polys_of old) k ys → length new ≡ length old
count_same old new k ys h = sym (length-map new (λ ps. ps.items)) ∙ ap length h ∙ length-set (polys_of old) k ys ∙ length-map old (λ ps. ps.items)

-- ---- widths

over-lists : (n : ℕ) (lists : List (Vec PlainSystem)) → AreAllOver n lists → AllOf (AllVars n) (polys_of lists)
over-lists n [] h = tt
over-lists n (ps ∷ lists) h = (h.0, over-lists n lists h.1)

over-back : (n : ℕ) (lists : List (Vec PlainSystem)) → AllOf (AllVars n) (polys_of lists) → AreAllOver n lists
over-back n [] h = tt
over-back n (ps ∷ lists) h = (h.0, over-back n lists h.1)

over-at : (n : ℕ) (xs : List (List PlainSystem)) (k : ℕ) → AllOf (AllVars n) xs → AllVars n (get_or xs k [])
over-at n [] k h = tt
over-at n (x ∷ xs) zero h = h.0
over-at n (x ∷ xs) (suc k) h = over-at n xs k h.1

over-set : (n : ℕ) (xs : List (List PlainSystem)) (k : ℕ) (ps : List PlainSystem) → AllOf (AllVars n) xs → AllVars n ps → AllOf (AllVars n) (set xs k ps)
over-set n [] k ps h g = tt
over-set n (x ∷ xs) zero ps h g = (g, h.1)
over-set n (x ∷ xs) (suc k) ps h g = (h.0, over-set n xs k ps h.1 g)

-- a piece more over n variables
pub over_added : {T : Type 0} (r : Result T Halt) (old new : List (Vec PlainSystem)) (k : ℕ) (p : PlainSystem) → OnOk r (polys_of new ≡ set (polys_of old) k (polys_at old k ++ p ∷ [])) → (n : ℕ) → AreAllOver n old → p.width ≡ n → OnOk r (AreAllOver n new)
over_added (Ok x) old new k p e n h w =
    let all = over-lists n old h in
    over-back n new (subst (AllOf (AllVars n)) (sym e) (over-set n (polys_of old) k (polys_at old k ++ p ∷ []) all (all-append (λ q. q.width ≡ n) (polys_at old k) (p ∷ []) (over-at n (polys_of old) k all) (w, tt))))
over_added (Err e) old new k p h n g w = tt

-- empty lists are over n variables
pub over_empty : (n : ℕ) (lists : List (Vec PlainSystem)) (count : ℕ) → plain_region lists ≡ replicate count [] → AreAllOver n lists
over_empty n [] count e = tt
over_empty n (ps ∷ lists) zero e = absurd cc
over_empty n (ps ∷ lists) (suc count) e =
    let here : lines_of ps.items ≡ [] = cc in
    let later : plain_region lists ≡ replicate count [] = cc in
    (none ps.items here, over_empty n lists count later)
  where
    none : (qs : List PlainSystem) → lines_of qs ≡ [] → AllVars n qs
    none [] f = tt
    none (q ∷ qs) f = absurd cc

-- the invariant of the location at a place
pub inv_is : (locs : List Location) (i : ℕ) (l : Location) → i < length locs → l ≡ get_or locs i l → inv_in (slice_get (map plain_location locs) i) ≡ l.inv.items
inv_is [] i l h e = absurd (omega arith)
inv_is (x ∷ locs) zero l h e = ap (λ (y : Location). y.inv.items) (sym e)
inv_is (x ∷ locs) (suc i) l h e = inv_is locs i l (omega arith) e

-- the source of the switch at a place
pub source_is : (switches : List Switch) (i : ℕ) (w : Switch) → i < length switches → w ≡ get_or switches i w → source_in (slice_get (map plain_switch switches) i) ≡ w.from
source_is [] i w h e = absurd (omega arith)
source_is (x ∷ switches) zero w h e = ap (λ (y : Switch). y.from) (sym e)
source_is (x ∷ switches) (suc i) w h e = source_is switches i w (omega arith) e

-- the marks of what is made are marks of a line
pub made_part : (a : PlainPlant) (l : ℕ) (lists : List (List PlainPiece)) (k : ℕ) (inv rows : PlainPiece) → inv_at a l ≡ inv → IsPart (line_at a l lists (k, rows)) (made_in (length a.vars) inv rows)
made_part a l lists k inv rows e =
    subst (λ i. IsPart (line_at a l lists (k, rows)) (made_in (length a.vars) i rows)) e
    (and_then-part (made_in (length a.vars) (inv_at a l) rows) (λ o. put lists k o))

-- what is put is the rest of a line
pub put_rest : (a : PlainPlant) (l : ℕ) (lists : List (List PlainPiece)) (k : ℕ) (inv rows : PlainPiece) (o : Option PlainPiece) → inv_at a l ≡ inv → o ≡ (made_in (length a.vars) inv rows).value → IsRest (line_at a l lists (k, rows)) (put lists k o)
put_rest a l lists k inv rows o e h =
    subst (λ x. IsRest (line_at a l lists (k, rows)) (put lists k x)) (ap (λ i. (made_in (length a.vars) i rows).value) e ∙ sym h)
    (and_then-rest (made_in (length a.vars) (inv_at a l) rows) (λ x. put lists k x))

-- ---- the lines one after another

-- empty lists at the beginning
pub start_rest : (a : PlainPlant) (loc : ℕ → ℕ) (count : ℕ) (lists : List (List PlainPiece)) (ps : List (ℕ × PlainPiece)) → lists ≡ replicate count [] → IsRest (all_made a loc count ps) (walk (line_made a loc) lists ps)
start_rest a loc count lists ps e = subst (λ ls. IsRest (all_made a loc count ps) (walk (line_made a loc) ls ps)) (sym e) (rest_self (all_made a loc count ps))

pub start_count : (lists : List (Vec PlainSystem)) (count : ℕ) → plain_region lists ≡ replicate count [] → length lists ≡ count
start_count lists count e = sym (same_count lists) ∙ ap length e ∙ size count
  where
    size : (n : ℕ) → length (replicate n (let e : List PlainPiece = [] in e)) ≡ n
    size zero = refl
    size (suc n) = ap (λ (k : ℕ). suc k) (size n)

module _ (a : PlainPlant) (loc : ℕ → ℕ) (whole : Marked (List (List PlainPiece))) (lines : List (ℕ × Vec PlainRow)) (i : ℕ) (x : ℕ × Vec PlainRow) (e : x ≡ get_or lines i x) (lt : i < length lines)
    (lists : List (List PlainPiece)) (rest : IsRest whole (walk (line_made a loc) lists (map plain_placed (drop i lines)))) where
  here : IsRest whole (walk (line_made a loc) lists (plain_placed x ∷ map plain_placed (drop (i + 1) lines)))
  here = subst (λ ls. IsRest whole (walk (line_made a loc) lists (map plain_placed ls))) (drop_cons lines i x e lt) rest

  -- the marks of a line are marks of all
  pub line_part : IsPart whole (line_made a loc lists (plain_placed x))
  line_part = walk-part (line_made a loc) whole lists (plain_placed x) (map plain_placed (drop (i + 1) lines)) here

  -- behind a line the further ones are left
  pub line_rest : (new : List (List PlainPiece)) → new ≡ (line_made a loc lists (plain_placed x)).value → IsRest whole (walk (line_made a loc) new (map plain_placed (drop (i + 1) lines)))
  line_rest new h = walk-step (line_made a loc) whole lists new (plain_placed x) (map plain_placed (drop (i + 1) lines)) here h

-- at the end nothing is left
pub end_rest : (a : PlainPlant) (loc : ℕ → ℕ) (whole : Marked (List (List PlainPiece))) (lines : List (ℕ × Vec PlainRow)) (i : ℕ) (lists : List (List PlainPiece)) → length lines ≤ i
    → IsRest whole (walk (line_made a loc) lists (map plain_placed (drop i lines))) → lists ≡ whole.value
end_rest a loc whole lines i lists h r = (subst (λ ls. IsRest whole (walk (line_made a loc) lists (map plain_placed ls))) (drop_of_length-le lines h) r).same

-- a line by its place and its rows
pub line_is : (lines : List (ℕ × Vec PlainRow)) (i : ℕ) (x y : ℕ × Vec PlainRow) (d : List PlainRow) → i < length lines → x ≡ get_or lines i x → d ≡ (get_or lines i y).1.items → ((get_or lines i x).0, d) ≡ plain_placed x
line_is [] i x y d h e g = absurd (omega arith)
line_is (l ∷ lines) zero x y d h e g = ap (λ (z : List PlainRow). (l.0, z)) (g ∙ ap (λ (w : ℕ × Vec PlainRow). w.1.items) (sym e)) ∙ ap (λ (w : ℕ × Vec PlainRow). (w.0, x.1.items)) (sym e)
line_is (l ∷ lines) (suc i) x y d h e g = line_is lines i x y d (omega arith) e g

module _ (n count : ℕ) (lines : List (ℕ × Vec PlainRow)) (i : ℕ) (x : ℕ × Vec PlainRow) (all : AllOf (IsPlaced n count) (map plain_placed lines)) (lt : i < length lines) (e : x ≡ get_or lines i x) where
  -- the place of a line is there
  pub place_below : (get_or lines i x).0 < count
  place_below = subst (λ (w : ℕ × Vec PlainRow). w.0 < count) e (all_map_at (IsPlaced n count) plain_placed lines i x all lt e).place

  -- its rows are over n variables
  pub rows_wide : (rows : List PlainRow) → rows ≡ (get_or lines i x).1.items → AllWide n rows
  rows_wide rows g = subst (AllWide n) (sym (g ∙ ap (λ (w : ℕ × Vec PlainRow). w.1.items) (sym e))) (all_map_at (IsPlaced n count) plain_placed lines i x all lt e).wide

-- ---- the controller

-- the marks of the pieces are marks of the controller
pub region_part : (a : PlainPlant) (d : PlainDraft) (n : ℕ) (ps : List (ℕ × PlainPiece)) → n ≡ length a.locs → ps ≡ d.pieces → IsPart (controller_of a d) (all_made a (λ l. l) n ps)
unfolding controller_of
region_part a d n ps e f =
    subst (λ k. IsPart (controller_of a d) (all_made a (λ l. l) k ps)) (sym e) (subst (λ xs. IsPart (controller_of a d) (all_made a (λ l. l) (length a.locs) xs)) (sym f)
    (and_then-part (all_made a (λ l. l) (length a.locs) d.pieces) (λ region. valued (λ guards. record { region = region; guards = guards }) (all_made a (source_at a) (length a.switches) d.guards))))

-- and so are those of the guards
pub guards_part : (a : PlainPlant) (d : PlainDraft) (n : ℕ) (gs : List (ℕ × PlainPiece)) → n ≡ length a.switches → gs ≡ d.guards → IsPart (controller_of a d) (all_made a (source_at a) n gs)
unfolding controller_of
guards_part a d n gs e f =
    subst (λ k. IsPart (controller_of a d) (all_made a (source_at a) k gs)) (sym e) (subst (λ xs. IsPart (controller_of a d) (all_made a (source_at a) (length a.switches) xs)) (sym f)
    (rest_part (controller_of a d) _ (all_made a (source_at a) (length a.switches) d.guards)
    (and_then-rest (all_made a (λ l. l) (length a.locs) d.pieces) (λ region. valued (λ guards. record { region = region; guards = guards }) (all_made a (source_at a) (length a.switches) d.guards)))
    (record { wide = λ h. h; rows = λ h. h; pieces = λ h. h })))

-- its pieces and its guards
controller_is : (a : PlainPlant) (d : PlainDraft) (n m : ℕ) (ps gs : List (ℕ × PlainPiece)) (region guards : List (List PlainPiece)) → n ≡ length a.locs → ps ≡ d.pieces → m ≡ length a.switches → gs ≡ d.guards
    → region ≡ (all_made a (λ l. l) n ps).value → guards ≡ (all_made a (source_at a) m gs).value → (let c : PlainController = record { region = region; guards = guards } in c ≡ (controller_of a d).value)
unfolding controller_of
controller_is a d n m ps gs region guards e f g h r s =
    ap (λ x. record { region = x; guards = guards }) (r ∙ ap (λ k. (all_made a (λ l. l) k ps).value) e ∙ ap (λ xs. (all_made a (λ l. l) (length a.locs) xs).value) f)
    ∙ ap (λ x. record { region = (all_made a (λ l. l) (length a.locs) d.pieces).value; guards = x }) (s ∙ ap (λ k. (all_made a (source_at a) k gs).value) g ∙ ap (λ xs. (all_made a (source_at a) (length a.switches) xs).value) h)

-- the controller of a plant and a draft of the code
pub made_controller : (plant : Plant) (draft : Draft) (ps gs : List (ℕ × Vec PlainRow)) (region guards : List (List PlainPiece)) → ps ≡ draft.pieces.items → gs ≡ draft.guards.items
    → region ≡ (all_made (plain_plant plant) (λ l. l) (length plant.locs.items) (map plain_placed ps)).value → guards ≡ (all_made (plain_plant plant) (source_at (plain_plant plant)) (length plant.switches.items) (map plain_placed gs)).value
    → (let c : PlainController = record { region = region; guards = guards } in c ≡ (controller_of (plain_plant plant) (plain_draft draft)).value)
made_controller plant draft ps gs region guards e f r s =
    controller_is (plain_plant plant) (plain_draft draft) (length plant.locs.items) (length plant.switches.items) (map plain_placed ps) (map plain_placed gs) region guards
    (sym (length-map plant.locs.items plain_location)) (ap (map plain_placed) e) (sym (length-map plant.switches.items plain_switch)) (ap (map plain_placed) f) r s
