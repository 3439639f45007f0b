-- Lines of a plant that are taken one after another are blocks and switches.
use Rattle.std.proofs.Common.{◌≡◌, ℕ, List, [], ◌∷◌, ◌++◌, length, map, refl, sym, ap, ◌∙◌, true, false, Option, Some, None, append-nil}
use Rattle.std.specs.Option.{option_and_then, option_map}
use Rattle.std.proofs.lemmas.List.{map-append}
use Rattle.lhg_row.specs.Piece.{PlainPiece}
use Rattle.lhg_plant.specs.Plant.{PlainLocation, PlainSwitch}
use Rattle.lhg_plant.specs.Still.{still_rows}
use Rattle.lhg_read.specs.Term.{place_of}
use Rattle.lhg_read.specs.PlantLine.{BlockLine, inv, flow, safe, WrittenSwitch, loc, block}
use Rattle.lhg_read.specs.PlantText.{Block, invs_of, flows_of, safes_of, rows_or, location_of, switch_at, block_lines}
use Rattle.lhg_read.specs.PlantSteps.{is_nil, with_last, safe_lines, loc_names, switch_names, with_inv, with_flow, with_safe}

-- ---- lists

pub with_last-append : {A : Type 0} (f : A → A) (xs : List A) (x : A) → with_last f (xs ++ x ∷ []) ≡ xs ++ f x ∷ []
with_last-append f [] x = refl
with_last-append f (y ∷ []) x = refl
with_last-append f (y ∷ z ∷ xs) x = ap (λ zs. y ∷ zs) (with_last-append f (z ∷ xs) x)

pub safe_lines-append : (xs : List PlainLocation) (x : PlainLocation) → safe_lines (xs ++ x ∷ []) ≡ length x.safe
safe_lines-append [] x = refl
safe_lines-append (y ∷ []) x = refl
safe_lines-append (y ∷ z ∷ xs) x = safe_lines-append (z ∷ xs) x

pub not_nil : {A : Type 0} (xs : List A) (x : A) → is_nil (xs ++ x ∷ []) ≡ false
not_nil [] x = refl
not_nil (y ∷ xs) x = refl

pub nil_is : {A : Type 0} (xs : List A) → is_nil xs ≡ true → xs ≡ []
nil_is [] e = refl
nil_is (x ∷ xs) e = absurd cc

-- ---- one line more in a block

pub invs-append : (xs ys : List BlockLine) → invs_of (xs ++ ys) ≡ invs_of xs ++ invs_of ys
invs-append [] ys = refl
invs-append (inv rows ∷ xs) ys = ap (λ zs. rows ∷ zs) (invs-append xs ys)
invs-append (flow rows ∷ xs) ys = invs-append xs ys
invs-append (safe rows ∷ xs) ys = invs-append xs ys

pub flows-append : (xs ys : List BlockLine) → flows_of (xs ++ ys) ≡ flows_of xs ++ flows_of ys
flows-append [] ys = refl
flows-append (inv rows ∷ xs) ys = flows-append xs ys
flows-append (flow rows ∷ xs) ys = ap (λ zs. rows ∷ zs) (flows-append xs ys)
flows-append (safe rows ∷ xs) ys = flows-append xs ys

pub safes-append : (xs ys : List BlockLine) → safes_of (xs ++ ys) ≡ safes_of xs ++ safes_of ys
safes-append [] ys = refl
safes-append (inv rows ∷ xs) ys = safes-append xs ys
safes-append (flow rows ∷ xs) ys = safes-append xs ys
safes-append (safe rows ∷ xs) ys = ap (λ zs. rows ∷ zs) (safes-append xs ys)

-- the block with a line more
abbrev pub and_line : Block → BlockLine → Block
and_line b line = record { name = b.name; lines = b.lines ++ line ∷ [] }

pub block_lines-more : (b : Block) (line : BlockLine) → block_lines (and_line b line) ≡ block_lines b ++ block line ∷ []
block_lines-more b line = ap (λ ls. loc b.name ∷ ls) (map-append (λ l. block l) b.lines (line ∷ []))

pub same_location : (name : List ℕ) (i j f g : PlainPiece) (s t : List PlainPiece) → i ≡ j → f ≡ g → s ≡ t
    → (let a : PlainLocation = record { name = name; inv = i; flow = f; safe = s } in let b : PlainLocation = record { name = name; inv = j; flow = g; safe = t } in a ≡ b)
same_location name i j f g s t p q r = cc

-- the location of a block with an `inv` line more, where it had none
pub inv_more : (n : ℕ) (b : Block) (rows : PlainPiece) → invs_of b.lines ≡ [] → location_of n (and_line b (inv rows)) ≡ with_inv rows (location_of n b)
inv_more n b rows none =
    same_location b.name _ _ _ _ _ _
    (ap (rows_or []) (invs-append b.lines (inv rows ∷ []) ∙ ap (λ zs. zs ++ rows ∷ []) none))
    (ap (rows_or (still_rows n)) (flows-append b.lines (inv rows ∷ []) ∙ append-nil (flows_of b.lines)))
    (safes-append b.lines (inv rows ∷ []) ∙ append-nil (safes_of b.lines))

-- the same of a `flow` line
pub flow_more : (n : ℕ) (b : Block) (rows : PlainPiece) → flows_of b.lines ≡ [] → location_of n (and_line b (flow rows)) ≡ with_flow rows (location_of n b)
flow_more n b rows none =
    same_location b.name _ _ _ _ _ _
    (ap (rows_or []) (invs-append b.lines (flow rows ∷ []) ∙ append-nil (invs_of b.lines)))
    (ap (rows_or (still_rows n)) (flows-append b.lines (flow rows ∷ []) ∙ ap (λ zs. zs ++ rows ∷ []) none))
    (safes-append b.lines (flow rows ∷ []) ∙ append-nil (safes_of b.lines))

-- and of a `safe` line
pub safe_more : (n : ℕ) (b : Block) (rows : PlainPiece) → location_of n (and_line b (safe rows)) ≡ with_safe rows (location_of n b)
safe_more n b rows =
    same_location b.name _ _ _ _ _ _
    (ap (rows_or []) (invs-append b.lines (safe rows ∷ []) ∙ append-nil (invs_of b.lines)))
    (ap (rows_or (still_rows n)) (flows-append b.lines (safe rows ∷ []) ∙ append-nil (flows_of b.lines)))
    (safes-append b.lines (safe rows ∷ []))

-- ---- names

pub names_of_blocks : (n : ℕ) (bs : List Block) → loc_names (map (location_of n) bs) ≡ map (λ b. b.name) bs
names_of_blocks n [] = refl
names_of_blocks n (b ∷ bs) = ap (λ zs. b.name ∷ zs) (names_of_blocks n bs)

-- a switch keeps its name
pub switch_name : (names : List (List ℕ)) (w : WrittenSwitch) (s : PlainSwitch) → switch_at names w ≡ Some s → s.name ≡ w.name
switch_name names w s e = by_from (place_of w.from names) e
  where
    by_from : (o : Option ℕ) → option_and_then (λ from. option_map (λ to. let r : PlainSwitch = record { name = w.name; from = from; to = to; side = w.side; jump = w.jump } in r) (place_of w.to names)) o ≡ Some s → s.name ≡ w.name
    by_from None e = absurd cc
    by_from (Some from) e = by_to from (place_of w.to names) e
      where
        by_to : (from : ℕ) (o : Option ℕ) → option_map (λ to. let r : PlainSwitch = record { name = w.name; from = from; to = to; side = w.side; jump = w.jump } in r) o ≡ Some s → s.name ≡ w.name
        by_to from None e = absurd cc
        by_to from (Some to) e = let f : (let r : PlainSwitch = record { name = w.name; from = from; to = to; side = w.side; jump = w.jump } in r ≡ s) = cc in sym (ap (λ r. r.name) f)

pub names_of_switches : (names : List (List ℕ)) (ws : List WrittenSwitch) (ss : List PlainSwitch) → map (switch_at names) ws ≡ map (λ s. Some s) ss → map (λ w. w.name) ws ≡ switch_names ss
names_of_switches names [] [] e = refl
names_of_switches names [] (s ∷ ss) e = absurd cc
names_of_switches names (w ∷ ws) [] e = absurd cc
names_of_switches names (w ∷ ws) (s ∷ ss) e =
    let h : switch_at names w ≡ Some s = cc in
    let t : map (switch_at names) ws ≡ map (λ s. Some s) ss = cc in
    ap (λ x. x ∷ map (λ w. w.name) ws) (sym (switch_name names w s h)) ∙ ap (λ xs. s.name ∷ xs) (names_of_switches names ws ss t)
