-- The lines of a plant are taken one after another.
use Rattle.std.proofs.Common.{◌≡◌, ◌<◌, ◌≤◌, ◌+◌, ℕ, suc, List, [], ◌∷◌, ◌++◌, length, map, refl, sym, ap, ◌∙◌, Bool, true, false, not, cond, ◌&&◌, Some, None, arith, append_assoc, append-nil, length-append}
use Rattle.std.specs.Prelude.{nat_lt}
use Rattle.std.specs.List.{flat_map}
use Rattle.std.specs.Option.{option_and_then, option_map}
use Rattle.std.proofs.lemmas.Bool.{and_parts, not-true, lt-ltb}
use Rattle.std.proofs.lemmas.List.{map-append}
use Rattle.lhg_row.specs.Piece.{PlainPiece}
use Rattle.lhg_math.specs.Tests.{AllOf}
use Rattle.lhg_plant.specs.Plant.{PlainLocation, PlainSwitch}
use Rattle.lhg_plant.specs.Differ.{is_among, differ_from, all_differ}
use Rattle.lhg_read.specs.PlantLine.{BlockLine, inv, flow, safe, WrittenSwitch, PlantLine, loc, block, switch, end}
use Rattle.lhg_read.specs.PlantText.{Block, invs_of, flows_of, safes_of, rows_or, IsBlock, location_of, switch_at, block_lines, plant_lines}
use Rattle.lhg_read.specs.PlantSteps.{PlainDraft, empty_draft, is_nil, with_last, safe_lines, loc_names, switch_names, is_open, begun, with_inv, with_flow, with_safe, may_begin, may_switch, step, steps}
use Rattle.lhg_read.proofs.PlantParts.{with_last-append, safe_lines-append, not_nil, same_location, switch_name, names_of_blocks}
use Rattle.lhg_read.specs.MachineLaws.{going_on}

-- one step of a draft that has not ended
one_step : (n : ℕ) (d e : PlainDraft) (l : PlantLine) (rest : List PlantLine) → d.ended ≡ false → step n d l ≡ Some e → steps n d (l ∷ rest) ≡ steps n e rest
one_step n d e l rest t h = going_on d.ended (option_and_then (λ x. steps n x rest) (step n d l)) t ∙ ap (option_and_then (λ x. steps n x rest)) h

-- the count of a flag
abbrev pub flag_count : Bool → ℕ
flag_count b = cond b 1 0

flag_off : (b : Bool) (k : ℕ) → flag_count b + suc k ≤ 1 → b ≡ false
flag_off true k h = absurd (omega arith)
flag_off false k h = refl

-- ---- the lines of a block

-- the location with further lines
abbrev pub gone_on : Bool → Bool → PlainLocation → List BlockLine → PlainLocation
gone_on has_inv has_flow x ls = record {
  name = x.name;
  inv = cond has_inv x.inv (rows_or x.inv (invs_of ls));
  flow = cond has_flow x.flow (rows_or x.flow (flows_of ls));
  safe = x.safe ++ safes_of ls;
}

-- what is left of a draft after the lines of a block
record AfterBlock (n : ℕ) (d : PlainDraft) (xs : List PlainLocation) (x : PlainLocation) (ls : List BlockLine) : Type 0 where
  new : PlainDraft
  locs : new.locs ≡ xs ++ gone_on d.has_inv d.has_flow x ls ∷ []
  switches : new.switches ≡ d.switches
  going : new.ended ≡ false
  taken : (rest : List PlantLine) → steps n d (map (λ l. block l) ls ++ rest) ≡ steps n new rest

open_at : (d : PlainDraft) (xs : List PlainLocation) (x : PlainLocation) → d.locs ≡ xs ++ x ∷ [] → is_nil d.switches ≡ true → is_open d ≡ true
open_at d xs x e h = let a : is_nil d.locs ≡ false = ap is_nil e ∙ not_nil xs x in rw (a, h) refl

-- a draft after one line, and then the further lines
then_block : (n : ℕ) (d e : PlainDraft) (xs : List PlainLocation) (x y : PlainLocation) (l : BlockLine) (ls : List BlockLine) → d.ended ≡ false → step n d (block l) ≡ Some e
    → e.switches ≡ d.switches → gone_on e.has_inv e.has_flow y ls ≡ gone_on d.has_inv d.has_flow x (l ∷ ls) → AfterBlock n e xs y ls → AfterBlock n d xs x (l ∷ ls)
then_block n d e xs x y l ls t h s g a = record {
  new = a.new;
  locs = a.locs ∙ ap (λ z. xs ++ z ∷ []) g;
  switches = a.switches ∙ s;
  going = a.going;
  taken = λ rest. one_step n d e (block l) (map (λ k. block k) ls ++ rest) t h ∙ a.taken rest;
}

block_taken : (n : ℕ) (ls : List BlockLine) (d : PlainDraft) (xs : List PlainLocation) (x : PlainLocation) → d.locs ≡ xs ++ x ∷ [] → is_nil d.switches ≡ true → d.ended ≡ false
    → flag_count d.has_inv + length (invs_of ls) ≤ 1 → flag_count d.has_flow + length (flows_of ls) ≤ 1 → length x.safe + length (safes_of ls) ≤ 64 → AfterBlock n d xs x ls
block_taken n [] d xs x e h t i f s = record {
  new = d;
  locs = e ∙ ap (λ z. xs ++ z ∷ []) (same_location x.name _ _ _ _ _ _ (same_if d.has_inv x.inv) (same_if d.has_flow x.flow) (sym (append-nil x.safe)));
  switches = refl;
  going = t;
  taken = λ rest. refl;
}
  where
    same_if : (b : Bool) (rows : PlainPiece) → rows ≡ cond b rows rows
    same_if true rows = refl
    same_if false rows = refl
block_taken n (inv rows ∷ ls) d xs x e h t i f s =
    let none : d.has_inv ≡ false = flag_off d.has_inv (length (invs_of ls)) i in
    let o = open_at d xs x e h in
    let y = with_inv rows x in
    let new : PlainDraft = record d { locs = with_last (with_inv rows) d.locs; has_inv = true } in
    let may : (is_open d && not d.has_inv) ≡ true = ap (λ b. b && not d.has_inv) o ∙ ap not none in
    let at : new.locs ≡ xs ++ y ∷ [] = ap (with_last (with_inv rows)) e ∙ with_last-append (with_inv rows) xs x in
    then_block n d new xs x y (inv rows) ls t (ap (λ b. cond b (Some new) None) may) refl
    (same_location x.name _ _ _ _ _ _ (sym (ap (λ b. cond b x.inv rows) none)) refl refl)
    (block_taken n ls new xs y at h t (let k : flag_count d.has_inv ≡ 0 = ap flag_count none in omega (arith, i, k)) f s)
block_taken n (flow rows ∷ ls) d xs x e h t i f s =
    let none : d.has_flow ≡ false = flag_off d.has_flow (length (flows_of ls)) f in
    let o = open_at d xs x e h in
    let y = with_flow rows x in
    let new : PlainDraft = record d { locs = with_last (with_flow rows) d.locs; has_flow = true } in
    let may : (is_open d && not d.has_flow) ≡ true = ap (λ b. b && not d.has_flow) o ∙ ap not none in
    let at : new.locs ≡ xs ++ y ∷ [] = ap (with_last (with_flow rows)) e ∙ with_last-append (with_flow rows) xs x in
    then_block n d new xs x y (flow rows) ls t (ap (λ b. cond b (Some new) None) may) refl
    (same_location x.name _ _ _ _ _ _ refl (sym (ap (λ b. cond b x.flow rows) none)) refl)
    (block_taken n ls new xs y at h t i (let k : flag_count d.has_flow ≡ 0 = ap flag_count none in omega (arith, f, k)) s)
block_taken n (safe rows ∷ ls) d xs x e h t i f s =
    let o = open_at d xs x e h in
    let y = with_safe rows x in
    let new : PlainDraft = record d { locs = with_last (with_safe rows) d.locs } in
    let count : safe_lines d.locs ≡ length x.safe = ap safe_lines e ∙ safe_lines-append xs x in
    let room : nat_lt (safe_lines d.locs) 64 ≡ true = lt-ltb (safe_lines d.locs) 64 (omega (arith, count, s)) in
    let may : (is_open d && nat_lt (safe_lines d.locs) 64) ≡ true = ap (λ b. b && nat_lt (safe_lines d.locs) 64) o ∙ room in
    let at : new.locs ≡ xs ++ y ∷ [] = ap (with_last (with_safe rows)) e ∙ with_last-append (with_safe rows) xs x in
    let k = length-append x.safe (rows ∷ []) in
    then_block n d new xs x y (safe rows) ls t (ap (λ b. cond b (Some new) None) may) refl
    (same_location x.name _ _ _ _ _ _ refl refl (append_assoc x.safe (rows ∷ []) (safes_of ls)))
    (block_taken n ls new xs y at h t i f (omega (arith, k, s)))

-- ---- the blocks

-- what is left of a draft after blocks
record AfterBlocks (n : ℕ) (d : PlainDraft) (bs : List Block) : Type 0 where
  new : PlainDraft
  locs : new.locs ≡ d.locs ++ map (location_of n) bs
  switches : new.switches ≡ []
  going : new.ended ≡ false
  taken : (rest : List PlantLine) → steps n d (flat_map block_lines bs ++ rest) ≡ steps n new rest

nil_of : {A : Type 0} (xs : List A) → xs ≡ [] → is_nil xs ≡ true
nil_of xs e = ap is_nil e

blocks_taken : (n : ℕ) (bs : List Block) (d : PlainDraft) → d.switches ≡ [] → d.ended ≡ false → length d.locs + length bs ≤ 64 → differ_from (loc_names d.locs) (map (λ b. b.name) bs) ≡ true → AllOf IsBlock bs → AfterBlocks n d bs
blocks_taken n [] d h t few differ each = record { new = d; locs = sym (append-nil d.locs); switches = h; going = t; taken = λ rest. refl }
blocks_taken n (b ∷ bs) d h t few differ each =
    let a = and_parts (not (is_among b.name (loc_names d.locs))) (differ_from (loc_names d.locs ++ b.name ∷ []) (map (λ x. x.name) bs)) differ in
    let first : PlainDraft = record d { locs = d.locs ++ begun n b.name ∷ []; has_inv = false; has_flow = false } in
    let room : nat_lt (length d.locs) 64 ≡ true = lt-ltb (length d.locs) 64 (omega (arith, few)) in
    let may : may_begin d b.name ≡ true = rw (nil_of d.switches h, room, not-true (is_among b.name (loc_names d.locs)) a.0) refl in
    let began : step n d (loc b.name) ≡ Some first = ap (λ c. cond c (Some first) None) may in
    let one = each.0.one_inv in
    let flows = each.0.one_flow in
    let safes = each.0.few_safe in
    let in' = block_taken n b.lines first d.locs (begun n b.name) refl (nil_of d.switches h) t (omega (arith, one)) (omega (arith, flows)) (omega (arith, safes)) in
    let names : loc_names in'.new.locs ≡ loc_names d.locs ++ b.name ∷ [] = ap loc_names in'.locs ∙ map-append (λ l. l.name) d.locs (location_of n b ∷ []) in
    let k = length-append d.locs (location_of n b ∷ []) in
    let size = ap length in'.locs in
    let r = blocks_taken n bs in'.new (in'.switches ∙ h) in'.going (omega (arith, few, k, size)) (ap (λ ns. differ_from ns (map (λ x. x.name) bs)) names ∙ a.1) each.1 in
    record {
      new = r.new;
      locs = r.locs ∙ ap (λ ls. ls ++ map (location_of n) bs) in'.locs ∙ append_assoc d.locs (location_of n b ∷ []) (map (location_of n) bs);
      switches = r.switches;
      going = r.going;
      taken = λ rest.
          ap (steps n d) (append_assoc (block_lines b) (flat_map block_lines bs) rest)
          ∙ one_step n d first (loc b.name) (map (λ l. block l) b.lines ++ (flat_map block_lines bs ++ rest)) t began ∙ in'.taken (flat_map block_lines bs ++ rest) ∙ r.taken rest;
    }

-- ---- the switches

-- what is left of a draft after switches
record AfterSwitches (n : ℕ) (d : PlainDraft) (ws : List WrittenSwitch) (ss : List PlainSwitch) : Type 0 where
  new : PlainDraft
  locs : new.locs ≡ d.locs
  switches : new.switches ≡ d.switches ++ ss
  going : new.ended ≡ false
  taken : (rest : List PlantLine) → steps n d (map (λ w. switch w) ws ++ rest) ≡ steps n new rest

switches_taken : (n : ℕ) (ws : List WrittenSwitch) (ss : List PlainSwitch) (d : PlainDraft) → is_nil d.locs ≡ false → d.ended ≡ false → length d.switches + length ws ≤ 256
    → differ_from (switch_names d.switches) (map (λ w. w.name) ws) ≡ true → map (switch_at (loc_names d.locs)) ws ≡ map (λ s. Some s) ss → AfterSwitches n d ws ss
switches_taken n [] [] d h t few differ e = record { new = d; locs = refl; switches = sym (append-nil d.switches); going = t; taken = λ rest. refl }
switches_taken n [] (s ∷ ss) d h t few differ e = absurd cc
switches_taken n (w ∷ ws) [] d h t few differ e = absurd cc
switches_taken n (w ∷ ws) (s ∷ ss) d h t few differ e =
    let here : switch_at (loc_names d.locs) w ≡ Some s = cc in
    let later : map (switch_at (loc_names d.locs)) ws ≡ map (λ x. Some x) ss = cc in
    let a = and_parts (not (is_among w.name (switch_names d.switches))) (differ_from (switch_names d.switches ++ w.name ∷ []) (map (λ x. x.name) ws)) differ in
    let new : PlainDraft = record d { switches = d.switches ++ s ∷ [] } in
    let room : nat_lt (length d.switches) 256 ≡ true = lt-ltb (length d.switches) 256 (omega (arith, few)) in
    let may : may_switch d w.name ≡ true = rw (h, room, not-true (is_among w.name (switch_names d.switches)) a.0) refl in
    let done : step n d (switch w) ≡ Some new =
    ap (λ c. cond c (option_map (λ x. record d { switches = d.switches ++ x ∷ [] }) (switch_at (loc_names d.locs) w)) None) may ∙ ap (option_map (λ x. record d { switches = d.switches ++ x ∷ [] })) here in
    let names : switch_names new.switches ≡ switch_names d.switches ++ w.name ∷ [] = map-append (λ x. x.name) d.switches (s ∷ []) ∙ ap (λ m. switch_names d.switches ++ m ∷ []) (switch_name (loc_names d.locs) w s here) in
    let k = length-append d.switches (s ∷ []) in
    let r = switches_taken n ws ss new h t (omega (arith, few, k)) (ap (λ ns. differ_from ns (map (λ x. x.name) ws)) names ∙ a.1) later in
    record {
      new = r.new;
      locs = r.locs;
      switches = r.switches ∙ append_assoc d.switches (s ∷ []) ss;
      going = r.going;
      taken = λ rest. one_step n d new (switch w) (map (λ x. switch x) ws ++ rest) t done ∙ r.taken rest;
    }

-- ---- the whole

-- the draft of a plant
pub record IsWhole (n : ℕ) (bs : List Block) (ws : List WrittenSwitch) (ss : List PlainSwitch) : Type 0 where
  pub new : PlainDraft
  pub locs : new.locs ≡ map (location_of n) bs
  pub switches : new.switches ≡ ss
  pub ended : new.ended ≡ true
  pub taken : steps n empty_draft (plant_lines bs ws) ≡ Some new

some_blocks : (n : ℕ) (bs : List Block) → 0 < length bs → is_nil (map (location_of n) bs) ≡ false
some_blocks n [] h = absurd (omega arith)
some_blocks n (b ∷ bs) h = refl

-- all lines of a plant are taken
pub plant_taken : (n : ℕ) (bs : List Block) (ws : List WrittenSwitch) (ss : List PlainSwitch) → AllOf IsBlock bs → 0 < length bs → length bs ≤ 64 → all_differ (map (λ b. b.name) bs) ≡ true
    → map (switch_at (map (λ b. b.name) bs)) ws ≡ map (λ s. Some s) ss → length ws ≤ 256 → all_differ (map (λ w. w.name) ws) ≡ true → IsWhole n bs ws ss
plant_taken n bs ws ss each some few differ placed few_switches switches_differ =
    let a = blocks_taken n bs empty_draft refl refl (omega (arith, few)) differ each in
    let nil : is_nil a.new.locs ≡ false = ap is_nil a.locs ∙ some_blocks n bs some in
    let names : map (λ b. b.name) bs ≡ loc_names a.new.locs = sym (ap loc_names a.locs ∙ names_of_blocks n bs) in
    let none = ap length a.switches in
    let b = switches_taken n ws ss a.new nil a.going (omega (arith, none, few_switches)) (ap (λ x. differ_from (switch_names x) (map (λ w. w.name) ws)) a.switches ∙ switches_differ) (ap (λ ns. map (switch_at ns) ws) (sym names) ∙ placed) in
    let last : PlainDraft = record b.new { ended = true } in
    let done : step n b.new end ≡ Some last = ap (λ c. cond c None (Some last)) (ap is_nil b.locs ∙ nil) in
    record {
      new = last;
      locs = b.locs ∙ a.locs;
      switches = b.switches ∙ ap (λ xs. xs ++ ss) a.switches;
      ended = refl;
      taken = a.taken (map (λ w. switch w) ws ++ end ∷ []) ∙ b.taken (end ∷ []) ∙ one_step n b.new last end [] b.going done;
    }
