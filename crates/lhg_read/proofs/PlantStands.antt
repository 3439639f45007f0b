-- Lines that are taken one after another are a plant once the end is taken.
use Rattle.std.proofs.Common.{◌≡◌, ◌<◌, ◌≤◌, ◌+◌, ℕ, List, [], ◌∷◌, ◌++◌, length, map, refl, sym, ap, ◌∙◌, Bool, true, false, not, ◌&&◌, Some, arith, append_assoc, append-nil, length-append}
use Rattle.std.specs.Prelude.{nat_lt}
use Rattle.std.specs.List.{flat_map}
use Rattle.std.proofs.lemmas.Grind.{flat_map-append}
use Rattle.std.proofs.lemmas.List.{length-map, map-append}
use Rattle.std.proofs.lemmas.Bool.Decides.{nat_tests}
use Rattle.std.proofs.lemmas.Bool.{and_parts, not-true}
use Rattle.lhg_row.specs.Piece.{PlainPiece}
use Rattle.lhg_math.specs.Tests.{AllOf}
use Rattle.lhg_plant.specs.Plant.{PlainLocation, PlainSwitch}
use Rattle.lhg_plant.specs.Differ.{is_among, all_differ}
use Rattle.lhg_read.specs.PlantLine.{BlockLine, inv, flow, safe, WrittenSwitch, PlantLine, loc, block, switch, end}
use Rattle.lhg_read.specs.PlantText.{Block, invs_of, flows_of, safes_of, IsBlock, location_of, switch_at, block_lines, plant_lines}
use Rattle.lhg_read.specs.PlantSteps.{PlainDraft, empty_draft, is_nil, with_last, safe_lines, loc_names, switch_names, is_open, begun, with_inv, with_flow, with_safe, may_begin, may_switch}
use Rattle.lhg_read.proofs.VariableSteps.{differ_more}
use Rattle.lhg_read.proofs.PlantParts.{with_last-append, safe_lines-append, nil_is, and_line, block_lines-more, invs-append, flows-append, safes-append, inv_more, flow_more, safe_more, names_of_blocks, names_of_switches}
use Rattle.lhg_row.specs.Members.{all-append}

-- the names of the locations so far
abbrev pub names_so_far : List Block → Block → List (List ℕ)
names_so_far closed last = map (λ b. b.name) closed ++ last.name ∷ []

-- the lines say some closed blocks, an open one, and then switches; the draft is what they say
pub record Stands (n : ℕ) (lines : List PlantLine) (d : PlainDraft) : Type 0 where
  pub closed : List Block
  pub last : Block
  pub written : List WrittenSwitch
  pub lines_are : lines ≡ flat_map block_lines closed ++ (block_lines last ++ map (λ s. switch s) written)
  pub locs_are : d.locs ≡ map (location_of n) closed ++ location_of n last ∷ []
  pub each : AllOf IsBlock closed
  pub going_on : IsBlock last
  pub inv_flag : d.has_inv ≡ not (is_nil (invs_of last.lines))
  pub flow_flag : d.has_flow ≡ not (is_nil (flows_of last.lines))
  pub few : length closed < 64
  pub differ : all_differ (names_so_far closed last) ≡ true
  pub placed : map (switch_at (names_so_far closed last)) written ≡ map (λ s. Some s) d.switches
  pub few_switches : length written ≤ 256
  pub switches_differ : all_differ (map (λ w. w.name) written) ≡ true
  pub going : d.ended ≡ false

-- the lines say a plant to its end
pub record Ends (n : ℕ) (lines : List PlantLine) (d : PlainDraft) : Type 0 where
  pub blocks : List Block
  pub written : List WrittenSwitch
  pub lines_are : lines ≡ plant_lines blocks written
  pub locs_are : d.locs ≡ map (location_of n) blocks
  pub each : AllOf IsBlock blocks
  pub some : 0 < length blocks
  pub few : length blocks ≤ 64
  pub differ : all_differ (map (λ b. b.name) blocks) ≡ true
  pub placed : map (switch_at (map (λ b. b.name) blocks)) written ≡ map (λ s. Some s) d.switches
  pub few_switches : length written ≤ 256
  pub switches_differ : all_differ (map (λ w. w.name) written) ≡ true
  pub ended : d.ended ≡ true

-- ---- a location begins

no_written : (names : List (List ℕ)) (ws : List WrittenSwitch) (ss : List PlainSwitch) → map (switch_at names) ws ≡ map (λ s. Some s) ss → ss ≡ [] → ws ≡ []
no_written names [] ss e h = refl
no_written names (w ∷ ws) [] e h = absurd cc
no_written names (w ∷ ws) (s ∷ ss) e h = absurd cc

lower : (m n : ℕ) → nat_lt m n ≡ true → m < n
lower m n h = grind (arith, nat_tests, h)

module _ (n : ℕ) (lines : List PlantLine) (d : PlainDraft) where
  fresh_block : (name : List ℕ) → IsBlock (record { name = name; lines = [] })
  fresh_block name = record { one_inv = omega arith; one_flow = omega arith; few_safe = omega arith }

  -- the first
  pub begins_first : (name : List ℕ) → lines ≡ [] → d ≡ empty_draft → Stands n (lines ++ loc name ∷ []) (record d { locs = d.locs ++ begun n name ∷ []; has_inv = false; has_flow = false })
  begins_first name e f = record {
    closed = [];
    last = record { name = name; lines = [] };
    written = [];
    lines_are = ap (λ ls. ls ++ loc name ∷ []) e;
    locs_are = ap (λ (x : PlainDraft). x.locs ++ begun n name ∷ []) f;
    each = tt;
    going_on = fresh_block name;
    inv_flag = refl;
    flow_flag = refl;
    few = omega arith;
    differ = refl;
    placed = sym (ap (λ (x : PlainDraft). map (λ s. Some s) x.switches) f);
    few_switches = omega arith;
    switches_differ = refl;
    going = ap (λ (x : PlainDraft). x.ended) f;
  }

  module _ (s : Stands n lines d) where
    locs_names : loc_names d.locs ≡ names_so_far s.closed s.last
    locs_names = ap loc_names s.locs_are ∙ map-append (λ l. l.name) (map (location_of n) s.closed) (location_of n s.last ∷ []) ∙ ap (λ ns. ns ++ s.last.name ∷ []) (names_of_blocks n s.closed)

    locs_count : length d.locs ≡ length s.closed + 1
    locs_count = ap length s.locs_are ∙ length-append (map (location_of n) s.closed) (location_of n s.last ∷ []) ∙ ap (λ k. k + 1) (length-map s.closed (location_of n))

    -- a further one
    pub begins_next : (name : List ℕ) → may_begin d name ≡ true → Stands n (lines ++ loc name ∷ []) (record d { locs = d.locs ++ begun n name ∷ []; has_inv = false; has_flow = false })
    begins_next name h =
        let a = and_parts (is_nil d.switches) (nat_lt (length d.locs) 64 && not (is_among name (loc_names d.locs))) h in
        let b = and_parts (nat_lt (length d.locs) 64) (not (is_among name (loc_names d.locs))) a.1 in
        let none : s.written ≡ [] = no_written (names_so_far s.closed s.last) s.written d.switches s.placed (nil_is d.switches a.0) in
        let blocks = s.closed ++ s.last ∷ [] in
        let whole : lines ≡ flat_map block_lines blocks =
        s.lines_are ∙ ap (λ ws. flat_map block_lines s.closed ++ (block_lines s.last ++ map (λ w. switch w) ws)) none ∙ sym (flat_map-append block_lines s.closed (s.last ∷ [])) in
        let names : map (λ b. b.name) blocks ≡ names_so_far s.closed s.last = map-append (λ b. b.name) s.closed (s.last ∷ []) in
        let differ : all_differ (map (λ b. b.name) blocks ++ name ∷ []) ≡ true =
        ap (λ ns. all_differ (ns ++ name ∷ [])) names ∙ differ_more (names_so_far s.closed s.last) name s.differ (ap (is_among name) (sym locs_names) ∙ not-true (is_among name (loc_names d.locs)) b.1) in
        let count = length-append s.closed (s.last ∷ []) in
        let room = lower (length d.locs) 64 b.0 in
        record {
          closed = blocks;
          last = record { name = name; lines = [] };
          written = [];
          lines_are = ap (λ ls. ls ++ loc name ∷ []) whole;
          locs_are = ap (λ ls. ls ++ begun n name ∷ []) (s.locs_are ∙ sym (map-append (location_of n) s.closed (s.last ∷ [])));
          each = all-append IsBlock s.closed (s.last ∷ []) s.each (s.going_on, tt);
          going_on = fresh_block name;
          inv_flag = refl;
          flow_flag = refl;
          few = omega (arith, count, room, locs_count);
          differ = differ;
          placed = sym (ap (map (λ x. Some x)) (nil_is d.switches a.0));
          few_switches = omega arith;
          switches_differ = refl;
          going = s.going;
        }

    -- ---- the open location goes on

    opened : is_open d ≡ true → (s.written ≡ []) × (d.switches ≡ [])
    opened h =
        let a = and_parts (not (is_nil d.locs)) (is_nil d.switches) h in
        let e = nil_is d.switches a.1 in
        (no_written (names_so_far s.closed s.last) s.written d.switches s.placed e, e)

    -- a line more in the open block
    lines_more : (line : BlockLine) → is_open d ≡ true → lines ++ block line ∷ [] ≡ flat_map block_lines s.closed ++ (block_lines (and_line s.last line) ++ map (λ w. switch w) [])
    lines_more line h =
        let front = flat_map block_lines s.closed in
        let e : lines ≡ front ++ block_lines s.last = s.lines_are ∙ ap (λ ws. front ++ (block_lines s.last ++ map (λ w. switch w) ws)) (opened h).0 ∙ ap (λ ls. front ++ ls) (append-nil (block_lines s.last)) in
        ap (λ ls. ls ++ block line ∷ []) e ∙ append_assoc front (block_lines s.last) (block line ∷ [])
        ∙ ap (λ ls. front ++ ls) (sym (block_lines-more s.last line) ∙ sym (append-nil (block_lines (and_line s.last line))))

    -- what changes of the open block
    more : (line : BlockLine) (change : PlainLocation → PlainLocation) (has_inv has_flow : Bool) → is_open d ≡ true
        → location_of n (and_line s.last line) ≡ change (location_of n s.last) → IsBlock (and_line s.last line)
        → has_inv ≡ not (is_nil (invs_of (s.last.lines ++ line ∷ []))) → has_flow ≡ not (is_nil (flows_of (s.last.lines ++ line ∷ [])))
        → Stands n (lines ++ block line ∷ []) (record d { locs = with_last change d.locs; has_inv = has_inv; has_flow = has_flow })
    more line change has_inv has_flow h e ok p q = record {
      closed = s.closed;
      last = and_line s.last line;
      written = [];
      lines_are = lines_more line h;
      locs_are = ap (with_last change) s.locs_are ∙ with_last-append change (map (location_of n) s.closed) (location_of n s.last) ∙ ap (λ l. map (location_of n) s.closed ++ l ∷ []) (sym e);
      each = s.each;
      going_on = ok;
      inv_flag = p;
      flow_flag = q;
      few = s.few;
      differ = s.differ;
      placed = sym (ap (map (λ x. Some x)) (opened h).1);
      few_switches = omega arith;
      switches_differ = refl;
      going = s.going;
    }

    none_yet : {A : Type 0} (flag : Bool) (xs : List A) → flag ≡ not (is_nil xs) → not flag ≡ true → xs ≡ []
    none_yet flag [] e h = refl
    none_yet flag (x ∷ xs) e h = let t : not true ≡ true = ap not (sym e) ∙ h in absurd cc

    count_more : (xs ys : List PlainPiece) (k : ℕ) → length (xs ++ ys) ≤ k → (zs : List PlainPiece) → zs ≡ xs ++ ys → length zs ≤ k
    count_more xs ys k h zs e = let f = ap length e in omega (arith, f, h)

    -- an `inv` line
    pub inv_line : (rows : PlainPiece) → (is_open d && not d.has_inv) ≡ true → Stands n (lines ++ block (inv rows) ∷ []) (record d { locs = with_last (with_inv rows) d.locs; has_inv = true })
    inv_line rows h =
        let a = and_parts (is_open d) (not d.has_inv) h in
        let ls = s.last.lines in
        let none : invs_of ls ≡ [] = none_yet d.has_inv (invs_of ls) s.inv_flag a.1 in
        let i : invs_of (ls ++ inv rows ∷ []) ≡ [] ++ rows ∷ [] = invs-append ls (inv rows ∷ []) ∙ ap (λ zs. zs ++ rows ∷ []) none in
        let f : flows_of (ls ++ inv rows ∷ []) ≡ flows_of ls = flows-append ls (inv rows ∷ []) ∙ append-nil (flows_of ls) in
        let g : safes_of (ls ++ inv rows ∷ []) ≡ safes_of ls = safes-append ls (inv rows ∷ []) ∙ append-nil (safes_of ls) in
        more (inv rows) (with_inv rows) true d.has_flow a.0 (inv_more n s.last rows none)
        (record {
          one_inv = let k = ap length i in omega (arith, k);
          one_flow = let k = ap length f in let o = s.going_on.one_flow in omega (arith, k, o);
          few_safe = let k = ap length g in let o = s.going_on.few_safe in omega (arith, k, o);
        })
        (sym (ap (λ zs. not (is_nil zs)) i)) (s.flow_flag ∙ ap (λ zs. not (is_nil zs)) (sym f))

    -- a `flow` line
    pub flow_line : (rows : PlainPiece) → (is_open d && not d.has_flow) ≡ true → Stands n (lines ++ block (flow rows) ∷ []) (record d { locs = with_last (with_flow rows) d.locs; has_flow = true })
    flow_line rows h =
        let a = and_parts (is_open d) (not d.has_flow) h in
        let ls = s.last.lines in
        let none : flows_of ls ≡ [] = none_yet d.has_flow (flows_of ls) s.flow_flag a.1 in
        let i : invs_of (ls ++ flow rows ∷ []) ≡ invs_of ls = invs-append ls (flow rows ∷ []) ∙ append-nil (invs_of ls) in
        let f : flows_of (ls ++ flow rows ∷ []) ≡ [] ++ rows ∷ [] = flows-append ls (flow rows ∷ []) ∙ ap (λ zs. zs ++ rows ∷ []) none in
        let g : safes_of (ls ++ flow rows ∷ []) ≡ safes_of ls = safes-append ls (flow rows ∷ []) ∙ append-nil (safes_of ls) in
        more (flow rows) (with_flow rows) d.has_inv true a.0 (flow_more n s.last rows none)
        (record {
          one_inv = let k = ap length i in let o = s.going_on.one_inv in omega (arith, k, o);
          one_flow = let k = ap length f in omega (arith, k);
          few_safe = let k = ap length g in let o = s.going_on.few_safe in omega (arith, k, o);
        })
        (s.inv_flag ∙ ap (λ zs. not (is_nil zs)) (sym i)) (sym (ap (λ zs. not (is_nil zs)) f))

    -- a `safe` line
    pub safe_line : (rows : PlainPiece) → (is_open d && nat_lt (safe_lines d.locs) 64) ≡ true → Stands n (lines ++ block (safe rows) ∷ []) (record d { locs = with_last (with_safe rows) d.locs })
    safe_line rows h =
        let a = and_parts (is_open d) (nat_lt (safe_lines d.locs) 64) h in
        let ls = s.last.lines in
        let i : invs_of (ls ++ safe rows ∷ []) ≡ invs_of ls = invs-append ls (safe rows ∷ []) ∙ append-nil (invs_of ls) in
        let f : flows_of (ls ++ safe rows ∷ []) ≡ flows_of ls = flows-append ls (safe rows ∷ []) ∙ append-nil (flows_of ls) in
        let count : safe_lines d.locs ≡ length (safes_of ls) = ap safe_lines s.locs_are ∙ safe_lines-append (map (location_of n) s.closed) (location_of n s.last) in
        let room = lower (safe_lines d.locs) 64 a.1 in
        more (safe rows) (with_safe rows) d.has_inv d.has_flow a.0 (safe_more n s.last rows)
        (record {
          one_inv = let k = ap length i in let o = s.going_on.one_inv in omega (arith, k, o);
          one_flow = let k = ap length f in let o = s.going_on.one_flow in omega (arith, k, o);
          few_safe = let k = ap length (safes-append ls (safe rows ∷ [])) in let l = length-append (safes_of ls) (rows ∷ []) in omega (arith, k, l, count, room);
        })
        (s.inv_flag ∙ ap (λ zs. not (is_nil zs)) (sym i)) (s.flow_flag ∙ ap (λ zs. not (is_nil zs)) (sym f))

    -- a switch
    pub switch_line : (w : WrittenSwitch) (x : PlainSwitch) → may_switch d w.name ≡ true → switch_at (loc_names d.locs) w ≡ Some x → Stands n (lines ++ switch w ∷ []) (record d { switches = d.switches ++ x ∷ [] })
    switch_line w x h e =
        let a = and_parts (not (is_nil d.locs)) (nat_lt (length d.switches) 256 && not (is_among w.name (switch_names d.switches))) h in
        let b = and_parts (nat_lt (length d.switches) 256) (not (is_among w.name (switch_names d.switches))) a.1 in
        let names = names_of_switches (names_so_far s.closed s.last) s.written d.switches s.placed in
        let here : switch_at (names_so_far s.closed s.last) w ≡ Some x = ap (λ ns. switch_at ns w) (sym locs_names) ∙ e in
        let fresh : is_among w.name (map (λ v. v.name) s.written) ≡ false = ap (is_among w.name) names ∙ not-true (is_among w.name (switch_names d.switches)) b.1 in
        let count : length s.written ≡ length d.switches = sym (length-map s.written (λ v. v.name)) ∙ ap length names ∙ length-map d.switches (λ v. v.name) in
        let more_written = length-append s.written (w ∷ []) in
        let room = lower (length d.switches) 256 b.0 in
        let front = flat_map block_lines s.closed in
        record {
          closed = s.closed;
          last = s.last;
          written = s.written ++ w ∷ [];
          lines_are =
              ap (λ ls. ls ++ switch w ∷ []) s.lines_are ∙ append_assoc front (block_lines s.last ++ map (λ v. switch v) s.written) (switch w ∷ [])
              ∙ ap (λ ls. front ++ ls) (append_assoc (block_lines s.last) (map (λ v. switch v) s.written) (switch w ∷ []) ∙ ap (λ ls. block_lines s.last ++ ls) (sym (map-append (λ v. switch v) s.written (w ∷ []))));
          locs_are = s.locs_are;
          each = s.each;
          going_on = s.going_on;
          inv_flag = s.inv_flag;
          flow_flag = s.flow_flag;
          few = s.few;
          differ = s.differ;
          placed =
              map-append (switch_at (names_so_far s.closed s.last)) s.written (w ∷ [])
              ∙ ap (λ os. os ++ switch_at (names_so_far s.closed s.last) w ∷ []) s.placed ∙ ap (λ o. map (λ v. Some v) d.switches ++ o ∷ []) here
              ∙ sym (map-append (λ v. Some v) d.switches (x ∷ []));
          few_switches = omega (arith, more_written, count, room);
          switches_differ = ap all_differ (map-append (λ v. v.name) s.written (w ∷ [])) ∙ differ_more (map (λ v. v.name) s.written) w.name s.switches_differ fresh;
          going = s.going;
        }

    -- the end
    pub end_line : Ends n (lines ++ end ∷ []) (record d { ended = true })
    end_line =
        let blocks = s.closed ++ s.last ∷ [] in
        let front = flat_map block_lines s.closed in
        let names : map (λ b. b.name) blocks ≡ names_so_far s.closed s.last = map-append (λ b. b.name) s.closed (s.last ∷ []) in
        let count = length-append s.closed (s.last ∷ []) in
        let all : flat_map block_lines blocks ≡ front ++ block_lines s.last = flat_map-append block_lines s.closed (s.last ∷ []) ∙ ap (λ ls. front ++ ls) (append-nil (block_lines s.last)) in
        record {
          blocks = blocks;
          written = s.written;
          lines_are =
              ap (λ ls. ls ++ end ∷ []) (s.lines_are ∙ sym (append_assoc front (block_lines s.last) (map (λ w. switch w) s.written)))
              ∙ append_assoc (front ++ block_lines s.last) (map (λ w. switch w) s.written) (end ∷ [])
              ∙ ap (λ ls. ls ++ (map (λ w. switch w) s.written ++ end ∷ [])) (sym all);
          locs_are = s.locs_are ∙ sym (map-append (location_of n) s.closed (s.last ∷ []));
          each = all-append IsBlock s.closed (s.last ∷ []) s.each (s.going_on, tt);
          some = omega (arith, count);
          few = let f = s.few in omega (arith, count, f);
          differ = ap all_differ names ∙ s.differ;
          placed = ap (λ ns. map (switch_at ns) s.written) names ∙ s.placed;
          few_switches = s.few_switches;
          switches_differ = s.switches_differ;
          ended = refl;
        }
