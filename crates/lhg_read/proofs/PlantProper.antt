-- A plant that is read is proper, and it can be printed.
use Rattle.std.proofs.Common.{◌≡◌, ◌≢◌, ◌<◌, ◌≤◌, ◌+◌, ◌⊎◌, inl, inr, ℕ, List, [], ◌∷◌, ◌++◌, length, map, refl, sym, ap, ◌∙◌, subst, Bool, true, false, cond, ◌&&◌, ◌||◌, Some, None, arith, nat_le, codes}
use Rattle.std.specs.List.{flat_map}
use Rattle.std.specs.Option.{option_and_then, option_map}
use Rattle.std.specs.Str.{bytes_eq}
use Rattle.std.proofs.lemmas.Bool.Decides.{nat_tests}
use Rattle.std.proofs.lemmas.List.{length-map}
use Rattle.std.proofs.lemmas.Option.{none-some, same_Some, cond_some, option_and_then_some}
use Rattle.std.proofs.lemmas.Slice.Eq.{bytes_eq-Decides}
use Rattle.std.proofs.lemmas.Bool.{and_parts}
use Rattle.lhg_math.specs.Tests.{AllOf, Every}
use Rattle.lhg_row.specs.Constant.{varies}
use Rattle.lhg_row.specs.Piece.{PlainPiece}
use Rattle.lhg_row.specs.Members.{all_split}
use Rattle.lhg_lex.specs.PlainToken.{PlainToken, word, number, sign, two_signs}
use Rattle.lhg_lex.specs.LineTokens.{Spot}
use Rattle.lhg_plant.specs.Differ.{all_differ}
use Rattle.lhg_plant.specs.Plant.{PlainSwitch, PlainPlant}
use Rattle.lhg_plant.specs.Printable.{HasVariables, IsPrintable}
use Rattle.lhg_plant.specs.Proper.{IsLine, IsLocation, IsSwitch, IsProper}
use Rattle.lhg_plant.specs.Still.{still_rows}
use Rattle.lhg_plant.specs.Word.{IsName, IsVariable}
use Rattle.lhg_plant.specs.Limits.{most_variables}
use Rattle.lhg_read.specs.Lexed.{IsLexed}
use Rattle.lhg_read.specs.Names.{name_of, one_name, is_taken, variable_name, variable_names, proper_variables, vars_of}
use Rattle.lhg_read.specs.PlantLine.{BlockLine, inv, flow, safe, WrittenSwitch, PlantLine, loc, block, switch, end, side_of, switch_of, nothing_more, line_by, line_of}
use Rattle.lhg_read.specs.PlantText.{Block, invs_of, flows_of, safes_of, rows_or, IsBlock, location_of, switch_at, block_lines, plant_lines, said_in, IsPlant}
use Rattle.lhg_read.specs.Rows.{rows_of}
use Rattle.lhg_read.specs.Signs.{is_word}
use Rattle.lhg_read.specs.Term.{width, place_of}
use Rattle.lhg_read.specs.declared.forms.Form.{Form}
use Rattle.lhg_read.specs.declared.forms.Form.TheVariants.{Plain, Flow, Jump}
use Rattle.lhg_read.proofs.Answered.{one_of, was_there, both_consed}
use Rattle.lhg_read.proofs.LexedLines.{AreLexed}
use Rattle.lhg_read.proofs.LineRows.{AreRead, still_read, rows_read}
use Rattle.lhg_read.proofs.PairSteps.{place_below}
use Rattle.lhg_read.proofs.PlantParts.{names_of_blocks, names_of_switches}

-- ---- names

-- a name that is read is one
name_read : (token : PlainToken) (w : List ℕ) → IsLexed token → name_of token ≡ Some w → IsName w
name_read (word v) w h e = let c = cond_some (nat_le (length v) 32) v w e in subst (λ x. IsName x) c.1 (record { word = h; fits = let t = c.0 in grind (arith, nat_tests, t) })
name_read (number q) w h e = absurd (none-some w e)
name_read (sign b) w h e = absurd (none-some w e)
name_read (two_signs b c) w h e = absurd (none-some w e)

one_name_read : (tokens : List PlainToken) (w : List ℕ) → AllOf IsLexed tokens → one_name tokens ≡ Some w → IsName w
one_name_read [] w h e = absurd (none-some w e)
one_name_read (token ∷ []) w h e = name_read token w h.0 e
one_name_read (a ∷ b ∷ tokens) w h e = absurd (none-some w e)

neither : (x y : Bool) → (x || y) ≡ false → (x ≡ false) × (y ≡ false)
neither true y e = absurd cc
neither false y e = (refl, e)

other_bytes : (v w : List ℕ) → bytes_eq v w ≡ false → v ≢ w
other_bytes v w e h = let t : bytes_eq v w ≡ true = (bytes_eq-Decides v w).1 h in cc

-- a name that no keyword takes
free_name : (w : List ℕ) → IsName w → is_taken w ≡ false → IsVariable w
free_name w h e =
    let a = neither (bytes_eq w (codes "all")) _ e in
    let b = neither (bytes_eq w (codes "still")) _ a.1 in
    record { name = h; not_all = other_bytes w (codes "all") a.0; not_still = other_bytes w (codes "still") b.0; not_keep = other_bytes w (codes "keep") b.1 }

variable_read : (token : PlainToken) (w : List ℕ) → IsLexed token → variable_name token ≡ Some w → IsVariable w
variable_read token w h e = option_and_then_some _ (name_of token) w e (λ v is f. by_taken (is_taken v) v (name_read token v h is) refl f)
  where
    by_taken : (b : Bool) (v : List ℕ) → IsName v → is_taken v ≡ b → cond b None (Some v) ≡ Some w → IsVariable w
    by_taken true v n t f = absurd (none-some w f)
    by_taken false v n t f = subst (λ x. IsVariable x) (same_Some v w f) (free_name v n t)

variables_read : (tokens : List PlainToken) (names : List (List ℕ)) → AllOf IsLexed tokens → variable_names tokens ≡ Some names → AllOf IsVariable names
variables_read [] names h e = subst (λ ns. AllOf IsVariable ns) (same_Some [] names e) tt
variables_read (token ∷ tokens) names h e =
    let p = both_consed (variable_name token) (variable_names tokens) names e in
    subst (λ ns. AllOf IsVariable ns) p.4 (variable_read token p.0 h.0 p.2, variables_read tokens p.1 h.1 p.3)

-- what the line of the variables says of them
record AreVariables (vars : List (List ℕ)) : Type 0 where
  each : AllOf IsVariable vars
  some : 0 < length vars
  few : length vars ≤ most_variables
  differ : all_differ vars ≡ true

proper_are : (names vars : List (List ℕ)) → AllOf IsVariable names → proper_variables names ≡ Some vars → AreVariables vars
proper_are names vars h e =
    let c = cond_some (nat_le 1 (length names) && (nat_le (length names) most_variables && all_differ names)) names vars e in
    let a = and_parts (nat_le 1 (length names)) _ c.0 in
    let b = and_parts (nat_le (length names) most_variables) (all_differ names) a.1 in
    subst (λ ns. AreVariables ns) c.1
    (record { each = h; some = let t = a.0 in grind (arith, nat_tests, t); few = let t = b.0 in grind (arith, nat_tests, t); differ = b.1 })

vars_read : (tokens : List PlainToken) (vars : List (List ℕ)) → AllOf IsLexed tokens → vars_of tokens ≡ Some vars → AreVariables vars
vars_read [] vars h e = absurd (none-some vars e)
vars_read (token ∷ tokens) vars h e = by_word (one_of (is_word (codes "vars") token) _ None vars e)
  where
    by_word : (option_and_then proper_variables (variable_names tokens) ≡ Some vars) ⊎ (None ≡ Some vars) → AreVariables vars
    by_word (inl f) = option_and_then_some proper_variables (variable_names tokens) vars f (λ names is k. proper_are names vars (variables_read tokens names h.1 is) k)
    by_word (inr f) = absurd (none-some vars f)

-- ---- lines

-- what a line may say, over n variables
abbrev IsGood : ℕ → PlantLine → Type 0
IsGood n (loc name) = IsName name
IsGood n (block (inv rows)) = AreRead n rows
IsGood n (block (flow rows)) = AreRead n rows
IsGood n (block (safe rows)) = AreRead n rows
IsGood n (switch s) = IsName s.name × AreRead (n + n) s.jump
IsGood n end = Unit {0}

module _ (vars : List (List ℕ)) (few : length vars ≤ most_variables) where
  abbrev Good : PlantLine → Type 0
  Good l = IsGood (length vars) l

  rows_good : (form : Form) (make : PlainPiece → PlantLine) → ((rows : PlainPiece) → AreRead (width form vars) rows → Good (make rows)) → (tokens : List PlainToken) (l : PlantLine) → option_map make (rows_of form vars tokens) ≡ Some l → Good l
  rows_good form make good tokens l e = let m = was_there make (rows_of form vars tokens) l e in subst (λ x. Good x) m.2 (good m.0 (rows_read form vars tokens m.0 few m.1))

  loc_good : (tokens : List PlainToken) (l : PlantLine) → AllOf IsLexed tokens → option_map (λ name. loc name) (one_name tokens) ≡ Some l → Good l
  loc_good tokens l h e = let m = was_there (λ name. loc name) (one_name tokens) l e in subst (λ x. Good x) m.2 (one_name_read tokens m.0 h m.1)

  written_good : (tokens : List PlainToken) (s : WrittenSwitch) → AllOf IsLexed tokens → switch_of vars tokens ≡ Some s → Good (switch s)
  written_good [] s h e = absurd (none-some s e)
  written_good (a ∷ []) s h e = absurd (none-some s e)
  written_good (a ∷ b ∷ []) s h e = absurd (none-some s e)
  written_good (a ∷ b ∷ c ∷ []) s h e = absurd (none-some s e)
  written_good (a ∷ b ∷ c ∷ d ∷ rows) s h e =
      option_and_then_some _ (name_of a) s e
      (λ n name f. option_and_then_some _ (side_of b) s f
      (λ side is g. option_and_then_some _ (name_of c) s g
      (λ from is_from i. option_and_then_some _ (name_of d) s i
      (λ to is_to k. let m = was_there (λ jump. let w : WrittenSwitch = record { name = n; side = side; from = from; to = to; jump = jump } in w) (rows_of Jump vars rows) s k in subst (λ x. Good (switch x)) m.2 (name_read a n h.0 name, rows_read Jump vars rows m.0 few m.1)))))

  switch_good : (tokens : List PlainToken) (l : PlantLine) → AllOf IsLexed tokens → option_map (λ s. switch s) (switch_of vars tokens) ≡ Some l → Good l
  switch_good tokens l h e = let m = was_there (λ s. switch s) (switch_of vars tokens) l e in subst (λ x. Good x) m.2 (written_good tokens m.0 h m.1)

  end_good : (tokens : List PlainToken) (l : PlantLine) → nothing_more tokens ≡ Some l → Good l
  end_good [] l e = subst (λ x. Good x) (same_Some end l e) tt
  end_good (token ∷ tokens) l e = absurd (none-some l e)

  by_good : (first : PlainToken) (tokens : List PlainToken) (l : PlantLine) → AllOf IsLexed tokens → line_by vars first tokens ≡ Some l → Good l
  by_good first tokens l h e =
      elim (one_of (is_word (codes "loc") first) _ _ l e) [
        | inl a ↦ loc_good tokens l h a
        | inr a ↦ elim (one_of (is_word (codes "inv") first) _ _ l a) [
          | inl b ↦ rows_good Plain (λ rows. block (inv rows)) (λ rows r. r) tokens l b
          | inr b ↦ elim (one_of (is_word (codes "flow") first) _ _ l b) [
            | inl c ↦ rows_good Flow (λ rows. block (flow rows)) (λ rows r. r) tokens l c
            | inr c ↦ elim (one_of (is_word (codes "safe") first) _ _ l c) [
              | inl d ↦ rows_good Plain (λ rows. block (safe rows)) (λ rows r. r) tokens l d
              | inr d ↦ elim (one_of (is_word (codes "switch") first) _ _ l d) [
                | inl f ↦ switch_good tokens l h f
                | inr f ↦ elim (one_of (is_word (codes "end") first) _ _ l f) [ inl g ↦ end_good tokens l g | inr g ↦ absurd (none-some l g) ]
              ]
            ]
          ]
        ]
      ]

  line_good : (tokens : List PlainToken) (l : PlantLine) → AllOf IsLexed tokens → line_of vars tokens ≡ Some l → Good l
  unfolding line_of
  line_good [] l h e = absurd (none-some l e)
  line_good (first ∷ tokens) l h e = by_good first tokens l h.1 e

  lines_good : (lines : List (List Spot)) (ls : List PlantLine) → AllOf AreLexed lines → map (λ line. line_of vars (said_in line)) lines ≡ map (λ l. Some l) ls → AllOf (λ l. Good l) ls
  lines_good [] [] h e = tt
  lines_good [] (l ∷ ls) h e = absurd cc
  lines_good (line ∷ lines) [] h e = absurd cc
  lines_good (line ∷ lines) (l ∷ ls) h e =
      let here : line_of vars (said_in line) ≡ Some l = cc in
      let more : map (λ line. line_of vars (said_in line)) lines ≡ map (λ l. Some l) ls = cc in
      (line_good (said_in line) l h.0 here, lines_good lines ls h.1 more)

-- ---- locations

module _ (n : ℕ) where
  invs_good : (lines : List BlockLine) → AllOf (λ line. IsGood n (block line)) lines → AllOf (AreRead n) (invs_of lines)
  invs_good [] h = tt
  invs_good (inv rows ∷ lines) h = (h.0, invs_good lines h.1)
  invs_good (flow rows ∷ lines) h = invs_good lines h.1
  invs_good (safe rows ∷ lines) h = invs_good lines h.1

  flows_good : (lines : List BlockLine) → AllOf (λ line. IsGood n (block line)) lines → AllOf (AreRead n) (flows_of lines)
  flows_good [] h = tt
  flows_good (inv rows ∷ lines) h = flows_good lines h.1
  flows_good (flow rows ∷ lines) h = (h.0, flows_good lines h.1)
  flows_good (safe rows ∷ lines) h = flows_good lines h.1

  safes_good : (lines : List BlockLine) → AllOf (λ line. IsGood n (block line)) lines → AllOf (AreRead n) (safes_of lines)
  safes_good [] h = tt
  safes_good (inv rows ∷ lines) h = safes_good lines h.1
  safes_good (flow rows ∷ lines) h = safes_good lines h.1
  safes_good (safe rows ∷ lines) h = (h.0, safes_good lines h.1)

  or_good : (none : PlainPiece) (lines : List PlainPiece) → AreRead n none → AllOf (AreRead n) lines → AreRead n (rows_or none lines)
  or_good none [] k h = k
  or_good none (rows ∷ lines) k h = h.0

  all_lines : (lines : List PlainPiece) → AllOf (AreRead n) lines → AllOf (IsLine n) lines
  all_lines [] h = tt
  all_lines (rows ∷ lines) h = (h.0.line, all_lines lines h.1)

  all_vary : (lines : List PlainPiece) → AllOf (AreRead n) lines → AllOf (λ rows. Every varies rows) lines
  all_vary [] h = tt
  all_vary (rows ∷ lines) h = (h.0.vary, all_vary lines h.1)

  of_block : (b : Block) → AllOf (IsGood n) (block_lines b) → IsName b.name × AllOf (λ line. IsGood n (block line)) b.lines
  of_block b h = (h.0, unblocked b.lines h.1)
    where
      unblocked : (lines : List BlockLine) → AllOf (IsGood n) (map (λ line. block line) lines) → AllOf (λ line. IsGood n (block line)) lines
      unblocked [] h = tt
      unblocked (line ∷ lines) h = (h.0, unblocked lines h.1)

  module _ (few : n ≤ most_variables) where
    none_read : AreRead n []
    none_read = record { line = record { wide = tt; few = omega arith }; vary = tt }

    location_read : (b : Block) → IsBlock b → AllOf (IsGood n) (block_lines b) → IsLocation n (location_of n b) × HasVariables (location_of n b)
    location_read b s h =
        let g = of_block b h in
        let i = or_good [] (invs_of b.lines) none_read (invs_good b.lines g.1) in
        let f = or_good (still_rows n) (flows_of b.lines) (still_read n few) (flows_good b.lines g.1) in
        let k = safes_good b.lines g.1 in (
          record { name = g.0; inv = i.line; flow = f.line; safe = all_lines (safes_of b.lines) k; few_safe = s.few_safe },
          record { inv = i.vary; flow = f.vary; safe = all_vary (safes_of b.lines) k },
        )

    locations_read : (blocks : List Block) → AllOf IsBlock blocks → AllOf (IsGood n) (flat_map block_lines blocks) → AllOf (IsLocation n) (map (location_of n) blocks) × AllOf HasVariables (map (location_of n) blocks)
    locations_read [] s h = (tt, tt)
    locations_read (b ∷ blocks) s h =
        let g = all_split (IsGood n) (block_lines b) (flat_map block_lines blocks) h in
        let l = location_read b s.0 g.0 in
        let m = locations_read blocks s.1 g.1 in
        ((l.0, m.0), (l.1, m.1))

  -- ---- switches

  switch_read : (names : List (List ℕ)) (w : WrittenSwitch) (s : PlainSwitch) → IsGood n (switch w) → switch_at names w ≡ Some s → IsSwitch n (length names) s × Every varies s.jump
  switch_read names w s h e =
      option_and_then_some _ (place_of w.from names) s e
      (λ from is f.
      let m = was_there (λ to. let r : PlainSwitch = record { name = w.name; from = from; to = to; side = w.side; jump = w.jump } in r) (place_of w.to names) s f in
      subst (λ x. IsSwitch n (length names) x × Every varies x.jump) m.2
      (record { name = h.0; from = place_below w.from names (Some from) is; to = place_below w.to names (Some m.0) m.1; jump = h.1.line }, h.1.vary))

  switches_read : (names : List (List ℕ)) (ws : List WrittenSwitch) (ss : List PlainSwitch) → AllOf (IsGood n) (map (λ w. switch w) ws) → map (switch_at names) ws ≡ map (λ s. Some s) ss
      → AllOf (IsSwitch n (length names)) ss × AllOf (λ s. Every varies s.jump) ss
  switches_read names [] [] h e = (tt, tt)
  switches_read names [] (s ∷ ss) h e = absurd cc
  switches_read names (w ∷ ws) [] h e = absurd cc
  switches_read names (w ∷ ws) (s ∷ ss) h e =
      let here : switch_at names w ≡ Some s = cc in
      let more : map (switch_at names) ws ≡ map (λ s. Some s) ss = cc in
      let a = switch_read names w s h.0 here in
      let b = switches_read names ws ss h.1 more in
      ((a.0, b.0), (a.1, b.1))

-- ---- plants

names_of : (vars : List (List ℕ)) → AllOf IsVariable vars → AllOf IsName vars
names_of [] h = tt
names_of (v ∷ vars) h = (h.0.name, names_of vars h.1)

module _ (tokens : List (List Spot)) (p : PlainPlant) (lexed : AllOf AreLexed tokens) (h : IsPlant tokens p) where
  all_lexed : AllOf AreLexed (h.head ∷ h.vars ∷ h.rest)
  all_lexed = subst (λ lines. AllOf AreLexed lines) h.lines_are lexed

  variables : AreVariables p.vars
  variables = vars_read (said_in h.vars) p.vars all_lexed.1.0 h.vars_are

  good : AllOf (IsGood (length p.vars)) (plant_lines h.blocks h.switches)
  good = lines_good p.vars variables.few h.rest (plant_lines h.blocks h.switches) all_lexed.1.1 h.rest_are

  parts : AllOf (IsGood (length p.vars)) (flat_map block_lines h.blocks) × AllOf (IsGood (length p.vars)) (map (λ s. switch s) h.switches)
  parts =
      let a = all_split (IsGood (length p.vars)) (flat_map block_lines h.blocks) (map (λ s. switch s) h.switches ++ end ∷ []) good in
      let b = all_split (IsGood (length p.vars)) (map (λ s. switch s) h.switches) (end ∷ []) a.1 in
      (a.0, b.0)

  locations : AllOf (IsLocation (length p.vars)) p.locs × AllOf HasVariables p.locs
  locations = subst (λ ls. AllOf (IsLocation (length p.vars)) ls × AllOf HasVariables ls) (sym h.locs_are) (locations_read (length p.vars) variables.few h.blocks h.each_block parts.0)

  count : length p.locs ≡ length h.blocks
  count = ap length h.locs_are ∙ length-map h.blocks (location_of (length p.vars))

  switches : AllOf (IsSwitch (length p.vars) (length p.locs)) p.switches × AllOf (λ s. Every varies s.jump) p.switches
  switches =
      subst (λ m. AllOf (IsSwitch (length p.vars) m) p.switches × AllOf (λ s. Every varies s.jump) p.switches) (length-map h.blocks (λ b. b.name) ∙ sym count)
      (switches_read (length p.vars) (map (λ b. b.name) h.blocks) h.switches p.switches parts.1 h.switches_are)

  written_names : map (λ w. w.name) h.switches ≡ map (λ s. s.name) p.switches
  written_names = names_of_switches (map (λ b. b.name) h.blocks) h.switches p.switches h.switches_are

  -- names differ, places are in range, lengths agree, and the limits hold
  pub plant_proper : IsProper p
  plant_proper = record {
    vars = names_of p.vars variables.each;
    some_vars = variables.some;
    few_vars = variables.few;
    vars_differ = variables.differ;
    locs = locations.0;
    some_locs = let k = count in let m = h.some_locs in omega (arith, k, m);
    few_locs = let k = count in let m = h.few_locs in omega (arith, k, m);
    locs_differ = ap all_differ (ap (map (λ l. l.name)) h.locs_are ∙ names_of_blocks (length p.vars) h.blocks) ∙ h.locs_differ;
    switches = switches.0;
    few_switches = let k = ap length h.switches_are in let a = length-map h.switches (switch_at (map (λ b. b.name) h.blocks)) in let b = length-map p.switches (λ s. Some s) in let m = h.few_switches in omega (arith, k, a, b, m);
    switches_differ = ap all_differ (sym written_names) ∙ h.switches_differ;
  }

  -- and no keyword names a variable, and each row has one
  pub plant_printable : IsPrintable p
  plant_printable = record { vars = variables.each; locs = locations.1; jumps = switches.1 }
