-- The text of a plant is a plant of the grammar, and its value is that plant.
use Rattle.std.proofs.Common.{◌≡◌, ◌<◌, ◌≤◌, ℕ, zero, suc, List, [], ◌∷◌, ◌++◌, length, take, drop, get_or, map, refl, sym, ap, ◌∙◌, subst, true, false, ◌==◌, Some, Ok, arith, codes, append_assoc}
use Rattle.std.specs.Prelude.{slice_get}
use Rattle.std.specs.List.{list_all, list_any, flat_map}
use Rattle.std.proofs.lemmas.List.{length-map, length-take-le, take-append-drop}
use Rattle.lhg_math.specs.Tests.{AllOf, Every}
use Rattle.lhg_lex.specs.Lines.{lines_of}
use Rattle.lhg_lex.specs.LineTokens.{Spot, tokens_of}
use Rattle.lhg_lex.specs.PlainToken.{PlainToken, word}
use Rattle.lhg_row.specs.Constant.{varies}
use Rattle.lhg_row.specs.Piece.{PlainPiece}
use Rattle.lhg_plant.specs.Plant.{PlainLocation, PlainSwitch, PlainPlant}
use Rattle.lhg_plant.specs.Word.{IsName, IsVariable}
use Rattle.lhg_plant.specs.Differ.{all_differ}
use Rattle.lhg_plant.specs.Limits.{most_safe_lines}
use Rattle.lhg_plant.specs.Printable.{HasVariables, IsPrintable}
use Rattle.lhg_plant.specs.Proper.{IsLocation, IsSwitch, IsProper}
use Rattle.lhg_read.specs.Names.{vars_of}
use Rattle.lhg_read.specs.PlantLine.{PlantLine, WrittenSwitch, safe, switch, end, line_of}
use Rattle.lhg_read.specs.PlantText.{Block, IsBlock, block_lines, invs_of, flows_of, safes_of, location_of, switch_at, said_in, IsPlant, IsPlantText}
use Rattle.lhg_read.specs.PlantText as read
use Rattle.lhg_read.specs.Term.{place_of}
use Rattle.lhg_read.specs.TokenText.{token_line, token_lines}
use Rattle.lhg_read.proofs.PlantContinues.{head_spots, head_tokens, head_is}
use Rattle.lhg_row_text.specs.Short.{AllShort}
use Rattle.lhg_text.specs.ShortPlant.{IsShortLocation, IsShortPlant}
use Rattle.lhg_text.specs.PlantText.{location_lines, switch_line, plant_lines, plant_text}
use Rattle.lhg_row_text.specs.PrintedLine.{line, spaced, location_name}
use Rattle.lhg_row_text.proofs.LineText.{Says, says_space, says_token, line_says}
use Rattle.lhg_row_text.proofs.LinesBack.{IsInner, lines_back, token_lines-cons}
use Rattle.lhg_row_text.proofs.NamePlaces.{is_named, place_back}
use Rattle.lhg_row_text.proofs.RowReads.{cons_eq}
use Rattle.lhg_row_text.proofs.TokenKinds.{word_token}
use Rattle.lhg_text.proofs.PlantLines.{AreLinesOf, lines-append, block_of, location_is, switch_is, end_line, vars_read}
use Rattle.lhg_row_text.proofs.NamedRows.{IsWord, word_says, AreNames}

-- the tokens of lines, and what they say
record AreTokens (vars : List (List ℕ)) (lines : List (List ℕ)) (values : List PlantLine) : Type 0 where
  tokens : List (List Spot)
  are : token_lines lines ≡ Some tokens
  say : map (λ l. line_of vars (said_in l)) tokens ≡ map (λ v. Some v) values
  inner : AllOf IsInner lines

lines_read : (vars : List (List ℕ)) (lines : List (List ℕ)) (values : List PlantLine) → AreLinesOf vars lines values → AreTokens vars lines values
lines_read vars [] [] h = record { tokens = []; are = refl; say = refl; inner = tt }
lines_read vars [] (v ∷ values) h = absurd h
lines_read vars (l ∷ lines) [] h = absurd h
lines_read vars (l ∷ lines) (v ∷ values) h =
    let more = lines_read vars lines values h.1 in
    let s = h.0.says in
    record {
      tokens = s.spots 0 ∷ more.tokens;
      are = token_lines-cons l lines h.0.first h.0.others more.tokens s more.are;
      say = cons_eq (ap (line_of vars) (s.says 0) ∙ h.0.reads) more.say;
      inner = (record { inner = s.inner }, more.inner);
    }

-- ---- the locations and the switches

locations_are : (vars : List (List ℕ)) (locs : List PlainLocation) → AreNames vars → AllOf (IsLocation (length vars)) locs → AllOf HasVariables locs → AllOf IsShortLocation locs → AreLinesOf vars (flat_map (location_lines vars) locs) (flat_map block_lines (map block_of locs))
locations_are vars [] names h v s = tt
locations_are vars (l ∷ locs) names h v s =
    lines-append vars (location_lines vars l) (block_lines (block_of l)) (flat_map (location_lines vars) locs) (flat_map block_lines (map block_of locs)) (location_is vars l names h.0 v.0 s.0) (locations_are vars locs names h.1 v.1 s.1)

-- a switch as it is written: its locations by their names
abbrev written : List PlainLocation → PlainSwitch → WrittenSwitch
written locs s = record { name = s.name; side = s.side; from = location_name (slice_get locs s.from); to = location_name (slice_get locs s.to); jump = s.jump }

switch_back : (n : ℕ) (locs : List PlainLocation) (s : PlainSwitch) → all_differ (map (λ l. l.name) locs) ≡ true → IsSwitch n (length locs) s → switch_at (map (λ l. l.name) locs) (written locs s) ≡ Some s
switch_back n locs s differ h =
    let from = place_back locs s.from h.from differ in
    let to = place_back locs s.to h.to differ in
    rw (from, to) refl

switches_back : (n : ℕ) (locs : List PlainLocation) (switches : List PlainSwitch) → all_differ (map (λ l. l.name) locs) ≡ true → AllOf (IsSwitch n (length locs)) switches
    → map (switch_at (map (λ l. l.name) locs)) (map (written locs) switches) ≡ map (λ s. Some s) switches
switches_back n locs [] differ h = refl
switches_back n locs (s ∷ switches) differ h =
    let first = switch_back n locs s differ h.0 in
    let more = switches_back n locs switches differ h.1 in
    ap (λ o. o ∷ map (switch_at (map (λ l. l.name) locs)) (map (written locs) switches)) first ∙ ap (λ os. Some s ∷ os) more

-- the lines of the switches and the end
switches_are : (a : PlainPlant) (switches : List PlainSwitch) → AreNames a.vars → AllOf (IsLocation (length a.vars)) a.locs → AllOf (IsSwitch (length a.vars) (length a.locs)) switches → AllOf (λ s. Every varies s.jump) switches → AllOf (λ s. AllShort s.jump) switches
    → AreLinesOf a.vars (map (switch_line a.vars a.locs) switches ++ codes "end" ∷ []) (map (λ s. switch s) (map (written a.locs) switches) ++ end ∷ [])
switches_are a [] names locs h v t = (end_line a.vars, tt)
switches_are a (s ∷ switches) names locs h v t =
    let n = length a.vars in (
      switch_is a.vars (written a.locs s) names h.0.name (is_named n a.locs s.from h.0.from locs) (is_named n a.locs s.to h.0.to locs) (record { line = h.0.jump; vary = v.0; short = t.0 }),
      switches_are a switches names locs h.1 v.1 t.1,
    )

-- ---- the blocks

invs_of_safes : (lists : List PlainPiece) → invs_of (map (λ rows. safe rows) lists) ≡ []
invs_of_safes [] = refl
invs_of_safes (rows ∷ lists) = invs_of_safes lists

flows_of_safes : (lists : List PlainPiece) → flows_of (map (λ rows. safe rows) lists) ≡ []
flows_of_safes [] = refl
flows_of_safes (rows ∷ lists) = flows_of_safes lists

safes_of_safes : (lists : List PlainPiece) → safes_of (map (λ rows. safe rows) lists) ≡ lists
safes_of_safes [] = refl
safes_of_safes (rows ∷ lists) = ap (λ more. rows ∷ more) (safes_of_safes lists)

block_is : (l : PlainLocation) → length l.safe ≤ most_safe_lines → IsBlock (block_of l)
block_is l h =
    let i = invs_of_safes l.safe in
    let f = flows_of_safes l.safe in
    let s = safes_of_safes l.safe in
    record { one_inv = rw i (omega arith); one_flow = rw f (omega arith); few_safe = rw s h }

-- a block's location
location_back : (n : ℕ) (l : PlainLocation) → location_of n (block_of l) ≡ l
location_back n l = let s = safes_of_safes l.safe in ap (λ lists. record l { safe = lists }) s

blocks_are : (n : ℕ) (locs : List PlainLocation) → AllOf (IsLocation n) locs → AllOf IsBlock (map block_of locs)
blocks_are n [] h = tt
blocks_are n (l ∷ locs) h = (block_is l h.0.few_safe, blocks_are n locs h.1)

locations_back : (n : ℕ) (locs : List PlainLocation) → locs ≡ map (location_of n) (map block_of locs)
locations_back n [] = refl
locations_back n (l ∷ locs) = ap (λ k. k ∷ locs) (sym (location_back n l)) ∙ ap (λ ks. location_of n (block_of l) ∷ ks) (locations_back n locs)

block_names : (locs : List PlainLocation) → map (λ b. b.name) (map block_of locs) ≡ map (λ l. l.name) locs
block_names [] = refl
block_names (l ∷ locs) = ap (λ ws. l.name ∷ ws) (block_names locs)

switch_names : (locs : List PlainLocation) (switches : List PlainSwitch) → map (λ w. w.name) (map (written locs) switches) ≡ map (λ s. s.name) switches
switch_names locs [] = refl
switch_names locs (s ∷ switches) = ap (λ ws. s.name ∷ ws) (switch_names locs switches)

-- ---- the plant

vars_words : (ws : List (List ℕ)) → AllOf IsVariable ws → AllOf IsWord ws
vars_words [] h = tt
vars_words (w ∷ ws) h = (record { word = h.0.name.word }, vars_words ws h.1)

vars_say : (w : List ℕ) (ws : List (List ℕ)) → IsWord w → AllOf IsWord ws → Says (spaced (w ∷ ws)) (word w ∷ map (λ v. word v) ws)
vars_say w [] h k = word_says w h.word
vars_say w (v ∷ ws) h k =
    let behind = 32 ∷ spaced (v ∷ ws) in
    says_token w behind (word w) (word_token w behind h.word refl) (says_space (vars_say v ws k.0 k.1))

module _ (a : PlainPlant) (proper : IsProper a) (printable : IsPrintable a) (short : IsShortPlant a) where
  blocks : List Block
  blocks = map block_of a.locs

  switches : List WrittenSwitch
  switches = map (written a.locs) a.switches

  names : AreNames a.vars
  names = record { names = proper.vars; differ = proper.vars_differ }

  -- the lines behind that of the variables
  rest : List (List ℕ)
  rest = flat_map (location_lines a.vars) a.locs ++ (map (switch_line a.vars a.locs) a.switches ++ codes "end" ∷ [])

  rest_tokens : AreTokens a.vars rest (read.plant_lines blocks switches)
  unfolding blocks switches rest
  rest_tokens =
      lines_read a.vars rest (read.plant_lines blocks switches)
      (lines-append a.vars (flat_map (location_lines a.vars) a.locs) (flat_map block_lines blocks) (map (switch_line a.vars a.locs) a.switches ++ codes "end" ∷ []) (map (λ s. switch s) switches ++ end ∷ [])
      (locations_are a.vars a.locs names proper.locs printable.locs short.locs) (switches_are a a.switches names proper.locs proper.switches printable.jumps short.switches))

  vars_tokens : Says (spaced (codes "vars" ∷ a.vars)) (word (codes "vars") ∷ map (λ w. word w) a.vars)
  vars_tokens = vars_say (codes "vars") a.vars (record { word = refl }) (vars_words a.vars printable.vars)

  plant_is : IsPlant (head_spots ∷ vars_tokens.spots 0 ∷ rest_tokens.tokens) a
  unfolding blocks switches
  plant_is =
      let size = length-map a.locs block_of in
      let count = length-map a.switches (written a.locs) in
      let names = block_names a.locs in
      record {
        head = head_spots;
        vars = vars_tokens.spots 0;
        rest = rest_tokens.tokens;
        blocks = blocks;
        switches = switches;
        lines_are = refl;
        head_is = head_is;
        vars_are = ap vars_of (vars_tokens.says 0) ∙ vars_read a.vars printable.vars proper.some_vars proper.few_vars proper.vars_differ;
        rest_are = rest_tokens.say;
        each_block = blocks_are (length a.vars) a.locs proper.locs;
        locs_are = locations_back (length a.vars) a.locs;
        some_locs = rw size proper.some_locs;
        few_locs = rw size proper.few_locs;
        locs_differ = rw names proper.locs_differ;
        switches_are = rw names (switches_back (length a.vars) a.locs a.switches proper.locs_differ proper.switches);
        few_switches = rw count proper.few_switches;
        switches_differ = ap all_differ (switch_names a.locs a.switches) ∙ proper.switches_differ;
      }

  all_lines : token_lines (plant_lines a) ≡ Some (head_spots ∷ vars_tokens.spots 0 ∷ rest_tokens.tokens)
  unfolding rest head_spots
  all_lines =
      let vars = token_lines-cons (spaced (codes "vars" ∷ a.vars)) rest (word (codes "vars")) (map (λ w. word w) a.vars) rest_tokens.tokens vars_tokens rest_tokens.are in
      let head = head_tokens in
      rw (head, vars) refl

  -- the text of a plant is a plant of the grammar, and this is its value
  pub plant_reads : IsPlantText (lines_of (plant_text a)) a
  unfolding rest
  plant_reads =
      let inner : AllOf IsInner (plant_lines a) = (record { inner = refl }, (record { inner = vars_tokens.inner }, rest_tokens.inner)) in
      subst (λ lines. IsPlantText lines a) (sym (lines_back (plant_lines a) inner))
      (record { tokens = head_spots ∷ vars_tokens.spots 0 ∷ rest_tokens.tokens; are = all_lines; is = plant_is })
