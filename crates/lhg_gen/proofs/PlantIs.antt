-- A generated text is a plant of the grammar, and this is its value.
use Rattle.std.proofs.Common.{◌≡◌, ◌+◌, ◌-◌, ◌<◌, ◌≤◌, ℕ, zero, suc, List, [], ◌∷◌, ◌++◌, map, refl, sym, ap, ◌∙◌, subst, true, Some, Ok, arith, codes}
use Rattle.std.specs.List.{flat_map, range_with_len}
use Rattle.std.proofs.lemmas.List.FromFn.{length-map-range_with_len, get_or-map-range_with_len}
use Rattle.std.proofs.lemmas.Simd.{map-map}
use Rattle.lhg_math.specs.Tests.{AllOf}
use Rattle.lhg_lex.specs.Lines.{lines_of}
use Rattle.lhg_lex.specs.Longest.{longest}
use Rattle.lhg_lex.specs.LineTokens.{Spot, tokens_of}
use Rattle.lhg_lex.specs.PlainToken.{word}
use Rattle.lhg_plant.specs.Differ.{all_differ}
use Rattle.lhg_read.specs.PlantLine.{WrittenSwitch}
use Rattle.lhg_read.specs.PlantText.{Block, IsBlock, location_of, switch_at, IsPlant, IsPlantText, plant_lines}
use Rattle.lhg_read.specs.Term.{place_of}
use Rattle.lhg_read.specs.TokenText.{token_lines}
use Rattle.lhg_read.proofs.PlantContinues.{head_spots, head_tokens, head_is}
use Rattle.lhg_row_text.proofs.LinesBack.{IsInner, lines_back}
use Rattle.lhg_row_text.proofs.NamePlaces.{place_of_name}
use Rattle.lhg_gen.specs.GeneratedPlant.{generated_location, generated_switch, generated_plant}
use Rattle.lhg_gen.specs.GeneratedText.{location_word, switch_word, location_lines, switch_line, generated_lines, generated_text}
use Rattle.lhg_gen.specs.Sizes.{IsSize}
use Rattle.lhg_gen.proofs.LinesSay.{AreTokens, written, written_block, locations_say, switches_say}
use Rattle.lhg_gen.proofs.NumberedNames.{same_number, numbered_differ}

-- ---- the locations

each_block : (a n : ℕ) → AllOf IsBlock (map written_block (range_with_len a n))
each_block a zero = tt
each_block a (suc n) = (record { one_inv = one; one_flow = one; few_safe = two }, each_block (a + 1) n)
  where
    one : 1 ≤ 1
    one = omega arith

    two : 2 ≤ 64
    two = omega arith

locations_are : (a n : ℕ) → map generated_location (range_with_len a n) ≡ map (location_of 1) (map written_block (range_with_len a n))
locations_are a zero = refl
locations_are a (suc n) = ap (λ ls. generated_location a ∷ ls) (locations_are (a + 1) n)

-- ---- the switches

-- the names of the locations
abbrev names_to : ℕ → List (List ℕ)
names_to k = map location_word (range_with_len 1 k)

module _ (k : ℕ) (h : IsSize k) where
  names_differ : all_differ (names_to k) ≡ true
  names_differ = let few = h.few in numbered_differ location_word (same_number 97) 1 k (omega arith)

  -- a location is found by its name
  found : (i place : ℕ) → place < k → 1 + place ≡ i → place_of (location_word i) (names_to k) ≡ Some place
  found i place less is =
      let size = length-map-range_with_len location_word 1 k in
      ap (λ w. place_of w (names_to k)) (sym (get_or-map-range_with_len location_word 1 k place i [] less is)) ∙ place_of_name (names_to k) place (omega arith) names_differ

  switch_is : (i : ℕ) → 1 ≤ i → i < k → switch_at (names_to k) (written i) ≡ Some (generated_switch i)
  switch_is i some less =
      let from = found i (i - 1) (omega arith) (omega arith) in
      let to = found (i + 1) i less (omega arith) in
      rw (from, to) refl

  switches_are : (a n : ℕ) → 1 ≤ a → a + n ≤ k → map (switch_at (names_to k)) (map written (range_with_len a n)) ≡ map (λ s. Some s) (map generated_switch (range_with_len a n))
  switches_are a zero some less = refl
  switches_are a (suc n) some less =
      ap (λ o. o ∷ map (switch_at (names_to k)) (map written (range_with_len (a + 1) n))) (switch_is a some (omega arith))
      ∙ ap (λ os. Some (generated_switch a) ∷ os) (switches_are (a + 1) n (omega arith) (omega arith))

  -- ---- the plant

  vars_spots : List Spot
  vars_spots = record { says = word (codes "vars"); from = 0; to = 4 } ∷ record { says = word (codes "x"); from = 5; to = 6 } ∷ []

  vars_tokens : tokens_of (codes "vars x") ≡ Ok vars_spots
  unfolding longest tokens_of vars_spots
  vars_tokens = refl

  rest : AreTokens (flat_map location_lines (range_with_len 1 k) ++ (map switch_line (range_with_len 1 (k - 1)) ++ codes "end" ∷ [])) (plant_lines (map written_block (range_with_len 1 k)) (map written (range_with_len 1 (k - 1))))
  rest = let few = h.few in let some = h.some in locations_say 1 k (omega arith) (switches_say 1 (k - 1) (omega arith))

  block_names : map (λ b. b.name) (map written_block (range_with_len 1 k)) ≡ names_to k
  block_names = map-map (λ (b : Block). b.name) written_block (range_with_len 1 k)

  plant_is : IsPlant (head_spots ∷ vars_spots ∷ rest.tokens) (generated_plant k)
  unfolding vars_spots
  plant_is =
      let some = h.some in
      let few = h.few in
      let size = length-map-range_with_len written_block 1 k in
      let count = length-map-range_with_len written 1 (k - 1) in
      let are = block_names in
      record {
        head = head_spots;
        vars = vars_spots;
        rest = rest.tokens;
        blocks = map written_block (range_with_len 1 k);
        switches = map written (range_with_len 1 (k - 1));
        lines_are = refl;
        head_is = head_is;
        vars_are = refl;
        rest_are = rest.say;
        each_block = each_block 1 k;
        locs_are = locations_are 1 k;
        some_locs = omega arith;
        few_locs = omega arith;
        locs_differ = ap all_differ block_names ∙ names_differ;
        switches_are = ap (λ ns. map (switch_at ns) (map written (range_with_len 1 (k - 1)))) block_names ∙ switches_are 1 (k - 1) (omega arith) (omega arith);
        few_switches = omega arith;
        switches_differ = ap all_differ (map-map (λ (s : WrittenSwitch). s.name) written (range_with_len 1 (k - 1))) ∙ numbered_differ switch_word (same_number 103) 1 (k - 1) (omega arith);
      }

  all_tokens : token_lines (generated_lines k) ≡ Some (head_spots ∷ vars_spots ∷ rest.tokens)
  unfolding head_spots vars_spots
  all_tokens =
      let head = head_tokens in
      let vars = vars_tokens in
      let more = rest.are in
      rw (head, vars, more) refl

  -- the text is a plant of the grammar, and this is its value
  pub generated_reads : IsPlantText (lines_of (generated_text k)) (generated_plant k)
  generated_reads =
      let inner : AllOf IsInner (generated_lines k) = (record { inner = refl }, (record { inner = refl }, rest.inner)) in
      subst (λ lines. IsPlantText lines (generated_plant k)) (sym (lines_back (generated_lines k) inner)) (record { tokens = head_spots ∷ vars_spots ∷ rest.tokens; are = all_tokens; is = plant_is })
