-- How long is a generated text?
use Rattle.std.proofs.Common.{◌≡◌, ◌+◌, ◌*◌, ◌-◌, ◌≤◌, ℕ, zero, suc, [], ◌∷◌, ◌++◌, length, map, refl, sym, ap, ◌∙◌, arith, codes, decimal, length-append, append_assoc}
use Rattle.std.specs.List.{flat_map, range_with_len}
use Rattle.std.proofs.lemmas.Grind.{flat_map-append}
use Rattle.lhg_lex.specs.Lines.{most_bytes}
use Rattle.lhg_row_text.specs.PrintedLine.{line, spaced}
use Rattle.lhg_gen.specs.GeneratedText.{location_word, location_lines, switch_line, generated_text}
use Rattle.lhg_gen.specs.Sizes.{IsSize}
use Rattle.lhg_gen.proofs.MoreLines.{behind}
use Rattle.lhg_gen.proofs.NumberedNames.{two_digits}

-- ---- a location

location_size : (i : ℕ) → length (flat_map line (location_lines i)) ≡ length (decimal i) + 58
location_size i =
    let first : length (spaced (codes "loc" ∷ location_word i ∷ [])) ≡ suc (suc (suc (suc (suc (length (decimal i)))))) = refl in
    let others : length (flat_map line behind) ≡ 52 = refl in
    let ended = length-append (spaced (codes "loc" ∷ location_word i ∷ [])) (10 ∷ []) in
    let both = length-append (line (spaced (codes "loc" ∷ location_word i ∷ []))) (flat_map line behind) in
    omega arith

locations_short : (a n : ℕ) → a + n ≤ 100 → length (flat_map line (flat_map location_lines (range_with_len a n))) ≤ 60 * n
locations_short a zero h = omega arith
locations_short a (suc n) h =
    let more = flat_map location_lines (range_with_len (a + 1) n) in
    let short = two_digits a (omega arith) in
    let size = location_size a in
    let rest = locations_short (a + 1) n (omega arith) in
    let both = length-append (flat_map line (location_lines a)) (flat_map line more) in
    let parts = ap length (flat_map-append line (location_lines a) more) in
    omega arith

-- ---- a switch

switch_size : (i : ℕ) → length (line (switch_line i)) ≡ length (decimal i) + length (decimal i) + length (decimal (i + 1)) + 22
switch_size i =
    let last = 32 ∷ codes "keep" in
    let to = length-append (decimal (i + 1)) last in
    let from = length-append (decimal i) (32 ∷ (location_word (i + 1) ++ last)) in
    let name = length-append (decimal i) (32 ∷ (codes "ctl" ++ 32 ∷ (location_word i ++ 32 ∷ (location_word (i + 1) ++ last)))) in
    let ended = length-append (switch_line i) (10 ∷ []) in
    omega arith

switches_short : (a n : ℕ) → a + n ≤ 99 → length (flat_map line (map switch_line (range_with_len a n))) ≤ 28 * n
switches_short a zero h = omega arith
switches_short a (suc n) h =
    let short = two_digits a (omega arith) in
    let next = two_digits (a + 1) (omega arith) in
    let size = switch_size a in
    let rest = switches_short (a + 1) n (omega arith) in
    let both = length-append (line (switch_line a)) (flat_map line (map switch_line (range_with_len (a + 1) n))) in
    omega arith

-- ---- the text

-- the parts of the text, as they are written
pub text_parts : (k : ℕ) → generated_text k ≡ (((codes "lhg 1" ++ 10 ∷ (codes "vars x" ++ 10 ∷ [])) ++ flat_map line (flat_map location_lines (range_with_len 1 k))) ++ flat_map line (map switch_line (range_with_len 1 (k - 1)))) ++ line (codes "end")
text_parts k =
    let head = codes "lhg 1" ++ 10 ∷ (codes "vars x" ++ 10 ∷ []) in
    let locations = flat_map location_lines (range_with_len 1 k) in
    let switches = map switch_line (range_with_len 1 (k - 1)) in
    let end = codes "end" ∷ [] in
    ap (λ t. head ++ t) (flat_map-append line locations (switches ++ end) ∙ ap (λ t. flat_map line locations ++ t) (flat_map-append line switches end))
    ∙ sym (append_assoc head (flat_map line locations) (flat_map line switches ++ line (codes "end")))
    ∙ sym (append_assoc (head ++ flat_map line locations) (flat_map line switches) (line (codes "end")))

-- it is short enough to be read
pub text_short : (k : ℕ) → IsSize k → length (generated_text k) ≤ most_bytes
text_short k h =
    let some = h.some in
    let few = h.few in
    let head = codes "lhg 1" ++ 10 ∷ (codes "vars x" ++ 10 ∷ []) in
    let locations = flat_map line (flat_map location_lines (range_with_len 1 k)) in
    let switches = flat_map line (map switch_line (range_with_len 1 (k - 1))) in
    let all = ap length (text_parts k) in
    let one = length-append ((head ++ locations) ++ switches) (line (codes "end")) in
    let two = length-append (head ++ locations) switches in
    let three = length-append head locations in
    let first = locations_short 1 k (omega arith) in
    let second = switches_short 1 (k - 1) (omega arith) in
    omega arith
