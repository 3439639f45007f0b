-- What does one number more add to a generated text?
use Rattle.std.proofs.Common.{◌≡◌, ◌+◌, ℕ, zero, suc, List, [], ◌∷◌, ◌++◌, map, sym, ap, ◌∙◌, arith, append_assoc, append-nil, codes, decimal, Result, Ok, Err, OnOk, if◌then◌else◌, is_ok}
use Rattle.std.specs.List.{flat_map, range_with_len}
use Rattle.std.proofs.lemmas.Grind.{flat_map-append}
use Rattle.std.proofs.lemmas.List.{map-append}
use Rattle.lhg_row_text.specs.PrintedLine.{line}
use Rattle.lhg_gen.specs.GeneratedText.{location_lines, switch_line}

-- one number more in a range
range_more : (a n : ℕ) → range_with_len a (suc n) ≡ range_with_len a n ++ (a + n) ∷ []
range_more a zero = let e : a ≡ a + 0 = omega arith in ap (λ m. m ∷ []) e
range_more a (suc n) = let e : (a + 1) + n ≡ a + suc n = omega arith in ap (λ is. a ∷ is) (range_more (a + 1) n ∙ ap (λ m. range_with_len (a + 1) n ++ m ∷ []) e)

-- the numbers from 1 on, one more
numbers_more : (n : ℕ) → range_with_len 1 (n + 1) ≡ range_with_len 1 n ++ (n + 1) ∷ []
numbers_more n =
    let next : n + 1 ≡ suc n = omega arith in
    let last : 1 + n ≡ n + 1 = omega arith in
    ap (range_with_len 1) next ∙ range_more 1 n ∙ ap (λ m. range_with_len 1 n ++ m ∷ []) last

-- what a last call appends where it does not fail
pub appended_or : {T E : Type 0} (r : Result T E) (new old more : List ℕ) → new ≡ (if is_ok r then old ++ more else old) → OnOk r (new ≡ old ++ more)
appended_or (Ok x) new old more h = h
appended_or (Err x) new old more h = tt

-- text behind text
text_more : (old now new first second all : List ℕ) → now ≡ old ++ first → new ≡ now ++ second → all ≡ first ++ second → new ≡ old ++ all
text_more old now new first second all h k e = k ∙ ap (λ t. t ++ second) h ∙ append_assoc old first second ∙ ap (λ t. old ++ t) (sym e)

-- a location more
pub location_more : (n : ℕ) (old now new : List ℕ) → now ≡ old ++ flat_map line (flat_map location_lines (range_with_len 1 n)) → new ≡ now ++ flat_map line (location_lines (n + 1))
    → new ≡ old ++ flat_map line (flat_map location_lines (range_with_len 1 (n + 1)))
location_more n old now new h k =
    let is = range_with_len 1 n in
    text_more old now new (flat_map line (flat_map location_lines is)) (flat_map line (location_lines (n + 1))) (flat_map line (flat_map location_lines (range_with_len 1 (n + 1)))) h k
    (
    ap (λ js. flat_map line (flat_map location_lines js)) (numbers_more n) ∙ ap (flat_map line) (flat_map-append location_lines is ((n + 1) ∷ []))
    ∙ flat_map-append line (flat_map location_lines is) (location_lines (n + 1))
    )

-- a switch more
pub switch_more : (n : ℕ) (old now new : List ℕ) → now ≡ old ++ flat_map line (map switch_line (range_with_len 1 n)) → new ≡ now ++ line (switch_line (n + 1))
    → new ≡ old ++ flat_map line (map switch_line (range_with_len 1 (n + 1)))
switch_more n old now new h k =
    let is = range_with_len 1 n in
    text_more old now new (flat_map line (map switch_line is)) (line (switch_line (n + 1))) (flat_map line (map switch_line (range_with_len 1 (n + 1)))) h k
    (
    ap (λ js. flat_map line (map switch_line js)) (numbers_more n) ∙ ap (flat_map line) (map-append switch_line is ((n + 1) ∷ []))
    ∙ flat_map-append line (map switch_line is) (switch_line (n + 1) ∷ []) ∙ ap (λ t. flat_map line (map switch_line is) ++ t) (append-nil (line (switch_line (n + 1))))
    )

-- the lines of a location behind the first
abbrev pub behind : List (List ℕ)
behind = codes "inv 0 <= x <= 10" ∷ codes "flow x = 1" ∷ codes "safe x <= 8" ∷ codes "safe x >= 9" ∷ []

-- the text of a location: its name, and what stands behind it
pub location_parts : (i : ℕ) → flat_map line (location_lines i) ≡ (codes "loc" ++ 32 ∷ 97 ∷ decimal i) ++ 10 ∷ flat_map line behind
location_parts i = ap (λ t. codes "loc" ++ 32 ∷ 97 ∷ t) (append_assoc (decimal i) (10 ∷ []) (flat_map line behind))
