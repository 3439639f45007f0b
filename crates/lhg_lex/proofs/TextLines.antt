-- The lines of a text from a place on, and where each begins.
use Rattle.std.proofs.Common.{◌≡◌, ◌<◌, ◌≤◌, ◌+◌, ℕ, zero, suc, List, [], ◌∷◌, length, drop, refl, sym, ap, ◌∙◌, Bool, true, false, All, arith, cond, ◌⊎◌, inl, inr, ◌==◌, add-one, length-drop}
use Rattle.std.specs.List.{slice_split, onto_first, before_first, after_first, position_or_len}
use Rattle.std.proofs.lemmas.List.Splits.{slice_split_first, slice_split_none}
use Rattle.std.proofs.lemmas.List.Sums.{fails_before_first}
use Rattle.std.proofs.lemmas.List.{drop-drop, drop_all, take_all, length-take-le}
use Rattle.std.proofs.lemmas.Bool.{cases_lt}
use Rattle.lhg_lex.specs.Lines.{lines_of, without_empty_last}
use Rattle.lhg_lex.specs.Reading.{start_of, IsAt}

-- a line feed
abbrev pub is_feed : ℕ → Bool
is_feed b = b == 10

-- a byte joins some part
some_onto : (b : ℕ) (parts : List (List ℕ)) → (x : List ℕ) × (xs : List (List ℕ)) × (onto_first b parts ≡ x ∷ xs)
some_onto b [] = (_, _, refl)
some_onto b (part ∷ parts) = (_, _, refl)

-- in either case there is a part
some_if : (t : Bool) (b : ℕ) (parts : List (List ℕ)) → (x : List ℕ) × (xs : List (List ℕ)) × (cond t ([] ∷ parts) (onto_first b parts) ≡ x ∷ xs)
some_if true b parts = (_, _, refl)
some_if false b parts = some_onto b parts

-- at least one part
pub some_part : (bytes : List ℕ) → (x : List ℕ) × (xs : List (List ℕ)) × (slice_split is_feed bytes ≡ x ∷ xs)
some_part [] = (_, _, refl)
some_part (b ∷ bytes) = some_if (is_feed b) b (slice_split is_feed bytes)

-- a first part stays where another follows
pub kept_first : (part : List ℕ) (parts : List (List ℕ)) → (x : List ℕ) (xs : List (List ℕ)) → parts ≡ x ∷ xs → without_empty_last (part ∷ parts) ≡ part ∷ without_empty_last parts
kept_first [] parts x xs e = rw e refl
kept_first (b ∷ bytes) parts x xs e = rw e refl

-- the first line ends at the first line feed
lines_with_feed : (bytes : List ℕ) → position_or_len is_feed bytes < length bytes → lines_of bytes ≡ before_first is_feed bytes ∷ lines_of (after_first is_feed bytes)
lines_with_feed bytes h =
    let p = some_part (after_first is_feed bytes) in
    ap without_empty_last (slice_split_first is_feed bytes 0 h) ∙ kept_first _ _ p.0 p.1 p.2

-- a text without a line feed is one line
pub lines_without_feed : (bytes : List ℕ) → 0 < length bytes → All (λ b. is_feed b ≡ false) bytes → lines_of bytes ≡ bytes ∷ []
lines_without_feed [] some h = absurd (omega arith)
lines_without_feed (b ∷ bytes) some h = ap without_empty_last (slice_split_none is_feed (b ∷ bytes) h)

-- the first line, and the lines behind it and its line feed
pub first_line : (bytes : List ℕ) → 0 < length bytes → lines_of bytes ≡ before_first is_feed bytes ∷ lines_of (drop (length (before_first is_feed bytes) + 1) bytes)
first_line bytes some = go (cases_lt (position_or_len is_feed bytes) (length bytes))
  where
    go : (position_or_len is_feed bytes < length bytes) ⊎ (length bytes ≤ position_or_len is_feed bytes) → lines_of bytes ≡ before_first is_feed bytes ∷ lines_of (drop (length (before_first is_feed bytes) + 1) bytes)
    go (inl lt) =
        let size = length-take-le (position_or_len is_feed bytes) bytes (omega arith) in
        lines_with_feed bytes lt ∙ ap (λ n. before_first is_feed bytes ∷ lines_of (drop (n + 1) bytes)) (sym size)
    go (inr past) =
        let all = take_all (position_or_len is_feed bytes) bytes past in
        lines_without_feed bytes some (λ k d h. fails_before_first is_feed bytes k d (omega arith))
        ∙ ap (λ w. w ∷ []) (sym all)
        ∙ ap (λ ws. before_first is_feed bytes ∷ ws) (sym (ap (λ w. lines_of w) (drop_all (length (before_first is_feed bytes) + 1) bytes (omega (arith, ap length all)))))

-- the lines from the start of a line on
pub lines_from : (n : ℕ) (bytes : List ℕ) → lines_of (drop (start_of n (lines_of bytes)) bytes) ≡ drop n (lines_of bytes)
lines_from zero bytes = refl
lines_from (suc n) [] = refl
lines_from (suc n) (b ∷ more) =
    let bytes = b ∷ more in
    let line = before_first is_feed bytes in
    let rest = drop (length line + 1) bytes in
    let e = first_line bytes (omega arith) in
    ap (λ ls. lines_of (drop (start_of (suc n) ls) bytes)) e
    ∙ ap (λ w. lines_of w) (sym (drop-drop (start_of n (lines_of rest)) (length line + 1) bytes))
    ∙ lines_from n rest ∙ ap (drop (suc n)) (sym e)

-- the lines behind a line
drop_next : (n : ℕ) (lines : List (List ℕ)) (line : List ℕ) (more : List (List ℕ)) → drop n lines ≡ line ∷ more → drop (n + 1) lines ≡ more
drop_next n lines line more e = sym (drop-drop 1 n lines) ∙ ap (drop 1) e

-- the next line begins behind a line and its line feed
start_next : (n : ℕ) (lines : List (List ℕ)) (line : List ℕ) (more : List (List ℕ)) → drop n lines ≡ line ∷ more → start_of (n + 1) lines ≡ start_of n lines + (length line + 1)
start_next zero [] line more e = absurd cc
start_next zero (l ∷ lines) line more e = let f : l ≡ line = cc in omega (arith, ap length f)
start_next (suc n) [] line more e = absurd cc
start_next (suc n) (l ∷ lines) line more e = rw (add-one (suc n)) (let h = start_next n lines line more e in let k = rw (add-one n) at h in omega (arith, k))

-- a line that is left is one of the text
pub next_within : (n : ℕ) (lines : List (List ℕ)) (line : List ℕ) (more : List (List ℕ)) → drop n lines ≡ line ∷ more → n + 1 ≤ length lines
next_within n lines line more e =
    let s = ap length e in
    let d = length-drop n lines in
    omega (arith, s, d)

-- ---- a place where a line begins

-- at the start
pub at_start : (bytes : List ℕ) → IsAt bytes 0 0
at_start bytes = record { begins = refl; within = omega arith }

-- the lines that are left are those of the bytes from the place on
pub left_lines : (bytes : List ℕ) (place n : ℕ) → IsAt bytes place n → lines_of (drop place bytes) ≡ drop n (lines_of bytes)
left_lines bytes place n at = ap (λ p. lines_of (drop p bytes)) at.begins ∙ lines_from n bytes

-- the line that begins at the place
pub line_here : (bytes : List ℕ) (place n : ℕ) → IsAt bytes place n → place < length bytes → drop n (lines_of bytes) ≡ before_first is_feed (drop place bytes) ∷ drop (n + 1) (lines_of bytes)
line_here bytes place n at lt =
    let rest = drop place bytes in
    let e = sym (left_lines bytes place n at) ∙ first_line rest (let d = length-drop place bytes in omega (arith, d)) in
    e ∙ ap (λ ls. before_first is_feed rest ∷ ls) (sym (drop_next n (lines_of bytes) (before_first is_feed rest) _ e))

-- and the place behind it
pub next_place : (bytes : List ℕ) (place n : ℕ) → IsAt bytes place n → place < length bytes → IsAt bytes (place + length (before_first is_feed (drop place bytes)) + 1) (n + 1)
next_place bytes place n at lt =
    let e = line_here bytes place n at lt in
    let s = start_next n (lines_of bytes) (before_first is_feed (drop place bytes)) (drop (n + 1) (lines_of bytes)) e in
    record { begins = omega (arith, s, at.begins); within = next_within n (lines_of bytes) (before_first is_feed (drop place bytes)) (drop (n + 1) (lines_of bytes)) e }

-- at the end of the text no line is left
pub none_left : (bytes : List ℕ) (place n : ℕ) → IsAt bytes place n → length bytes ≤ place → (drop n (lines_of bytes) ≡ []) × (n ≡ length (lines_of bytes))
none_left bytes place n at past =
    let e : drop n (lines_of bytes) ≡ [] = sym (left_lines bytes place n at) ∙ ap (λ w. lines_of w) (drop_all place bytes past) in
    let s = ap length e in
    let d = length-drop n (lines_of bytes) in
    let w = at.within in
    (e, omega (arith, s, d))

-- no more lines than bytes and line feeds stand before a place
starts_above : (n : ℕ) (lines : List (List ℕ)) → n ≤ length lines → n ≤ start_of n lines
starts_above zero lines h = omega arith
starts_above (suc n) [] h = absurd (omega arith)
starts_above (suc n) (line ∷ lines) h = let k = starts_above n lines (omega arith) in omega (arith, k)

-- no more lines than bytes stand before a place
pub few_lines : (bytes : List ℕ) (place n : ℕ) → IsAt bytes place n → n ≤ place
few_lines bytes place n at = let h = starts_above n (lines_of bytes) at.within in omega (arith, h, at.begins)
