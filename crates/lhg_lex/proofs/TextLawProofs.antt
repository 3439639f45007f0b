-- Where the lines of a text end and begin, and which comes next.
use Rattle.std.proofs.Common.{◌≡◌, ◌<◌, ◌+◌, ◌-◌, ℕ, zero, suc, List, [], ◌∷◌, ◌++◌, length, take, drop, refl, sym, ap, ◌∙◌, subst, true, false, All, arith, cond, Some}
use Rattle.lhg_math.specs.Tests.{by_bool}
use Rattle.std.proofs.lemmas.Bool.{or_parts}
use Rattle.std.specs.Prelude.{slice_get, slice_range, count_by}
use Rattle.std.specs.List.{list_any, slice_split, onto_first, before_first, position_or_len, AllByRecursion}
use Rattle.std.proofs.lemmas.List.{drop-drop}
use Rattle.std.proofs.lemmas.List.Splits.{slice_split_at}
use Rattle.std.proofs.lemmas.List.Sums.{sum_by-cons}
use Rattle.lhg_lex.specs.Lines.{lines_of, without_empty_last}
use Rattle.lhg_lex.specs.LineTokens.{IsBlankLine}
use Rattle.lhg_lex.specs.Reading.{Reading, left_of, start_of, IsNext}
use Rattle.lhg_lex.specs.Laws.{TextLaws, NextLaws, open_end}
use Rattle.lhg_lex.proofs.TextLines.{is_feed, some_part, kept_first, lines_without_feed, first_line}

-- no byte of the line is a line feed
no_feeds : (line : List ℕ) → list_any is_feed line ≡ false → All (λ b. is_feed b ≡ false) line
no_feeds [] h k d lt = absurd (omega arith)
no_feeds (b ∷ line) h zero d lt = (or_parts (is_feed b) (list_any is_feed line) h).0
no_feeds (b ∷ line) h (suc k) d lt = no_feeds line (or_parts (is_feed b) (list_any is_feed line) h).1 k d (omega arith)

-- a line feed ends a line
fed : (line more : List ℕ) → list_any is_feed line ≡ false → lines_of (line ++ (10 ∷ more)) ≡ line ∷ lines_of more
fed line more h =
    let p = some_part more in
    ap without_empty_last (slice_split_at is_feed line 10 more (no_feeds line h) refl) ∙ kept_first line (slice_split is_feed more) p.0 p.1 p.2

-- the end of the text ends a line
last_line : (line : List ℕ) → 0 < length line → list_any is_feed line ≡ false → lines_of line ≡ line ∷ []
last_line line some h = lines_without_feed line some (no_feeds line h)

-- ---- how many

-- the line feeds of one byte more
count-cons : (b : ℕ) (bytes : List ℕ) → count_by is_feed (b ∷ bytes) ≡ cond (is_feed b) 1 0 + count_by is_feed bytes
count-cons b bytes = sum_by-cons (λ c. cond (is_feed c) 1 0) b bytes

-- a byte more in the first part makes no part more
same_count : (b : ℕ) (x : List ℕ) (xs : List (List ℕ)) → (x ≡ [] → xs ≡ [] → ⊥) → length (without_empty_last ((b ∷ x) ∷ xs)) ≡ length (without_empty_last (x ∷ xs))
same_count b [] [] h = absurd (h refl refl)
same_count b [] (y ∷ ys) h = refl
same_count b (a ∷ x) [] h = refl
same_count b (a ∷ x) (y ∷ ys) h = refl

-- a list with a member is not empty
cons_not_nil : {A : Type 0} (x : A) (xs : List A) → x ∷ xs ≡ [] → ⊥
cons_not_nil x xs e = cc

-- bytes have a part that is not empty, or two parts
not_empty : (c : ℕ) (bytes x : List ℕ) (xs : List (List ℕ)) → slice_split is_feed (c ∷ bytes) ≡ x ∷ xs → x ≡ [] → xs ≡ [] → ⊥
not_empty c bytes x xs e f g =
    by_bool (is_feed c)
    (λ t. let p = some_part bytes in let k : [] ∷ slice_split is_feed bytes ≡ x ∷ xs = rw t at e in let l : slice_split is_feed bytes ≡ xs = cc in cons_not_nil p.0 p.1 (sym p.2 ∙ l ∙ g))
    (λ t. let p = some_part bytes in let k : onto_first c (slice_split is_feed bytes) ≡ x ∷ xs = rw t at e in let l : (c ∷ p.0) ∷ p.1 ≡ x ∷ xs = rw p.2 at k in let m : c ∷ p.0 ≡ x = cc in cons_not_nil c p.0 (m ∙ f))

-- a line feed makes a line more
fed_count : (b : ℕ) (bytes : List ℕ) → is_feed b ≡ true → length (lines_of (b ∷ bytes)) ≡ suc (length (lines_of bytes))
fed_count b bytes t = let p = some_part bytes in rw t (ap length (kept_first [] (slice_split is_feed bytes) p.0 p.1 p.2))

-- any other byte makes none
unfed_count : (b c : ℕ) (bytes : List ℕ) → is_feed b ≡ false → length (lines_of (b ∷ c ∷ bytes)) ≡ length (lines_of (c ∷ bytes))
unfed_count b c bytes t =
    let p = some_part (c ∷ bytes) in
    let whole : lines_of (b ∷ c ∷ bytes) ≡ without_empty_last ((b ∷ p.0) ∷ p.1) = rw t (ap (λ parts. without_empty_last (onto_first b parts)) p.2) in
    ap length whole ∙ same_count b p.0 p.1 (not_empty c bytes p.0 p.1 p.2) ∙ ap (λ parts. length (without_empty_last parts)) (sym p.2)

-- the lines of one byte
one_count : (b : ℕ) → length (lines_of (b ∷ [])) ≡ count_by is_feed (b ∷ []) + open_end (b ∷ [])
one_count b = by_bool (is_feed b) (λ t. rw t refl) (λ t. rw t refl)

-- a line for each line feed, and one for bytes behind the last
count : (bytes : List ℕ) → length (lines_of bytes) ≡ count_by is_feed bytes + open_end bytes
count [] = refl
count (b ∷ []) = one_count b
count (b ∷ c ∷ bytes) =
    by_bool (is_feed b)
    (λ t. let k : count_by is_feed (b ∷ c ∷ bytes) ≡ 1 + count_by is_feed (c ∷ bytes) = count-cons b (c ∷ bytes) ∙ ap (λ z. cond z 1 0 + count_by is_feed (c ∷ bytes)) t in omega (arith, fed_count b (c ∷ bytes) t, count (c ∷ bytes), k))
    (λ t. let k : count_by is_feed (b ∷ c ∷ bytes) ≡ 0 + count_by is_feed (c ∷ bytes) = count-cons b (c ∷ bytes) ∙ ap (λ z. cond z 1 0 + count_by is_feed (c ∷ bytes)) t in omega (arith, unfed_count b c bytes t, count (c ∷ bytes), k))

-- ---- where each begins

-- as many as were taken
take_length : (k : ℕ) (xs : List ℕ) → take (length (take k xs)) xs ≡ take k xs
take_length zero xs = refl
take_length (suc k) [] = refl
take_length (suc k) (x ∷ xs) = ap (λ ys. x ∷ ys) (take_length k xs)

-- equal values
some_eq : (x y : List ℕ) → Some x ≡ Some y → x ≡ y
some_eq x y e = cc

-- a line stands where it begins
begins : (bytes : List ℕ) (n : ℕ) (line : List ℕ) → slice_get (lines_of bytes) n ≡ Some line → slice_range bytes (start_of n (lines_of bytes)) (start_of n (lines_of bytes) + length line) ≡ line
begins [] n line e = absurd cc
begins (b ∷ more) zero line e =
    let bytes = b ∷ more in
    let f = first_line bytes (omega arith) in
    let l : before_first is_feed bytes ≡ line = some_eq (before_first is_feed bytes) line (rw f at e) in
    let size : 0 + length line - 0 ≡ length (before_first is_feed bytes) = let s = ap length l in omega (arith, s) in
    ap (λ k. take k bytes) size ∙ take_length (position_or_len is_feed bytes) bytes ∙ l
begins (b ∷ more) (suc n) line e =
    let bytes = b ∷ more in
    let front = before_first is_feed bytes in
    let rest = drop (length front + 1) bytes in
    let f = first_line bytes (omega arith) in
    let g : slice_get (lines_of rest) n ≡ Some line = rw f at e in
    let s = start_of n (lines_of rest) in
    let start : start_of (suc n) (lines_of bytes) ≡ length front + 1 + s = ap (start_of (suc n)) f in
    let ih = begins rest n line g in
    let size : length front + 1 + s + length line - (length front + 1 + s) ≡ s + length line - s = omega arith in
    ap (λ k. slice_range bytes k (k + length line)) start
    ∙ ap (λ k. take k (drop (length front + 1 + s) bytes)) size
    ∙ ap (take (s + length line - s)) (sym (drop-drop s (length front + 1) bytes)) ∙ ih

-- the laws of lines
pub text_laws : TextLaws
text_laws = record { fed = fed; last = last_line; count = count; begins = begins }

-- ---- which comes next

-- a member behind some others
get-drop : (k i : ℕ) (xs : List (List ℕ)) → slice_get (drop k xs) i ≡ slice_get xs (k + i)
get-drop zero i xs = ap (slice_get xs) (plain i)
  where
    plain : (i : ℕ) → i ≡ 0 + i
    plain i = omega arith
get-drop (suc k) i [] = refl
get-drop (suc k) i (x ∷ xs) = get-drop k i xs ∙ ap (slice_get (x ∷ xs)) (later k i)
  where
    later : (k i : ℕ) → suc (k + i) ≡ suc k + i
    later k i = omega arith

-- the member behind a list
get-append : (xs : List (List ℕ)) (y : List ℕ) (ys : List (List ℕ)) → slice_get (xs ++ (y ∷ ys)) (length xs) ≡ Some y
get-append [] y ys = refl
get-append (x ∷ xs) y ys = get-append xs y ys

-- the next line is a line of the text
next_is : (s : Reading) (n : ℕ) (line : List ℕ) → IsNext s n line → slice_get (lines_of s.bytes) n ≡ Some line
next_is s n line h =
    ap (slice_get (lines_of s.bytes)) h.count ∙ sym (get-drop s.read (length h.blanks) (lines_of s.bytes)) ∙ ap (λ ls. slice_get ls (length h.blanks)) h.left
    ∙ get-append h.blanks line (left_of (record s { read = n + 1 }))

-- behind blank lines one line is the first that is not
same_next : (xs ys : List (List ℕ)) (x y : List ℕ) (us vs : List (List ℕ)) → xs ++ (x ∷ us) ≡ ys ++ (y ∷ vs) → AllByRecursion IsBlankLine xs → AllByRecursion IsBlankLine ys → ¬ IsBlankLine x → ¬ IsBlankLine y → (length xs ≡ length ys) × (x ≡ y)
same_next [] [] x y us vs e a b p q = (refl, cc)
same_next [] (z ∷ ys) x y us vs e a b p q = absurd (p (let f : z ≡ x = cc in subst (λ w. IsBlankLine w) f b.0))
same_next (z ∷ xs) [] x y us vs e a b p q = absurd (q (let f : z ≡ y = cc in subst (λ w. IsBlankLine w) f a.0))
same_next (z ∷ xs) (w ∷ ys) x y us vs e a b p q =
    let f : xs ++ (x ∷ us) ≡ ys ++ (y ∷ vs) = cc in
    let r = same_next xs ys x y us vs f a.1 b.1 p q in
    (ap suc r.0, r.1)

-- so the next line that is not blank is one alone
one_next : (s : Reading) (n m : ℕ) (line other : List ℕ) → IsNext s n line → ¬ IsBlankLine line → IsNext s m other → ¬ IsBlankLine other → (n ≡ m) × (line ≡ other)
one_next s n m line other h p k q =
    let r = same_next h.blanks k.blanks line other (left_of (record s { read = n + 1 })) (left_of (record s { read = m + 1 })) (sym h.left ∙ k.left) h.blank k.blank p q in
    (omega (arith, h.count, k.count, r.0), r.1)

-- the laws of the next line
pub next_laws : NextLaws
next_laws = record { line = next_is; one = one_next }
