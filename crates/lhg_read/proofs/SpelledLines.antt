-- A line in which a space stands behind each token has these tokens.
use Rattle.std.proofs.Common.{◌≡◌, ◌+◌, ◌==◌, ℕ, List, [], ◌∷◌, ◌++◌, length, map, refl, sym, ap, ◌∙◌, Bool, true, false, inr, Ok, arith, append-nil}
use Rattle.std.specs.List.{list_all, list_any, prefix_len}
use Rattle.std.proofs.lemmas.Bool.{and_parts}
use Rattle.std.proofs.lemmas.Bool.Decides.{nat_tests}
use Rattle.lhg_math.specs.Number.{nought}
use Rattle.lhg_math.specs.Tests.{AllOf, by_bool}
use Rattle.lhg_lex.specs.PlainToken.{PlainToken, word, number, sign}
use Rattle.lhg_lex.specs.Word.{is_word, begins_word, continues_word}
use Rattle.lhg_lex.specs.Token.{said}
use Rattle.lhg_lex.specs.Longest.{IsLongest}
use Rattle.lhg_lex.specs.LineTokens.{Spot, tokens_from, tokens_of}
use Rattle.lhg_lex.specs.LineReading.{are_separators, Reads, EndsWell}
use Rattle.lhg_lex.proofs.LongestLemmas.{word_longest, sign_longest}
use Rattle.lhg_lex.proofs.NumberLengths.{plain_longest}
use Rattle.lhg_lex.proofs.LineLawProofs.{content_laws}
use Rattle.lhg_lex.proofs.ReadingAnswers.{answer_well}
use Rattle.lhg_lex.proofs.Fronts.{suc_is}
use Rattle.lhg_read.specs.PlantText.{said_in}

-- a token, and its bytes
pub record Spelling : Type 0 where
  pub bytes : List ℕ
  pub token : PlainToken

-- the bytes are the token, which ends at a space; no comment begins in it
pub record IsSpelling (s : Spelling) : Type 0 where
  pub says : said s.bytes ≡ Ok s.token
  pub ends : (rest : List ℕ) → IsLongest (s.bytes ++ (32 ∷ rest)) (length s.bytes)
  pub plain : list_any (λ b. b == 35) s.bytes ≡ false

-- the bytes, a space behind each token
abbrev pub spelled : List Spelling → List ℕ
spelled [] = []
spelled (s ∷ ss) = s.bytes ++ (32 ∷ spelled ss)

-- ---- the line

-- what stands in these bytes, behind separators
record Stands (at : ℕ) (gap : List ℕ) (ss : List Spelling) : Type 0 where
  spots : List Spot
  reads : Reads EndsWell at (gap ++ spelled ss) spots
  say : said_in spots ≡ map (λ s. s.token) ss

stand : (at : ℕ) (gap : List ℕ) (ss : List Spelling) → are_separators gap ≡ true → AllOf IsSpelling ss → Stands at gap ss
stand at gap [] g h = record {
  spots = [];
  reads = record { separators = ap are_separators (append-nil gap) ∙ g };
  say = refl;
}
stand at gap (s ∷ ss) g h =
    let from : ℕ = at + length gap in
    let next = stand (from + length s.bytes) (32 ∷ []) ss refl h.1 in
    record {
      spots = record { says = s.token; from = from; to = from + length s.bytes } ∷ next.spots;
      reads = (
        32 ∷ spelled ss,
        record { gap = gap; token = s.bytes; parts = refl; separators = g; from = refl; to = refl; says = h.0.says; longest = h.0.ends (spelled ss) },
        next.reads,
      );
      say = ap (λ ts. s.token ∷ ts) next.say;
    }

any_append : (test : ℕ → Bool) (xs ys : List ℕ) → list_any test xs ≡ false → list_any test ys ≡ false → list_any test (xs ++ ys) ≡ false
any_append test [] ys h k = k
any_append test (x ∷ xs) ys h k = by_bool (test x) (λ t. let f = rw t at h in absurd cc) (λ t. let f = rw t at h in rw t (any_append test xs ys f k))

no_comment : (ss : List Spelling) → AllOf IsSpelling ss → list_any (λ b. b == 35) (spelled ss) ≡ false
no_comment [] h = refl
no_comment (s ∷ ss) h = any_append (λ b. b == 35) s.bytes (32 ∷ spelled ss) h.0.plain (no_comment ss h.1)

-- a line of these tokens, with an empty comment at its end
abbrev pub spelled_line : List Spelling → List ℕ
spelled_line ss = spelled ss ++ (35 ∷ [])

-- its tokens
pub spelled_tokens : (ss : List Spelling) → AllOf IsSpelling ss → (spots : List Spot) × (tokens_of (spelled_line ss) ≡ Ok spots) × (said_in spots ≡ map (λ s. s.token) ss)
unfolding tokens_of
spelled_tokens ss h =
    let s = stand 0 [] ss refl h in
    (s.spots, ap (λ bytes. tokens_from 0 0 bytes) (content_laws.comment (spelled ss) [] (no_comment ss h)) ∙ answer_well 0 (spelled ss) s.spots s.reads, s.say)

-- ---- tokens

-- a word
word_stops : (w rest : List ℕ) → list_all continues_word w ≡ true → prefix_len continues_word (w ++ (32 ∷ rest)) ≡ length w
word_stops [] rest h = refl
word_stops (b ∷ w) rest h = let p = and_parts (continues_word b) (list_all continues_word w) h in rw p.0 (ap (λ n. 1 + n) (word_stops w rest p.1) ∙ suc_is (length w))

word_plain : (w : List ℕ) → list_all continues_word w ≡ true → list_any (λ b. b == 35) w ≡ false
word_plain [] h = refl
word_plain (b ∷ w) h =
    let p = and_parts (continues_word b) (list_all continues_word w) h in
    let e : (b == 35) ≡ false = by_bool (b == 35) (λ t. absurd (grind (arith, nat_tests, t, p.0))) (λ t. t) in
    rw e (word_plain w p.1)

begun : (b : ℕ) → begins_word b ≡ true → continues_word b ≡ true
begun b h = rw h refl

pub word_spelling : (w : List ℕ) → is_word w ≡ true → IsSpelling (record { bytes = w; token = word w })
word_spelling [] h = absurd cc
word_spelling (b ∷ w) h =
    let p = and_parts (begins_word b) (list_all continues_word w) h in
    let all : list_all continues_word (b ∷ w) ≡ true = rw (begun b p.0) p.1 in
    record {
      says = rw h refl;
      ends = λ rest. word_longest (b ∷ w ++ (32 ∷ rest)) (length (b ∷ w)) (λ e. absurd (omega (arith, e))) p.0 (sym (word_stops (b ∷ w) rest all));
      plain = word_plain (b ∷ w) all;
    }

-- `=` and `,`
pub equals_spelling : IsSpelling (record { bytes = 61 ∷ []; token = sign 61 })
equals_spelling = record { says = refl; ends = λ rest. sign_longest (61 ∷ 32 ∷ rest) (omega arith) refl refl (inr refl) refl; plain = refl }

pub comma_spelling : IsSpelling (record { bytes = 44 ∷ []; token = sign 44 })
comma_spelling = record { says = refl; ends = λ rest. sign_longest (44 ∷ 32 ∷ rest) (omega arith) refl refl (inr refl) refl; plain = refl }

-- `0`
pub zero_spelling : IsSpelling (record { bytes = 48 ∷ []; token = number nought })
unfolding nought
zero_spelling = record { says = refl; ends = λ rest. plain_longest (48 ∷ 32 ∷ rest) 1 refl (omega arith) refl (inr refl); plain = refl }
