-- Which bytes of a printed line are a word, a sign or two signs?
use Rattle.std.proofs.Common.{◌≡◌, ℕ, suc, List, [], ◌∷◌, ◌++◌, length, get_or, refl, sym, ap, ◌∙◌, Bool, true, false, arith, ◌==◌, codes, inr}
use Rattle.std.specs.List.{list_all, list_any, prefix_len}
use Rattle.std.proofs.lemmas.Bool.{and_parts, true≢false}
use Rattle.std.proofs.lemmas.Bool.Decides.{nat_tests}
use Rattle.lhg_lex.specs.PlainToken.{word, sign, two_signs}
use Rattle.lhg_lex.specs.Word.{is_word, is_digit, begins_word, continues_word}
use Rattle.lhg_lex.specs.Literal.{is_mark}
use Rattle.lhg_lex.specs.Token.{is_sign_byte, is_pair}
use Rattle.lhg_lex.proofs.Fronts.{suc_is}
use Rattle.lhg_lex.proofs.LongestLemmas.{word_longest, sign_longest, pair_longest}
use Rattle.lhg_lex.proofs.TokenLawProofs.{token_laws}
use Rattle.lhg_row_text.proofs.LineText.{is_inner, IsToken}

-- what may stand behind a word or a number: a space, `'`, `*` or `,`
abbrev pub is_break : ℕ → Bool
is_break b = list_any (λ s. b == s) (codes " '*,")

-- or nothing
abbrev pub breaks : List ℕ → Bool
breaks [] = true
breaks (b ∷ bytes) = is_break b

break_not_word : (b : ℕ) → is_break b ≡ true → continues_word b ≡ false
break_not_word b h = grind (arith, nat_tests)

-- no digit
pub break_not_digit : (b : ℕ) → is_break b ≡ true → is_digit b ≡ false
break_not_digit b h = grind (arith, nat_tests)

-- no mark of a number
pub break_not_mark : (b : ℕ) → is_break b ≡ true → is_mark b ≡ false
break_not_mark b h = grind (arith, nat_tests)

-- where a break stands, no byte passes a test that breaks fail
pub break_stops : (p : ℕ → Bool) → ((b : ℕ) → is_break b ≡ true → p b ≡ false) → (rest : List ℕ) → breaks rest ≡ true → prefix_len p rest ≡ 0
break_stops p fails [] h = refl
break_stops p fails (b ∷ rest) h = let e = fails b h in rw e refl

-- so the front that passes ends there
pub front_is : (p : ℕ → Bool) (bytes rest : List ℕ) → list_all p bytes ≡ true → prefix_len p rest ≡ 0 → prefix_len p (bytes ++ rest) ≡ length bytes
front_is p [] rest h stop = stop
front_is p (b ∷ bytes) rest h stop =
    let f = and_parts (p b) (list_all p bytes) h in
    let e = f.0 in
    rw (e, suc_is) (ap (λ (n : ℕ). suc n) (front_is p bytes rest f.1 stop))

-- a test that is weaker passes too
pub all_weaker : (p q : ℕ → Bool) → ((b : ℕ) → p b ≡ true → q b ≡ true) → (bytes : List ℕ) → list_all p bytes ≡ true → list_all q bytes ≡ true
all_weaker p q weaker [] h = refl
all_weaker p q weaker (b ∷ bytes) h =
    let f = and_parts (p b) (list_all p bytes) h in
    let e = weaker b f.0 in
    rw e (all_weaker p q weaker bytes f.1)

word_inner : (b : ℕ) → continues_word b ≡ true → is_inner b ≡ true
word_inner b h = grind (arith, nat_tests)

sign_inner : (b : ℕ) → is_sign_byte b ≡ true → is_inner b ≡ true
sign_inner b h = grind (arith, nat_tests)

sign_not_word : (b : ℕ) → is_sign_byte b ≡ true → begins_word b ≡ false
sign_not_word b h = grind (arith, nat_tests)

sign_not_digit : (b : ℕ) → is_sign_byte b ≡ true → is_digit b ≡ false
sign_not_digit b h = grind (arith, nat_tests)

pair_signs : (b c : ℕ) → is_pair b c ≡ true → (is_sign_byte b ≡ true) × (is_sign_byte c ≡ true)
pair_signs b c h = (grind (arith, nat_tests), grind (arith, nat_tests))

-- a word in front of a break
pub word_token : (bytes rest : List ℕ) → is_word bytes ≡ true → breaks rest ≡ true → IsToken bytes (word bytes) rest
word_token [] rest h k = absurd (true≢false (sym h))
word_token (b ∷ bytes) rest h k =
    let f = and_parts (begins_word b) (list_all continues_word bytes) h in
    let first = f.0 in
    let all : list_all continues_word (b ∷ bytes) ≡ true = rw first f.1 in
    record {
      says = (token_laws.word (b ∷ bytes) h).2;
      longest = word_longest (b ∷ bytes ++ rest) (length (b ∷ bytes)) (λ e. absurd (omega arith)) f.0 (sym (front_is continues_word (b ∷ bytes) rest all (break_stops continues_word break_not_word rest k)));
      inner = all_weaker continues_word is_inner word_inner (b ∷ bytes) all;
    }

-- a sign with which the next byte makes no two signs
pub sign_token : (b : ℕ) (rest : List ℕ) → is_sign_byte b ≡ true → is_pair b (get_or rest 0 0) ≡ false → IsToken (b ∷ []) (sign b) rest
sign_token b rest h k =
    let i = sign_inner b h in
    record {
      says = (token_laws.signs (b ∷ []) h).2 ∙ rw h refl;
      longest = sign_longest (b ∷ rest) (omega arith) (sign_not_word b h) (sign_not_digit b h) (inr k) h;
      inner = rw i refl;
    }

-- two signs
pub pair_token : (b c : ℕ) (rest : List ℕ) → is_pair b c ≡ true → IsToken (b ∷ c ∷ []) (two_signs b c) rest
pair_token b c rest h =
    let s = pair_signs b c h in
    let i = sign_inner b s.0 in
    let j = sign_inner c s.1 in
    record {
      says = (token_laws.signs (b ∷ c ∷ []) h).2 ∙ rw h refl;
      longest = pair_longest (b ∷ c ∷ rest) (omega arith) (sign_not_word b s.0) (sign_not_digit b s.0) h;
      inner = rw (i, j) refl;
    }
