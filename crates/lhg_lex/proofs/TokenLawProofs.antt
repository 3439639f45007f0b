-- A token is of one kind.
use Rattle.std.proofs.Common.{◌≡◌, ℕ, List, [], ◌∷◌, refl, sym, ◌∙◌, true, false, Ok}
use Rattle.lhg_math.specs.Tests.{by_bool}
use Rattle.std.proofs.lemmas.Bool.{and_parts, true≢false}
use Rattle.std.specs.List.{list_all}
use Rattle.lhg_lex.specs.Word.{is_digit, begins_word, continues_word, is_word}
use Rattle.lhg_lex.specs.Literal.{is_number, number_of}
use Rattle.lhg_lex.specs.PlainToken.{word}
use Rattle.lhg_lex.specs.Token.{is_signs, said, number_said, signs_said, is_sign_byte}
use Rattle.lhg_lex.specs.Laws.{TokenLaws}
use Rattle.lhg_lex.proofs.Bytes.{word_not_digit, digit_not_word, word_not_sign, digit_not_sign, word_not_pair, digit_not_pair, pair_needs_sign}
use Rattle.lhg_lex.proofs.TokenStarts.{no_number, signs_from}
use Rattle.lhg_lex.proofs.LiteralLemmas.{begins}

-- of a word
word_law : (w : List ℕ) → is_word w ≡ true → (is_number w ≡ false) × (is_signs w ≡ false) × (said w ≡ Ok (word w))
word_law [] h = absurd cc
word_law (b ∷ w) h =
    let f = (and_parts (begins_word b) (list_all continues_word w) h).0 in
    (no_number b w (word_not_digit b f), signs_from b w (word_not_sign b f) (λ c. word_not_pair b c f), rw h refl)

-- of a number
number_law : (w : List ℕ) → is_number w ≡ true → (is_word w ≡ false) × (is_signs w ≡ false) × (said w ≡ number_said (number_of w))
number_law [] h = absurd cc
number_law (b ∷ w) h =
    let f = (begins (b ∷ w) h).1 in
    let n : is_word (b ∷ w) ≡ false = let g = digit_not_word b f in rw g refl in
    (n, signs_from b w (digit_not_sign b f) (λ c. digit_not_pair b c f), rw (n, h) refl)

-- signs begin with a sign
sign_begins : (b : ℕ) (w : List ℕ) → is_signs (b ∷ w) ≡ true → is_sign_byte b ≡ true
sign_begins b [] h = h
sign_begins b (c ∷ []) h = by_bool (is_sign_byte b) (λ e. e) (λ e. absurd (true≢false (sym h ∙ pair_needs_sign b c e)))
sign_begins b (c ∷ d ∷ w) h = absurd (true≢false (sym h))

-- of signs
signs_law : (w : List ℕ) → is_signs w ≡ true → (is_word w ≡ false) × (is_number w ≡ false) × (said w ≡ signs_said w)
signs_law [] h = absurd cc
signs_law (b ∷ w) h =
    let s = sign_begins b w h in
    let f : begins_word b ≡ false = by_bool (begins_word b) (λ e. absurd (true≢false (sym s ∙ word_not_sign b e))) (λ e. e) in
    let d : is_digit b ≡ false = by_bool (is_digit b) (λ e. absurd (true≢false (sym s ∙ digit_not_sign b e))) (λ e. e) in
    let n : is_word (b ∷ w) ≡ false = rw f refl in
    let k = no_number b w d in
    (n, k, rw (n, k) refl)

-- the laws
pub token_laws : TokenLaws
token_laws = record { word = word_law; number = number_law; signs = signs_law }
