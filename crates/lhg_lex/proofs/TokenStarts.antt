-- A token's first byte says of which kind it is.
use Rattle.std.proofs.Common.{◌≡◌, ◌<◌, ℕ, List, [], ◌∷◌, length, refl, sym, ◌∙◌, Bool, true, false, arith, ◌||◌, ◌==◌, Ok, get_or}
use Rattle.std.proofs.lemmas.Bool.{true≢false}
use Rattle.lhg_math.specs.Tests.{by_bool}
use Rattle.std.specs.List.{list_all}
use Rattle.std.proofs.Math.Bool.{or-false}
use Rattle.lhg_lex.specs.Word.{is_digit, begins_word, continues_word}
use Rattle.lhg_lex.specs.Digits.{is_run}
use Rattle.lhg_lex.specs.Literal.{before, is_number, number_of}
use Rattle.lhg_lex.specs.Token.{is_token, is_signs, said, number_said, signs_said, is_sign_byte, is_pair}
use Rattle.lhg_lex.specs.PlainToken.{PlainToken, word}
use Rattle.lhg_lex.proofs.Fronts.{suc_is}
use Rattle.lhg_lex.proofs.Bytes.{word_not_digit, digit_not_word, word_not_sign, word_not_pair, digit_not_sign, digit_not_pair}

-- no digits stand before a mark
no_run : (mark b : ℕ) (w : List ℕ) → is_digit b ≡ false → is_run (before mark (b ∷ w)) ≡ false
no_run mark b w h = by_bool (b == mark) (λ e. rw e refl) (λ e. rw (e, suc_is, h) refl)

-- bytes that begin with no digit are no number
pub no_number : (b : ℕ) (w : List ℕ) → is_digit b ≡ false → is_number (b ∷ w) ≡ false
no_number b w h =
    let f = no_run 47 b w h in
    let d = no_run 46 b w h in
    rw (h, f, d) refl

-- what begins with no sign is no sign
pub signs_from : (b : ℕ) (w : List ℕ) → is_sign_byte b ≡ false → ((c : ℕ) → is_pair b c ≡ false) → is_signs (b ∷ w) ≡ false
signs_from b [] h k = h
signs_from b (c ∷ []) h k = k c
signs_from b (c ∷ d ∷ w) h k = refl

-- bytes that begin with a letter are a token where they are a word
pub word_token : (b : ℕ) (w : List ℕ) → begins_word b ≡ true → is_token (b ∷ w) ≡ list_all continues_word w
word_token b w h =
    let n = no_number b w (word_not_digit b h) in
    let s = signs_from b w (word_not_sign b h) (λ c. word_not_pair b c h) in
    rw (n, s, h) (or-false (list_all continues_word w))

-- bytes that begin with a digit are a token where they are a number
pub number_token : (b : ℕ) (w : List ℕ) → is_digit b ≡ true → is_token (b ∷ w) ≡ is_number (b ∷ w)
number_token b w h =
    let l = digit_not_word b h in
    let s = signs_from b w (digit_not_sign b h) (λ c. digit_not_pair b c h) in
    rw (s, l) (or-false (is_number (b ∷ w)))

-- other bytes are a token where they are signs
pub signs_token : (b : ℕ) (w : List ℕ) → begins_word b ≡ false → is_digit b ≡ false → is_token (b ∷ w) ≡ is_signs (b ∷ w)
signs_token b w h k =
    let n = no_number b w k in
    rw (n, h) refl

-- a token that begins a word says the word
pub word_here : (b : ℕ) (w : List ℕ) → begins_word b ≡ true → is_token (b ∷ w) ≡ true → said (b ∷ w) ≡ Ok (word (b ∷ w))
word_here b w h t =
    let e : list_all continues_word w ≡ true = sym (word_token b w h) ∙ t in
    rw (h, e) refl

-- a token that begins with a digit says a number
pub number_here : (b : ℕ) (w : List ℕ) → is_digit b ≡ true → is_token (b ∷ w) ≡ true → (is_number (b ∷ w) ≡ true) × (said (b ∷ w) ≡ number_said (number_of (b ∷ w)))
number_here b w h t =
    let e : is_number (b ∷ w) ≡ true = sym (number_token b w h) ∙ t in
    let l = digit_not_word b h in
    (e, rw (l, e) refl)

-- a token that begins otherwise says signs
pub signs_here : (b : ℕ) (w : List ℕ) → begins_word b ≡ false → is_digit b ≡ false → said (b ∷ w) ≡ signs_said (b ∷ w)
signs_here b w h k =
    let n = no_number b w k in
    rw (h, n) refl

-- ---- the same of bytes that are not taken apart

-- a word
pub word_said : (t : List ℕ) → 0 < length t → is_token t ≡ true → begins_word (get_or t 0 0) ≡ true → said t ≡ Ok (word t)
word_said [] some h l = absurd (omega arith)
word_said (b ∷ w) some h l = word_here b w l h

-- a number
pub number_is_said : (t : List ℕ) → 0 < length t → is_token t ≡ true → is_digit (get_or t 0 0) ≡ true → (is_number t ≡ true) × (said t ≡ number_said (number_of t))
number_is_said [] some h d = absurd (omega arith)
number_is_said (b ∷ w) some h d = number_here b w d h

-- signs
pub signs_are_said : (t : List ℕ) → 0 < length t → is_token t ≡ true → begins_word (get_or t 0 0) ≡ false → is_digit (get_or t 0 0) ≡ false → (is_signs t ≡ true) × (said t ≡ signs_said t)
signs_are_said [] some h l d = absurd (omega arith)
signs_are_said (b ∷ w) some h l d = (sym (signs_token b w l d) ∙ h, signs_here b w l d)

-- bytes that are not empty are some
pub some_from_not_empty : (t : List ℕ) (e : Bool) → e ≡ (length t == 0) → e ≡ false → 0 < length t
some_from_not_empty [] e is f = absurd (true≢false (sym is ∙ f))
some_from_not_empty (b ∷ w) e is f = omega arith

-- no bytes are a token
pub nothing_said : (token : PlainToken) → said [] ≡ Ok token → ⊥
nothing_said token e = cc
