-- A list that is cut at the members that pass a test, part by part.
use Rattle.std.proofs.Common.{◌≡◌, ◌<◌, ◌≤◌, ◌+◌, ◌-◌, ℕ, zero, suc, List, [], ◌∷◌, length, take, drop, map, refl, sym, ap, ◌∙◌, Bool, arith, get_or}
use Rattle.std.specs.Prelude.{slice_range}
use Rattle.std.specs.List.{position_or_len}
use Rattle.std.proofs.lemmas.List.{take_rest, take_all, drop-drop, get_or-drop, length-drop}
use Rattle.lhg_math.specs.Tests.{by_bool}
use Rattle.lhg_lex.specs.PlainToken.{PlainToken, word}
use Rattle.lhg_lex.specs.TextTokens.{plain_kind, plain_of}
use Rattle.lhg_lex.specs.declared.tokens.Tok.{Tok}
use Rattle.lhg_lex.specs.declared.tokens.Tok.TheVariants as tok
use Rattle.lhg_lex.specs.declared.tokens.Token.{Token}
use Rattle.lhg_read.specs.Cut.{Cut, cut}

-- a first part, and then what is cut off behind the member x
abbrev pub behind : {A : Type 0} → List A → A → Cut A → Cut A
behind part x c = record { first = part; others = (x, c.first) ∷ c.others }

-- the one part
abbrev pub whole : {A : Type 0} → List A → Cut A
whole part = record { first = part; others = [] }

-- one member more in the first part
one_before : {A : Type 0} → A → Cut A → Cut A
one_before x c = record { first = x ∷ c.first; others = c.others }

-- where no member passes, the list is the one part
pub cut_none : {A : Type 0} (test : A → Bool) (xs : List A) → length xs ≤ position_or_len test xs → cut test xs ≡ whole xs
unfolding one_before
cut_none test [] h = refl
cut_none test (x ∷ xs) h =
    by_bool (test x)
    (λ e. let k : suc (length xs) ≤ 0 = rw e at h in absurd (omega arith))
    (λ e. let k : suc (length xs) ≤ 1 + position_or_len test xs = rw e at h in rw e (ap (one_before x) (cut_none test xs (omega arith))))

-- the first part ends at the first member that passes
pub cut_first : {A : Type 0} (test : A → Bool) (xs : List A) (n : ℕ) (d : A) → n ≡ position_or_len test xs → n < length xs → cut test xs ≡ behind (take n xs) (get_or xs n d) (cut test (drop (n + 1) xs))
unfolding one_before
cut_first test [] n d e h = absurd (omega arith)
cut_first test (x ∷ xs) zero d e h = by_bool (test x) (λ t. rw t refl) (λ t. let k : 0 ≡ 1 + position_or_len test xs = rw t at e in absurd (omega arith))
cut_first test (x ∷ xs) (suc n) d e h =
    by_bool (test x)
    (λ t. let k : suc n ≡ 0 = rw t at e in absurd (omega arith))
    (λ t. let k : suc n ≡ 1 + position_or_len test xs = rw t at e in rw t (ap (one_before x) (cut_first test xs n d (omega arith) (omega arith)) ∙ ap (λ k. behind (take (suc n) (x ∷ xs)) (get_or xs n d) (cut test (drop k (x ∷ xs)))) (later n)))
  where
    later : (n : ℕ) → suc (n + 1) ≡ suc n + 1
    later n = omega arith

-- what is told of a token does not ask which word it is
abbrev pub IsBlind : {B : Type 0} → (PlainToken → B) → Type 0
IsBlind f = (v w : List ℕ) → f (word v) ≡ f (word w)

-- so it is told without the text
pub without_text : {B : Type 0} (f : PlainToken → B) → IsBlind f → (text : List ℕ) (token : Token) → f (plain_of text token) ≡ f (plain_of [] token)
without_text f blind text token = by_kind token.kind
  where
    by_kind : (kind : Tok) → f (plain_kind (slice_range text token.from token.to) kind) ≡ f (plain_kind (slice_range [] token.from token.to) kind)
    by_kind tok.Word = blind (slice_range text token.from token.to) (slice_range [] token.from token.to)
    by_kind (tok.Number q) = refl
    by_kind (tok.Sign b) = refl
    by_kind (tok.TwoSign b c) = refl

-- and a test passes at the same place, whatever the text
same_place : (test : PlainToken → Bool) (text : List ℕ) (tokens : List Token) → IsBlind test → position_or_len test (map (plain_of text) tokens) ≡ position_or_len (λ token. test (plain_of [] token)) tokens
same_place test text [] blind = refl
same_place test text (token ∷ tokens) blind = rw (without_text test blind text token, same_place test text tokens blind) refl

length_plain : (text : List ℕ) (tokens : List Token) → length (map (plain_of text) tokens) ≡ length tokens
length_plain text [] = refl
length_plain text (token ∷ tokens) = ap suc (length_plain text tokens)

take_plain : (text : List ℕ) (n : ℕ) (tokens : List Token) → take n (map (plain_of text) tokens) ≡ map (plain_of text) (take n tokens)
take_plain text zero tokens = refl
take_plain text (suc n) [] = refl
take_plain text (suc n) (token ∷ tokens) = ap (λ ts. plain_of text token ∷ ts) (take_plain text n tokens)

drop_plain : (text : List ℕ) (n : ℕ) (tokens : List Token) → drop n (map (plain_of text) tokens) ≡ map (plain_of text) (drop n tokens)
drop_plain text zero tokens = refl
drop_plain text (suc n) [] = refl
drop_plain text (suc n) (token ∷ tokens) = drop_plain text n tokens

get_plain : (text : List ℕ) (n : ℕ) (tokens : List Token) (d : Token) → get_or (map (plain_of text) tokens) n (plain_of text d) ≡ plain_of text (get_or tokens n d)
get_plain text zero [] d = refl
get_plain text (suc n) [] d = refl
get_plain text zero (token ∷ tokens) d = refl
get_plain text (suc n) (token ∷ tokens) d = get_plain text n tokens d

drop_twice : {A : Type 0} (at n : ℕ) (xs : List A) → drop (n + 1) (drop at xs) ≡ drop (at + n + 1) xs
drop_twice at n xs = let e : at + (n + 1) ≡ at + n + 1 = omega arith in drop-drop (n + 1) at xs ∙ ap (λ k. drop k xs) e

module _ (test : PlainToken → Bool) (blind : IsBlind test) (text : List ℕ) (tokens : List Token) (n : ℕ) (is : n ≡ position_or_len (λ token. test (plain_of [] token)) tokens) where
  first_place : n ≡ position_or_len test (map (plain_of text) tokens)
  first_place = is ∙ sym (same_place test text tokens blind)

  -- where no token passes, all are one part
  pub only_part : length tokens ≤ n → cut test (map (plain_of text) tokens) ≡ whole (map (plain_of text) tokens)
  only_part h = cut_none test (map (plain_of text) tokens) (omega (arith, length_plain text tokens, first_place))

  -- the first part
  pub first_part : (d : Token) → n < length tokens
      → cut test (map (plain_of text) tokens) ≡ behind (map (plain_of text) (take n tokens)) (plain_of text (get_or tokens n d)) (cut test (map (plain_of text) (drop (n + 1) tokens)))
  first_part d h =
      cut_first test (map (plain_of text) tokens) n (plain_of text d) first_place (omega (arith, length_plain text tokens))
      ∙ ap (λ part. behind part (get_or (map (plain_of text) tokens) n (plain_of text d)) (cut test (drop (n + 1) (map (plain_of text) tokens)))) (take_plain text n tokens)
      ∙ ap (λ x. behind (map (plain_of text) (take n tokens)) x (cut test (drop (n + 1) (map (plain_of text) tokens)))) (get_plain text n tokens d)
      ∙ ap (λ ts. behind (map (plain_of text) (take n tokens)) (plain_of text (get_or tokens n d)) (cut test ts)) (drop_plain text (n + 1) tokens)

-- the place of the next token that passes, from a place on, counted from there
abbrev pub ahead : (PlainToken → Bool) → List Token → ℕ → ℕ
ahead test tokens at = position_or_len (λ token. test (plain_of [] token)) (take (length tokens - at) (drop at tokens))

module _ (test : PlainToken → Bool) (blind : IsBlind test) (text : List ℕ) (tokens : List Token) (at n : ℕ) (within : at ≤ length tokens) (is : n ≡ ahead test tokens at) where
  place_is : n ≡ position_or_len test (map (plain_of text) (drop at tokens))
  place_is = is ∙ ap (position_or_len (λ token. test (plain_of [] token))) (take_rest tokens at) ∙ sym (same_place test text (drop at tokens) blind)

  part_is : take n (map (plain_of text) (drop at tokens)) ≡ map (plain_of text) (take (at + n - at) (drop at tokens))
  part_is = let e : n ≡ at + n - at = omega arith in take_plain text n (drop at tokens) ∙ ap (λ k. map (plain_of text) (take k (drop at tokens))) e

  -- the last part
  pub last_part : length tokens ≤ at + n → cut test (map (plain_of text) (drop at tokens)) ≡ whole (map (plain_of text) (take (at + n - at) (drop at tokens)))
  last_part h =
      let size : length (map (plain_of text) (drop at tokens)) ≡ length tokens - at = length_plain text (drop at tokens) ∙ length-drop at tokens in
      let all : length (drop at tokens) ≤ at + n - at = omega (arith, length-drop at tokens) in
      cut_none test (map (plain_of text) (drop at tokens)) (omega (arith, size, place_is)) ∙ ap (λ ts. whole (map (plain_of text) ts)) (sym (take_all (at + n - at) (drop at tokens) all))

  -- a part with more behind it
  pub inner_part : (d : Token) → at + n < length tokens
      → cut test (map (plain_of text) (drop at tokens)) ≡ behind (map (plain_of text) (take (at + n - at) (drop at tokens))) (plain_of text (get_or tokens (at + n) d)) (cut test (map (plain_of text) (drop (at + n + 1) tokens)))
  inner_part d h =
      let size : length (map (plain_of text) (drop at tokens)) ≡ length tokens - at = length_plain text (drop at tokens) ∙ length-drop at tokens in
      let found : get_or (map (plain_of text) (drop at tokens)) n (plain_of text d) ≡ plain_of text (get_or tokens (at + n) d) = get_plain text n (drop at tokens) d ∙ ap (plain_of text) (get_or-drop at tokens n d) in
      let rest : drop (n + 1) (map (plain_of text) (drop at tokens)) ≡ map (plain_of text) (drop (at + n + 1) tokens) = drop_plain text (n + 1) (drop at tokens) ∙ ap (map (plain_of text)) (drop_twice at n tokens) in
      cut_first test (map (plain_of text) (drop at tokens)) n (plain_of text d) place_is (omega (arith, size))
      ∙ ap (λ part. behind part (get_or (map (plain_of text) (drop at tokens)) n (plain_of text d)) (cut test (drop (n + 1) (map (plain_of text) (drop at tokens))))) part_is
      ∙ ap (λ x. behind (map (plain_of text) (take (at + n - at) (drop at tokens))) x (cut test (drop (n + 1) (map (plain_of text) (drop at tokens))))) found
      ∙ ap (λ ts. behind (map (plain_of text) (take (at + n - at) (drop at tokens))) (plain_of text (get_or tokens (at + n) d)) (cut test ts)) rest
