-- The coordinates of a point are read one after another.
use Rattle.std.proofs.Common.{◌≡◌, ◌<◌, ◌≤◌, ◌+◌, ◌-◌, inl, inr, ℕ, List, [], ◌∷◌, ◌++◌, length, take, drop, map, refl, sym, ap, ◌∙◌, true, false, cond, Option, Some, None, arith, get_or, nat_le, append_assoc}
use Rattle.std.proofs.lemmas.Bool.Decides.{nat_tests}
use Rattle.std.proofs.lemmas.List.{drop_more, drop_all, take_rest}
use Rattle.std.proofs.lemmas.Bool.{cases_lt}
use Rattle.lhg_math.specs.Number.{Number}
use Rattle.lhg_lex.specs.PlainToken.{PlainToken}
use Rattle.lhg_lex.specs.TextTokens.{plain_of}
use Rattle.lhg_lex.specs.declared.tokens.Token.{Token}
use Rattle.lhg_read.specs.Cut.{cut, parts_of}
use Rattle.lhg_read.specs.Options.{consed, joined}
use Rattle.lhg_read.specs.Signs.{is_comma, is_minus, is_word}
use Rattle.lhg_read.specs.PointText.{is_equals, number_in, signed_number, coordinate_of, coordinates_of, point_of}
use Rattle.lhg_read.proofs.Cuts.{without_text, ahead, last_part, inner_part}
use Rattle.lhg_read.proofs.ListSteps.{commas_blind}
use Rattle.lhg_read.proofs.SumSteps.{a_token, minus_blind}

-- ---- the parts between commas

-- the parts of the tokens from a place on; behind the end there is none
abbrev pub parts_from : List ℕ → List Token → ℕ → List (List PlainToken)
parts_from text tokens from = cond (nat_le from (length tokens)) (parts_of (cut is_comma (map (plain_of text) (drop from tokens)))) []

-- the part up to the next comma
abbrev pub part_at : List ℕ → List Token → (from n : ℕ) → List PlainToken
part_at text tokens from n = map (plain_of text) (take (from + n - from) (drop from tokens))

within_end : (text : List ℕ) (tokens : List Token) (from : ℕ) → from ≤ length tokens → parts_from text tokens from ≡ parts_of (cut is_comma (map (plain_of text) (drop from tokens)))
within_end text tokens from h = let e : nat_le from (length tokens) ≡ true = grind (arith, nat_tests, h) in rw e refl

past_end : (text : List ℕ) (tokens : List Token) (from : ℕ) → length tokens < from → parts_from text tokens from ≡ []
past_end text tokens from h = let e : nat_le from (length tokens) ≡ false = grind (arith, nat_tests, h) in rw e refl

-- that part, and then those behind the comma
part_here : (text : List ℕ) (tokens : List Token) (from n : ℕ) → from ≤ length tokens → n ≡ ahead is_comma tokens from → parts_from text tokens from ≡ part_at text tokens from n ∷ parts_from text tokens (from + n + 1)
part_here text tokens from n within is =
    within_end text tokens from within
    ∙ elim (cases_lt (from + n) (length tokens)) [
      | inl more ↦ ap parts_of (inner_part is_comma commas_blind text tokens from n within is a_token more) ∙ ap (λ ps. part_at text tokens from n ∷ ps) (sym (within_end text tokens (from + n + 1) (omega arith)))
      | inr past ↦ ap parts_of (last_part is_comma commas_blind text tokens from n within is past) ∙ ap (λ ps. part_at text tokens from n ∷ ps) (sym (past_end text tokens (from + n + 1) (omega arith)))
    ]

-- ---- the coordinates

one_more : (read : List Number) (q : Number) (o : Option (List Number)) → joined (Some read) (consed (Some q) o) ≡ joined (Some (read ++ q ∷ [])) o
one_more read q None = refl
one_more read q (Some rest) = ap (λ xs. Some xs) (sym (append_assoc read (q ∷ []) rest))

-- what is left to be read
abbrev pub rest_of : List (List ℕ) → List ℕ → List Token → (k from : ℕ) → Option (List Number)
rest_of vars text tokens k from = coordinates_of (drop k vars) (parts_from text tokens from)

-- nothing is read
pub nothing_read : (vars : List (List ℕ)) (text : List ℕ) (tokens : List Token) → point_of vars (map (plain_of text) tokens) ≡ joined (Some []) (rest_of vars text tokens 0 0)
unfolding point_of
nothing_read vars text tokens = before (coordinates_of vars (parts_of (cut is_comma (map (plain_of text) tokens)))) ∙ ap (λ ps. joined (Some []) (coordinates_of vars ps)) (sym (within_end text tokens 0 (omega arith)))
  where
    before : (o : Option (List Number)) → o ≡ joined (Some []) o
    before None = refl
    before (Some xs) = refl

module _ (vars : List (List ℕ)) (text : List ℕ) (tokens : List Token) (k from : ℕ) (name : List ℕ) (below : k < length vars) (named : name ≡ get_or vars k name) where
  names_left : drop k vars ≡ name ∷ drop (k + 1) vars
  names_left = drop_more vars k name below ∙ ap (λ v. v ∷ drop (k + 1) vars) (sym named)

  rest_is : (parts : List (List PlainToken)) → parts_from text tokens from ≡ parts → rest_of vars text tokens k from ≡ coordinates_of (name ∷ drop (k + 1) vars) parts
  rest_is parts e = ap (λ names. coordinates_of names (parts_from text tokens from)) names_left ∙ ap (coordinates_of (name ∷ drop (k + 1) vars)) e

  module _ (all : Option (List Number)) (read : List Number) (left : all ≡ joined (Some read) (rest_of vars text tokens k from)) where
    module _ (n : ℕ) (within : from ≤ length tokens) (is : n ≡ ahead is_comma tokens from) where
      split : all ≡ joined (Some read) (consed (coordinate_of name (part_at text tokens from n)) (rest_of vars text tokens (k + 1) (from + n + 1)))
      split = left ∙ ap (joined (Some read)) (rest_is _ (part_here text tokens from n within is))

      -- its part is no coordinate
      pub no_coordinate : None ≡ coordinate_of name (part_at text tokens from n) → all ≡ None
      no_coordinate e = split ∙ ap (λ o. joined (Some read) (consed o (rest_of vars text tokens (k + 1) (from + n + 1)))) (sym e)

      -- its part is a coordinate
      pub coordinate_read : (q : Number) → Some q ≡ coordinate_of name (part_at text tokens from n) → all ≡ joined (Some (read ++ q ∷ [])) (rest_of vars text tokens (k + 1) (from + n + 1))
      coordinate_read q e = split ∙ ap (λ o. joined (Some read) (consed o (rest_of vars text tokens (k + 1) (from + n + 1)))) (sym e) ∙ one_more read q _

-- ---- tokens that need no text

-- a number behind a minus or not is told without the text
signed_blind : (text : List ℕ) (tokens : List Token) → signed_number (map (plain_of text) tokens) ≡ signed_number (map (plain_of []) tokens)
signed_blind text [] = refl
signed_blind text (a ∷ []) = without_text number_in (λ v w. refl) text a
signed_blind text (a ∷ b ∷ []) = rw (without_text is_minus minus_blind text a, without_text number_in (λ v w. refl) text b) refl
signed_blind text (a ∷ b ∷ c ∷ tokens) = refl

-- tokens that begin with the name and `=` are a coordinate where the others are a number
pub coordinate_by : (name text : List ℕ) (tokens : List Token) (first second : Token) → 2 ≤ length tokens → first ≡ get_or tokens 0 first → second ≡ get_or tokens 1 second → is_word name (plain_of text first) ≡ true → is_equals (plain_of [] second) ≡ true
    → coordinate_of name (map (plain_of text) tokens) ≡ signed_number (map (plain_of []) (take (length tokens - 2) (drop 2 tokens)))
coordinate_by name text [] first second h d e f g = absurd (omega arith)
coordinate_by name text (a ∷ []) first second h d e f g = absurd (omega arith)
coordinate_by name text (a ∷ b ∷ tokens) first second h d e f g =
    let word : is_word name (plain_of text a) ≡ true = ap (λ x. is_word name (plain_of text x)) (sym d) ∙ f in
    let equals : is_equals (plain_of text b) ≡ true = without_text is_equals (λ v w. refl) text b ∙ ap (λ x. is_equals (plain_of [] x)) (sym e) ∙ g in
    rw (word, equals) (signed_blind text tokens ∙ ap (λ ts. signed_number (map (plain_of []) ts)) (sym (take_rest (a ∷ b ∷ tokens) 2)))
