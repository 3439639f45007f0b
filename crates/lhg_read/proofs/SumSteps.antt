-- The terms of a sum are put one after another.
use Rattle.std.proofs.Common.{◌≡◌, ◌<◌, ◌≤◌, ◌+◌, ◌-◌, inl, inr, ℕ, get_or, take, arith, List, [], ◌∷◌, length, drop, map, refl, sym, ap, ◌∙◌, Bool, true, false, Option, Some, None}
use Rattle.std.specs.Option.{option_and_then, option_map}
use Rattle.std.proofs.lemmas.Bool.{cases_lt}
use Rattle.lhg_lex.specs.PlainToken.{PlainToken}
use Rattle.lhg_lex.specs.TextTokens.{plain_of}
use Rattle.lhg_lex.specs.declared.tokens.Token.{Token}
use Rattle.lhg_lex.specs.declared.tokens.Tok.TheVariants as tok
use Rattle.lhg_read.specs.Cut.{Cut, cut}
use Rattle.lhg_read.specs.Options.{consed}
use Rattle.lhg_read.specs.Signs.{is_minus, is_plus_or_minus}
use Rattle.lhg_read.specs.Term.{term_of}
use Rattle.lhg_read.specs.Sum.{signed, terms_from, begins_with_minus, sum_of}
use Rattle.lhg_read.specs.Collect.{Collected, with_term, with_terms, with_turned}
use Rattle.lhg_read.specs.declared.forms.Form.{Form}
use Rattle.lhg_read.specs.declared.terms.Term.{Term}
use Rattle.lhg_read.proofs.Cuts.{IsBlind, without_text, whole, behind, ahead, last_part, inner_part}

-- signs are told without the text
signs_blind : IsBlind is_plus_or_minus
signs_blind v w = refl

pub minus_blind : IsBlind is_minus
minus_blind v w = refl

begins_blind : (text : List ℕ) (tokens : List Token) → begins_with_minus (map (plain_of text) tokens) ≡ begins_with_minus (map (plain_of []) tokens)
begins_blind text [] = refl
begins_blind text (token ∷ tokens) = without_text is_minus minus_blind text token

-- a term is put, where it is one
abbrev pub term_put : Bool → Collected → Bool → Option Term → Option Collected
term_put turned c minus term = option_and_then (λ t. with_term c (signed turned (signed minus t))) term

no_more : (turned : Bool) (c : Collected) (minus : Bool) (term : Option Term) → with_turned turned c (consed (option_map (signed minus) term) (Some [])) ≡ term_put turned c minus term
no_more turned c minus None = refl
no_more turned c minus (Some t) = one (with_term c (signed turned (signed minus t)))
  where
    one : (o : Option Collected) → option_and_then (λ d. with_terms d []) o ≡ o
    one None = refl
    one (Some d) = refl

more : (turned : Bool) (c : Collected) (minus : Bool) (term : Option Term) (rest : Option (List Term))
    → with_turned turned c (consed (option_map (signed minus) term) rest) ≡ option_and_then (λ d. with_turned turned d rest) (term_put turned c minus term)
more turned c minus None rest = refl
more turned c minus (Some t) (Some ts) = refl
more turned c minus (Some t) None = none (with_term c (signed turned (signed minus t)))
  where
    none : (o : Option Collected) → None ≡ option_and_then (λ d. with_turned turned d None) o
    none None = refl
    none (Some d) = refl

-- the last term
pub last_term : (form : Form) (vars : List (List ℕ)) (turned : Bool) (c : Collected) (minus : Bool) (part : List PlainToken)
    → with_turned turned c (terms_from form vars minus (whole part)) ≡ term_put turned c minus (term_of form vars part)
last_term form vars turned c minus part = no_more turned c minus (term_of form vars part)

-- a term with more behind it
pub inner_term : (form : Form) (vars : List (List ℕ)) (turned : Bool) (c : Collected) (minus : Bool) (part : List PlainToken) (mark : PlainToken) (k : Cut PlainToken)
    → with_turned turned c (terms_from form vars minus (behind part mark k)) ≡ option_and_then (λ d. with_turned turned d (terms_from form vars (is_minus mark) k)) (term_put turned c minus (term_of form vars part))
inner_term form vars turned c minus part mark k = more turned c minus (term_of form vars part) (terms_from form vars (is_minus mark) k)

-- ---- the turns of the loop over the terms

unfoldable pub a_token : Token
a_token = record { kind = tok.Word; from = 0; to = 0 }

module _ (form : Form) (vars : List (List ℕ)) (text : List ℕ) (tokens : List Token) (at n : ℕ) (within : at ≤ length tokens) (is : n ≡ ahead is_plus_or_minus tokens at) (turned : Bool) (c : Collected) (minus : Bool) where
  -- what stands up to the next sign
  abbrev pub here : List PlainToken
  here = map (plain_of text) (take (at + n - at) (drop at tokens))

  -- the value that is left
  abbrev pub now : Option Collected
  now = with_turned turned c (terms_from form vars minus (cut is_plus_or_minus (map (plain_of text) (drop at tokens))))

  -- the last term
  pub finished : length tokens ≤ at + n → now ≡ term_put turned c minus (term_of form vars here)
  finished h = ap (λ k. with_turned turned c (terms_from form vars minus k)) (last_part is_plus_or_minus signs_blind text tokens at n within is h) ∙ last_term form vars turned c minus here

  -- a term with more behind it
  pub goes_on : (mark : Token) → at + n < length tokens → mark ≡ get_or tokens (at + n) mark
      → now ≡ option_and_then (λ d. with_turned turned d (terms_from form vars (is_minus (plain_of [] mark)) (cut is_plus_or_minus (map (plain_of text) (drop (at + n + 1) tokens))))) (term_put turned c minus (term_of form vars here))
  goes_on mark h e =
      let rest = cut is_plus_or_minus (map (plain_of text) (drop (at + n + 1) tokens)) in
      ap (λ k. with_turned turned c (terms_from form vars minus k)) (inner_part is_plus_or_minus signs_blind text tokens at n within is mark h)
      ∙ inner_term form vars turned c minus here (plain_of text (get_or tokens (at + n) mark)) rest
      ∙ ap (λ b. option_and_then (λ d. with_turned turned d (terms_from form vars b rest)) (term_put turned c minus (term_of form vars here))) (ap (λ t. is_minus (plain_of text t)) (sym e) ∙ without_text is_minus minus_blind text mark)

  -- where the term cannot be put, there is no value
  pub refused : term_put turned c minus (term_of form vars here) ≡ None → now ≡ None
  refused h = elim (cases_lt (at + n) (length tokens)) [
    | inl lt ↦
        ap (λ k. with_turned turned c (terms_from form vars minus k)) (inner_part is_plus_or_minus signs_blind text tokens at n within is a_token lt)
        ∙ inner_term form vars turned c minus here (plain_of text (get_or tokens (at + n) a_token)) (cut is_plus_or_minus (map (plain_of text) (drop (at + n + 1) tokens)))
        ∙ ap (option_and_then (λ d. with_turned turned d (terms_from form vars (is_minus (plain_of text (get_or tokens (at + n) a_token))) (cut is_plus_or_minus (map (plain_of text) (drop (at + n + 1) tokens)))))) h
    | inr past ↦ finished past ∙ h
  ]

-- ---- the first turn

drop_one : (text : List ℕ) (tokens : List Token) → drop 1 (map (plain_of text) tokens) ≡ map (plain_of text) (drop 1 tokens)
drop_one text [] = refl
drop_one text (token ∷ tokens) = refl

-- behind a minus the terms begin at the second token
pub starts_minus : (form : Form) (vars : List (List ℕ)) (text : List ℕ) (tokens : List Token) (turned : Bool) (c : Collected) → begins_with_minus (map (plain_of []) tokens) ≡ true
    → with_turned turned c (sum_of form vars (map (plain_of text) tokens)) ≡ with_turned turned c (terms_from form vars true (cut is_plus_or_minus (map (plain_of text) (drop 1 tokens))))
unfolding sum_of
starts_minus form vars text tokens turned c e =
    let b : begins_with_minus (map (plain_of text) tokens) ≡ true = begins_blind text tokens ∙ e in
    rw b (ap (λ ts. with_turned turned c (terms_from form vars true (cut is_plus_or_minus ts))) (drop_one text tokens))

-- else at the first
pub starts_plain : (form : Form) (vars : List (List ℕ)) (text : List ℕ) (tokens : List Token) (turned : Bool) (c : Collected) → begins_with_minus (map (plain_of []) tokens) ≡ false
    → with_turned turned c (sum_of form vars (map (plain_of text) tokens)) ≡ with_turned turned c (terms_from form vars false (cut is_plus_or_minus (map (plain_of text) tokens)))
unfolding sum_of
starts_plain form vars text tokens turned c e = let b : begins_with_minus (map (plain_of text) tokens) ≡ false = begins_blind text tokens ∙ e in rw b refl

-- a minus is a token
pub some_minus : (tokens : List Token) → begins_with_minus (map (plain_of []) tokens) ≡ true → 1 ≤ length tokens
some_minus [] e = absurd cc
some_minus (token ∷ tokens) e = omega arith

-- what the code puts is the term with its signs
pub put_as : (turned : Bool) (c : Collected) (minus : Bool) (t r s : Term) (o : Option Collected) (term : Option Term) → Some t ≡ term → r ≡ signed minus t → s ≡ signed turned r → with_term c s ≡ o → term_put turned c minus term ≡ o
put_as turned c minus t r s o term e f g h = ap (term_put turned c minus) (sym e) ∙ ap (λ x. with_term c x) (ap (signed turned) (sym f) ∙ sym g) ∙ h
