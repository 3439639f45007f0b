-- A text of a grammar that speaks of tokens has one value, and behind it stand only blank lines.
use Rattle.std.proofs.Common.{◌≡◌, ℕ, List, [], ◌∷◌, ◌++◌, refl, sym, ap, ◌∙◌, subst, Option, Some, None, Result, Ok, Err, append-nil}
use Rattle.std.proofs.lemmas.Option.{same_Some}
use Rattle.lhg_lex.specs.LineTokens.{Spot, Fault, tokens_of}
use Rattle.lhg_lex.proofs.FirstBadProofs.{none_bad, one_bad}
use Rattle.lhg_read.specs.Options.{joined}
use Rattle.lhg_read.specs.Rest.{AreBlank}
use Rattle.lhg_read.specs.TextLaws.{HasOneReading, HasBlankEnd}
use Rattle.lhg_read.specs.TokenLineLaws.{token_lines-append, blank_lines, parts_of}
use Rattle.lhg_read.specs.TokenText.{token_line, token_lines, IsTextBy}

-- the tokens of lines are one list
same_tokens : (Is Was : List (List Spot) → Type 0) (lines : List (List ℕ)) (t : IsTextBy Is lines) (u : IsTextBy Was lines) → t.tokens ≡ u.tokens
same_tokens Is Was lines t u = same_Some t.tokens u.tokens (sym t.are ∙ u.are)

by_line : (line : List ℕ) (lines : List (List ℕ)) (r : Result (List Spot) Fault) (o : Option (List (List Spot))) → tokens_of line ≡ r → (o ≡ Some [] → AreBlank lines) → joined (token_line r) o ≡ Some [] → AreBlank (line ∷ lines)
by_line line lines (Ok []) None p f e = absurd cc
by_line line lines (Ok []) (Some []) p f e = (record { none = p }, f refl)
by_line line lines (Ok []) (Some (x ∷ xs)) p f e = absurd cc
by_line line lines (Ok (spot ∷ spots)) None p f e = absurd cc
by_line line lines (Ok (spot ∷ spots)) (Some xs) p f e = absurd cc
by_line line lines (Err fault) o p f e = absurd cc

-- lines without tokens are blank
blank_of : (lines : List (List ℕ)) → token_lines lines ≡ Some [] → AreBlank lines
blank_of [] e = tt
blank_of (line ∷ lines) e = by_line line lines (tokens_of line) (token_lines lines) refl (blank_of lines) e

module _ {V : Type 0} (Tokens : List (List Spot) → V → Type 0) where
  abbrev Is : List (List ℕ) → V → Type 0
  Is lines v = IsTextBy (λ tokens. Tokens tokens v) lines

  -- where tokens have one value, a text has one
  pub one_reading : ((tokens : List (List Spot)) (v w : V) → Tokens tokens v → Tokens tokens w → v ≡ w) → HasOneReading (λ lines v. IsTextBy (λ tokens. Tokens tokens v) lines) (IsTextBy (λ tokens. (v : V) × Tokens tokens v))
  one_reading one = record {
    one_value = λ lines v w t u. one u.tokens v w (subst (λ ts. Tokens ts v) (same_tokens (λ ts. Tokens ts v) (λ ts. Tokens ts w) lines t u) t.is) u.is;
    no_bad_line = none_bad (IsTextBy (λ tokens. (v : V) × Tokens tokens v));
    one_bad_line = one_bad (IsTextBy (λ tokens. (v : V) × Tokens tokens v));
  }

  goes_on : (lines more : List (List ℕ)) (v : V) → Is lines v → AreBlank more → Is (lines ++ more) v
  goes_on lines more v h b = record {
    tokens = h.tokens;
    are = token_lines-append lines more ∙ ap (λ o. joined o (token_lines more)) h.are ∙ ap (joined (Some h.tokens)) (blank_lines more b) ∙ ap (λ ts. Some ts) (append-nil h.tokens);
    is = h.is;
  }

  module _ (none : (tokens more : List (List Spot)) (v w : V) → Tokens tokens v → Tokens (tokens ++ more) w → more ≡ []) where
    ends : (lines more : List (List ℕ)) (v w : V) → Is lines v → Is (lines ++ more) w → AreBlank more
    ends lines more v w h k =
        let parts = parts_of lines more k.tokens k.are in
        let first : parts.first ≡ h.tokens = same_Some parts.first h.tokens (sym parts.first_are ∙ h.are) in
        let whole : k.tokens ≡ h.tokens ++ parts.second = parts.whole ∙ ap (λ ts. ts ++ parts.second) first in
        blank_of more (parts.second_are ∙ ap (λ ts. Some ts) (none h.tokens parts.second v w h.is (subst (λ ts. Tokens ts w) whole k.is)))

    -- where no further tokens can follow, only blank lines can
    pub blank_end : HasBlankEnd (λ lines v. IsTextBy (λ tokens. Tokens tokens v) lines)
    blank_end = record { goes_on = goes_on; ends = ends }
