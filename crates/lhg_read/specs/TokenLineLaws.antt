-- What are the tokens of lines behind other lines, and of their parts?
use Rattle.std.proofs.Common.{◌≡◌, ◌<◌, ℕ, List, [], ◌∷◌, ◌++◌, length, refl, sym, ap, ◌∙◌, Option, Some, None, Result, Ok, arith}
use Rattle.std.specs.List.{AllByRecursion}
use Rattle.std.proofs.lemmas.Option.{none-some, same_Some}
use Rattle.lhg_lex.specs.LineTokens.{Spot, Fault, tokens_of, IsBlankLine}
use Rattle.lhg_read.specs.Options.{joined}
use Rattle.lhg_read.specs.OptionLaws.{joined_assoc, joined_front}
use Rattle.lhg_read.specs.TokenText.{token_line, token_lines}

-- lines behind other lines
pub token_lines-append : (xs ys : List (List ℕ)) → token_lines (xs ++ ys) ≡ joined (token_lines xs) (token_lines ys)
token_lines-append [] ys = sym (joined_front (token_lines ys))
token_lines-append (x ∷ xs) ys = ap (joined (token_line (tokens_of x))) (token_lines-append xs ys) ∙ sym (joined_assoc (token_line (tokens_of x)) (token_lines xs) (token_lines ys))

-- blank lines have no tokens
pub blank_lines : (lines : List (List ℕ)) → AllByRecursion IsBlankLine lines → token_lines lines ≡ Some []
blank_lines [] h = refl
blank_lines (line ∷ lines) h = ap (λ r. joined (token_line r) (token_lines lines)) h.0.none ∙ ap (joined (Some [])) (blank_lines lines h.1)

-- a line with tokens
pub token_line_of : (spots : List Spot) → 0 < length spots → token_line (Ok spots) ≡ Some (spots ∷ [])
token_line_of [] h = absurd (omega arith)
token_line_of (s ∷ spots) h = refl

-- a line with tokens is not blank
pub has_tokens : (line : List ℕ) (spots : List Spot) → tokens_of line ≡ Ok spots → 0 < length spots → ¬ IsBlankLine line
has_tokens line spots e some b = by_spots spots (sym e ∙ b.none) some
  where
    by_spots : (spots : List Spot) → (let a : Result (List Spot) Fault = Ok spots in a ≡ Ok []) → 0 < length spots → ⊥
    by_spots [] f h = absurd (omega arith)
    by_spots (x ∷ xs) f h = absurd cc

-- the parts of lines have the parts of their tokens
pub record Parts (xs ys : List (List ℕ)) (tokens : List (List Spot)) : Type 0 where
  pub first : List (List Spot)
  pub second : List (List Spot)
  pub first_are : token_lines xs ≡ Some first
  pub second_are : token_lines ys ≡ Some second
  pub whole : tokens ≡ first ++ second

pub parts_of : (xs ys : List (List ℕ)) (tokens : List (List Spot)) → token_lines (xs ++ ys) ≡ Some tokens → Parts xs ys tokens
parts_of xs ys tokens e = by_both (token_lines xs) (token_lines ys) refl refl (sym (token_lines-append xs ys) ∙ e)
  where
    by_both : (a b : Option (List (List Spot))) → token_lines xs ≡ a → token_lines ys ≡ b → joined (token_lines xs) (token_lines ys) ≡ Some tokens → Parts xs ys tokens
    by_both None b p q h = absurd (none-some tokens (sym (ap (λ o. joined o (token_lines ys)) p) ∙ h))
    by_both (Some x) None p q h = absurd (none-some tokens (sym (ap (λ o. joined o (token_lines ys)) p ∙ ap (joined (Some x)) q) ∙ h))
    by_both (Some x) (Some y) p q h = record {
      first = x;
      second = y;
      first_are = p;
      second_are = q;
      whole = sym (same_Some (x ++ y) tokens (sym (ap (λ o. joined o (token_lines ys)) p ∙ ap (joined (Some x)) q) ∙ h));
    }
