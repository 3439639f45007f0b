-- The lines of a printed text are found again, and their tokens with them.
use Rattle.std.proofs.Common.{◌≡◌, ℕ, List, [], ◌∷◌, ◌++◌, refl, ap, ◌∙◌, true, false, ◌==◌, Some, Ok, arith, append_assoc}
use Rattle.std.specs.List.{list_all, list_any, flat_map}
use Rattle.std.proofs.lemmas.Bool.{and_parts}
use Rattle.std.proofs.lemmas.Bool.Decides.{nat_tests}
use Rattle.lhg_math.specs.Tests.{AllOf}
use Rattle.lhg_lex.specs.Lines.{lines_of}
use Rattle.lhg_lex.specs.LineTokens.{Spot, tokens_of}
use Rattle.lhg_lex.specs.PlainToken.{PlainToken}
use Rattle.lhg_lex.proofs.TextLawProofs.{text_laws}
use Rattle.lhg_read.specs.PlantText.{said_in}
use Rattle.lhg_read.specs.TokenText.{token_line, token_lines}
use Rattle.lhg_row_text.specs.PrintedLine.{line}
use Rattle.lhg_row_text.proofs.LineText.{is_inner, Says, line_says}

-- ---- the lines of the text

-- a line of inner bytes alone
pub record IsInner (bytes : List ℕ) : Type 0 where
  pub inner : list_all is_inner bytes ≡ true

no_feed : (bytes : List ℕ) → list_all is_inner bytes ≡ true → list_any (λ b. b == 10) bytes ≡ false
no_feed [] h = refl
no_feed (b ∷ bytes) h =
    let p = and_parts (is_inner b) (list_all is_inner bytes) h in
    let e : (b == 10) ≡ false = grind (arith, nat_tests) in
    rw e (no_feed bytes p.1)

-- the lines of a text whose lines are these
pub lines_back : (lines : List (List ℕ)) → AllOf IsInner lines → lines_of (flat_map line lines) ≡ lines
lines_back [] h = refl
lines_back (l ∷ lines) h =
    ap lines_of (append_assoc l (10 ∷ []) (flat_map line lines)) ∙ text_laws.fed l (flat_map line lines) (no_feed l h.0.inner) ∙ ap (λ ls. l ∷ ls) (lines_back lines h.1)

-- ---- the tokens of the lines

spots_some : (spots : List Spot) (first : PlainToken) (others : List PlainToken) → said_in spots ≡ first ∷ others → token_line (Ok spots) ≡ Some (spots ∷ [])
spots_some [] first others h = absurd cc
spots_some (spot ∷ spots) first others h = refl

-- one line more
pub token_lines-cons : (l : List ℕ) (lines : List (List ℕ)) (first : PlainToken) (others : List PlainToken) (more : List (List Spot)) (s : Says l (first ∷ others)) → token_lines lines ≡ Some more → token_lines (l ∷ lines) ≡ Some (s.spots 0 ∷ more)
token_lines-cons l lines first others more s h =
    let e : token_line (tokens_of l) ≡ Some (s.spots 0 ∷ []) = ap token_line (line_says s) ∙ spots_some (s.spots 0) first others (s.says 0) in
    rw (e, h) refl
