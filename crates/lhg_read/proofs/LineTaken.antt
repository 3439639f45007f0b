-- A line is taken by its first token.
use Rattle.std.proofs.Common.{◌≡◌, ◌<◌, ◌≤◌, ◌-◌, ℕ, List, [], ◌∷◌, length, take, drop, map, refl, sym, ap, ◌∙◌, None, arith, get_or}
use Rattle.std.specs.Option.{option_and_then}
use Rattle.std.proofs.lemmas.List.{take_rest}
use Rattle.lhg_lex.specs.TextTokens.{plain_of}
use Rattle.lhg_lex.specs.declared.tokens.Token.{Token}
use Rattle.lhg_read.specs.PlantLine.{line_by, line_of}
use Rattle.lhg_read.specs.PlantSteps.{PlainDraft, step, taken}

-- no token is no line
pub no_tokens : (vars : List (List ℕ)) (d : PlainDraft) (text : List ℕ) (tokens : List Token) → length tokens < 1 → taken vars d (map (plain_of text) tokens) ≡ None
unfolding line_of
no_tokens vars d text [] h = refl
no_tokens vars d text (t ∷ tokens) h = absurd (omega arith)

-- some tokens are the first one and the further ones
pub by_first : (vars : List (List ℕ)) (d : PlainDraft) (text : List ℕ) (tokens : List Token) (t : Token) → 1 ≤ length tokens → t ≡ get_or tokens 0 t
    → taken vars d (map (plain_of text) tokens) ≡ option_and_then (step (length vars) d) (line_by vars (plain_of text t) (map (plain_of text) (take (length tokens - 1) (drop 1 tokens))))
unfolding line_of
by_first vars d text [] t h e = absurd (omega arith)
by_first vars d text (x ∷ tokens) t h e =
    ap (λ y. option_and_then (step (length vars) d) (line_by vars (plain_of text y) (map (plain_of text) tokens))) (sym e)
    ∙ ap (λ ts. option_and_then (step (length vars) d) (line_by vars (plain_of text t) (map (plain_of text) ts))) (sym (take_rest (x ∷ tokens) 1))
