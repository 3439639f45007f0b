-- A line of a controller is taken by its first token.
use Rattle.std.proofs.Common.{◌≡◌, ◌<◌, ◌≤◌, ◌-◌, ℕ, List, [], ◌∷◌, length, take, drop, map, refl, sym, ap, ◌∙◌, true, false, cond, None, arith, get_or, codes}
use Rattle.std.specs.Option.{option_and_then}
use Rattle.std.proofs.lemmas.List.{take_rest}
use Rattle.lhg_lex.specs.TextTokens.{plain_of}
use Rattle.lhg_lex.specs.declared.tokens.Token.{Token}
use Rattle.lhg_plant.specs.Plant.{PlainPlant}
use Rattle.lhg_read.specs.Signs.{is_word}
use Rattle.lhg_ctl.specs.ControllerLine.{controller_by, controller_line, rounds_line}
use Rattle.lhg_ctl.specs.ControllerSteps.{PlainOpen, step, taken}
use Rattle.lhg_read.specs.Numbered.{sizes_of}

-- no token is no line
pub no_tokens : (p : PlainPlant) (o : PlainOpen) (text : List ℕ) (tokens : List Token) → length tokens < 1 → taken p o (map (plain_of text) tokens) (sizes_of tokens) ≡ None
unfolding controller_line
no_tokens p o text [] h = refl
no_tokens p o text (t ∷ tokens) h = absurd (omega arith)

-- a first token that is `rounds`
pub by_rounds : (p : PlainPlant) (o : PlainOpen) (text : List ℕ) (tokens : List Token) (t : Token) → 1 ≤ length tokens → t ≡ get_or tokens 0 t → is_word (codes "rounds") (plain_of text t) ≡ true
    → taken p o (map (plain_of text) tokens) (sizes_of tokens) ≡ option_and_then (step o) (rounds_line (map (plain_of text) tokens) (sizes_of tokens))
unfolding controller_line
by_rounds p o text [] t h e w = absurd (omega arith)
by_rounds p o text (x ∷ tokens) t h e w =
    let here : is_word (codes "rounds") (plain_of text x) ≡ true = ap (λ y. is_word (codes "rounds") (plain_of text y)) (sym e) ∙ w in
    ap (λ b. option_and_then (step o) (cond b (rounds_line (map (plain_of text) (x ∷ tokens)) (sizes_of (x ∷ tokens))) (controller_by o.version p (plain_of text x) (map (plain_of text) tokens)))) here

-- another first token, and the further ones
pub by_first : (p : PlainPlant) (o : PlainOpen) (text : List ℕ) (tokens : List Token) (t : Token) → 1 ≤ length tokens → t ≡ get_or tokens 0 t → is_word (codes "rounds") (plain_of text t) ≡ false
    → taken p o (map (plain_of text) tokens) (sizes_of tokens) ≡ option_and_then (step o) (controller_by o.version p (plain_of text t) (map (plain_of text) (take (length tokens - 1) (drop 1 tokens))))
unfolding controller_line
by_first p o text [] t h e w = absurd (omega arith)
by_first p o text (x ∷ tokens) t h e w =
    let here : is_word (codes "rounds") (plain_of text x) ≡ false = ap (λ y. is_word (codes "rounds") (plain_of text y)) (sym e) ∙ w in
    ap (λ b. option_and_then (step o) (cond b (rounds_line (map (plain_of text) (x ∷ tokens)) (sizes_of (x ∷ tokens))) (controller_by o.version p (plain_of text x) (map (plain_of text) tokens)))) here
    ∙ ap (λ y. option_and_then (step o) (controller_by o.version p (plain_of text y) (map (plain_of text) tokens))) (sym e)
    ∙ ap (λ ts. option_and_then (step o) (controller_by o.version p (plain_of text t) (map (plain_of text) ts))) (sym (take_rest (x ∷ tokens) 1))
