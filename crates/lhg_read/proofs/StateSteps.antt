-- A state is read part by part: the word, the location, the point.
use Rattle.std.proofs.Common.{◌≡◌, ◌<◌, ◌≤◌, ◌-◌, ℕ, List, [], ◌∷◌, length, take, drop, map, refl, sym, ap, ◌∙◌, true, false, Option, Some, None, arith, get_or}
use Rattle.std.specs.List.{position}
use Rattle.std.specs.Option.{option_and_then}
use Rattle.std.specs.Str.{bytes_eq}
use Rattle.std.proofs.lemmas.List.{take_rest}
use Rattle.lhg_math.specs.Tests.{by_bool}
use Rattle.lhg_row.specs.Row.{PlainPoint}
use Rattle.lhg_lex.specs.PlainToken.{PlainToken}
use Rattle.lhg_lex.specs.TextTokens.{plain_of}
use Rattle.lhg_lex.specs.declared.tokens.Token.{Token}
use Rattle.lhg_plant.specs.Plant.{PlainPlant}
use Rattle.lhg_plant.specs.Views.{plain_location}
use Rattle.lhg_plant.specs.declared.plants.Location.{Location}
use Rattle.lhg_read.specs.Names.{name_of}
use Rattle.lhg_read.specs.PlantSteps.{loc_names}
use Rattle.lhg_read.specs.PointText.{point_of}
use Rattle.lhg_read.specs.Signs.{is_word}
use Rattle.lhg_read.specs.StateText.{location_in, state_of, state_by}
use Rattle.lhg_read.specs.Term.{place_of}
use Rattle.lhg_read.proofs.DraftSteps.{place_locs}

-- a location that is found among those of the plant
pub location_is : (p : PlainPlant) (token : PlainToken) (name : List ℕ) (locs : List Location) (place : Option ℕ) → name_of token ≡ Some name → map plain_location locs ≡ p.locs → place ≡ position (λ l. bytes_eq l.name name) locs → location_in p token ≡ place
location_is p token name locs place e f g = ap (option_and_then (λ w. place_of w (loc_names p.locs))) e ∙ ap (λ ls. place_of name (loc_names ls)) (sym f) ∙ sym (place_locs name locs) ∙ sym g

-- no location
pub no_location : (p : PlainPlant) (name : PlainToken) (point : List PlainToken) → location_in p name ≡ None → state_of p (name ∷ point) ≡ None
no_location p name point e = rw e refl

-- a location and a point
pub state_is : (p : PlainPlant) (name : PlainToken) (point : List PlainToken) (loc : ℕ) (at : PlainPoint) → location_in p name ≡ Some loc → point_of p.vars point ≡ Some at → state_of p (name ∷ point) ≡ Some (record { loc = loc; at = at })
state_is p name point loc at e f = rw (e, f) refl

-- ---- the line

module _ (w : List ℕ) (p : PlainPlant) (text : List ℕ) where
  -- less than two tokens
  pub too_short : (tokens : List Token) → length tokens < 2 → state_by w p (map (plain_of text) tokens) ≡ None
  unfolding state_by
  too_short [] h = refl
  too_short (a ∷ []) h = by_bool (is_word w (plain_of text a)) (λ t. rw t refl) (λ t. rw t refl)
  too_short (a ∷ b ∷ tokens) h = absurd (omega arith)

  -- another word
  pub other_word : (tokens : List Token) (first : Token) → 2 ≤ length tokens → first ≡ get_or tokens 0 first → is_word w (plain_of text first) ≡ false → state_by w p (map (plain_of text) tokens) ≡ None
  unfolding state_by
  other_word [] first h d f = absurd (omega arith)
  other_word (a ∷ tokens) first h d f = let g : is_word w (plain_of text a) ≡ false = ap (λ x. is_word w (plain_of text x)) (sym d) ∙ f in rw g refl

  -- the word, and then a location and a point
  pub after_word : (tokens : List Token) (first name : Token) → 2 ≤ length tokens → first ≡ get_or tokens 0 first → name ≡ get_or tokens 1 name → is_word w (plain_of text first) ≡ true
      → state_by w p (map (plain_of text) tokens) ≡ state_of p (plain_of text name ∷ map (plain_of text) (take (length tokens - 2) (drop 2 tokens)))
  unfolding state_by
  after_word [] first name h d e f = absurd (omega arith)
  after_word (a ∷ []) first name h d e f = absurd (omega arith)
  after_word (a ∷ b ∷ tokens) first name h d e f =
      let g : is_word w (plain_of text a) ≡ true = ap (λ x. is_word w (plain_of text x)) (sym d) ∙ f in
      rw g (ap (λ x. state_of p (plain_of text x ∷ map (plain_of text) tokens)) (sym e) ∙ ap (λ ts. state_of p (plain_of text name ∷ map (plain_of text) ts)) (sym (take_rest (a ∷ b ∷ tokens) 2)))
