-- Which tokens are a variable, and which are a term?
use Rattle.std.specs.Prelude.{ℕ, ◌+◌, ◌<◌, length, ◌&&◌, not, if◌then◌else◌, List, [], ◌∷◌, Option, Some, None}
use Rattle.std.specs.List.{position}
use Rattle.std.specs.Option.{option_map}
use Rattle.std.specs.Str.{bytes_eq}
use Rattle.lhg_math.specs.Number.{Number, unit}
use Rattle.lhg_math.specs.Signs.{is_nought}
use Rattle.lhg_lex.specs.PlainToken.{PlainToken, word, number}
use Rattle.lhg_read.specs.Signs.{is_sign}
use Rattle.lhg_read.specs.declared.forms.Form.{Form}
use Rattle.lhg_read.specs.declared.forms.Form.TheVariants.{Plain, Flow, Jump}
use Rattle.lhg_read.specs.declared.terms.Term.{Term}
use Rattle.lhg_read.specs.declared.terms.Term.TheVariants.{Times, Alone}

-- how many coefficients have the rows of a line of this form, over these variables; in a switch the new variables have some of their own
abbrev pub width : Form → List (List ℕ) → ℕ
width Plain vars = length vars
width Flow vars = length vars
width Jump vars = length vars + length vars

-- the place of a variable by its name
abbrev pub place_of : List ℕ → List (List ℕ) → Option ℕ
place_of w vars = position (λ name. bytes_eq name w) vars

-- The place of a variable with `'`. In a switch it is the new one, which comes behind all old ones. In a flow line `'` may
-- stand, and elsewhere it cannot.
abbrev pub new_place : Form → List (List ℕ) → Option ℕ → Option ℕ
new_place Plain vars place = None
new_place Flow vars place = place
new_place Jump vars place = option_map (λ i. length vars + i) place

-- a variable: its name, or its name and `'`
abbrev pub variable_of : Form → List (List ℕ) → List PlainToken → Option ℕ
variable_of form vars (word w ∷ []) = place_of w vars
variable_of form vars (word w ∷ prime ∷ []) = if is_sign 39 prime then new_place form vars (place_of w vars) else None
variable_of form vars tokens = None

-- the place of the term's variable is below n
abbrev pub IsBelow : ℕ → Term → Type 0
IsBelow n (Times q i) = i < n
IsBelow n (Alone q) = Unit {0}

-- a factor and a variable
abbrev pub times : Number → Option ℕ → Option Term
times q place = option_map (λ i. Times q i) place

-- a term: a number; or a number that is not zero, `*` and a variable; or a variable
abbrev pub term_of : Form → List (List ℕ) → List PlainToken → Option Term
term_of form vars (number q ∷ []) = Some (Alone q)
term_of form vars (number q ∷ star ∷ tokens) = if is_sign 42 star && not (is_nought q) then times q (variable_of form vars tokens) else None
term_of form vars tokens = times unit (variable_of form vars tokens)
