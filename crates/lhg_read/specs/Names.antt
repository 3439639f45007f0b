-- Which tokens are names, and which lists of names are variables?
use Rattle.std.specs.Prelude.{ℕ, length, Bool, ◌&&◌, ◌||◌, nat_le, if◌then◌else◌, List, [], ◌∷◌, Option, Some, None, codes}
use Rattle.std.specs.Option.{option_and_then}
use Rattle.std.specs.Str.{bytes_eq}
use Rattle.lhg_lex.specs.PlainToken.{PlainToken, word}
use Rattle.lhg_plant.specs.Differ.{all_differ}
use Rattle.lhg_plant.specs.Limits.{most_name_bytes, most_variables}
use Rattle.lhg_read.specs.Options.{consed}
use Rattle.lhg_read.specs.Signs.{is_word}

-- a name: a word that is not too long
abbrev pub name_of : PlainToken → Option (List ℕ)
name_of (word w) = if nat_le (length w) most_name_bytes then Some w else None
name_of token = None

-- one name and nothing else
abbrev pub one_name : List PlainToken → Option (List ℕ)
one_name (token ∷ []) = name_of token
one_name tokens = None

-- `all`, `still` or `keep`
abbrev pub is_taken : List ℕ → Bool
is_taken w = bytes_eq w (codes "all") || (bytes_eq w (codes "still") || bytes_eq w (codes "keep"))

-- the name of a variable: one that no keyword for rows takes
abbrev pub variable_name : PlainToken → Option (List ℕ)
variable_name token = option_and_then (λ w. if is_taken w then None else Some w) (name_of token)

-- names of variables alone
abbrev pub variable_names : List PlainToken → Option (List (List ℕ))
variable_names [] = Some []
variable_names (token ∷ tokens) = consed (variable_name token) (variable_names tokens)

-- the variables, where there is one or more, not too many, and all different
abbrev pub proper_variables : List (List ℕ) → Option (List (List ℕ))
proper_variables names = if nat_le 1 (length names) && (nat_le (length names) most_variables && all_differ names) then Some names else None

-- the line `vars NAMES`
abbrev pub vars_of : List PlainToken → Option (List (List ℕ))
vars_of [] = None
vars_of (token ∷ tokens) = if is_word (codes "vars") token then option_and_then proper_variables (variable_names tokens) else None
