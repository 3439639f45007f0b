-- Which tokens are a point?
use Rattle.std.specs.Prelude.{ℕ, Bool, false, ◌&&◌, ◌==◌, if◌then◌else◌, List, [], ◌∷◌, Option, Some, None}
use Rattle.std.specs.Option.{option_map}
use Rattle.lhg_math.specs.Number.{Number, neg}
use Rattle.lhg_row.specs.Row.{PlainPoint}
use Rattle.lhg_lex.specs.PlainToken.{PlainToken, number, sign, two_signs}
use Rattle.lhg_read.specs.Cut.{cut, parts_of}
use Rattle.lhg_read.specs.Options.{consed}
use Rattle.lhg_read.specs.Signs.{is_word, is_comma, is_minus}

-- `=`, for which `==` may stand
abbrev pub is_equals : PlainToken → Bool
is_equals (sign b) = b == 61
is_equals (two_signs b c) = b == 61 && c == 61
is_equals token = false

-- the value of a number
abbrev pub number_in : PlainToken → Option Number
number_in (number q) = Some q
number_in token = None

-- a number, behind a minus or not
abbrev pub signed_number : List PlainToken → Option Number
signed_number [] = None
signed_number (token ∷ []) = number_in token
signed_number (minus ∷ token ∷ []) = if is_minus minus then option_map neg (number_in token) else None
signed_number (a ∷ b ∷ c ∷ tokens) = None

-- `NAME = NUMBER`, where the name is this one
abbrev pub coordinate_of : List ℕ → List PlainToken → Option Number
coordinate_of name [] = None
coordinate_of name (token ∷ []) = None
coordinate_of name (first ∷ second ∷ tokens) = if is_word name first && is_equals second then signed_number tokens else None

-- for each name, in order, one part
abbrev pub coordinates_of : List (List ℕ) → List (List PlainToken) → Option PlainPoint
coordinates_of [] [] = Some []
coordinates_of [] (part ∷ parts) = None
coordinates_of (name ∷ names) [] = None
coordinates_of (name ∷ names) (part ∷ parts) = consed (coordinate_of name part) (coordinates_of names parts)

-- a point: `NAME = NUMBER` for each variable in order, separated by `,`
unfoldable pub point_of : List (List ℕ) → List PlainToken → Option PlainPoint
point_of vars tokens = coordinates_of vars (parts_of (cut is_comma tokens))
