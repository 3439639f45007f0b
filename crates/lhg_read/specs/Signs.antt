-- Which signs separate the parts of a line's rows?
use Rattle.std.specs.Prelude.{ℕ, Bool, false, ◌||◌, ◌&&◌, ◌==◌, if◌then◌else◌, List, [], ◌∷◌, Option, Some, None, is_some}
use Rattle.std.specs.Str.{bytes_eq}
use Rattle.lhg_lex.specs.PlainToken.{PlainToken, word, sign, two_signs}
use Rattle.lhg_read.specs.declared.operators.Operator.{Operator}
use Rattle.lhg_read.specs.declared.operators.Operator.TheVariants.{Less, AtMost, Equal, AtLeast, Greater}

-- the token is this one sign
abbrev pub is_sign : ℕ → PlainToken → Bool
is_sign b (sign c) = c == b
is_sign b token = false

-- the token is this word
abbrev pub is_word : List ℕ → PlainToken → Bool
is_word w (word v) = bytes_eq v w
is_word w token = false

-- the tokens are this one word
abbrev pub is_one_word : List ℕ → List PlainToken → Bool
is_one_word w (token ∷ []) = is_word w token
is_one_word w tokens = false

-- `,`, for which `&` may stand
abbrev pub is_comma : PlainToken → Bool
is_comma token = is_sign 44 token || is_sign 38 token

-- `-`
abbrev pub is_minus : PlainToken → Bool
is_minus token = is_sign 45 token

-- `+` or `-`
abbrev pub is_plus_or_minus : PlainToken → Bool
is_plus_or_minus token = is_sign 43 token || is_minus token

-- the operator that one sign is: `<`, `=` or `>`
abbrev pub operator_by_sign : ℕ → Option Operator
operator_by_sign b = if b == 60 then Some Less else (if b == 61 then Some Equal else (if b == 62 then Some Greater else None))

-- the operator that two signs are: `<=`, `==` or `>=`
abbrev pub operator_by_pair : ℕ → ℕ → Option Operator
operator_by_pair b c = if b == 60 && c == 61 then Some AtMost else (if b == 61 && c == 61 then Some Equal else (if b == 62 && c == 61 then Some AtLeast else None))

-- `<`, `<=`, `=`, `>=` or `>`; `==` stands for `=`
abbrev pub operator_of : PlainToken → Option Operator
operator_of (sign b) = operator_by_sign b
operator_of (two_signs b c) = operator_by_pair b c
operator_of token = None

-- the token is an operator
abbrev pub is_operator : PlainToken → Bool
is_operator token = is_some (operator_of token)
