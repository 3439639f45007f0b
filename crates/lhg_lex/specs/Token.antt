-- Which bytes are a token, and what does it say?
use Rattle.std.specs.Prelude.{ℕ, List, [], ◌∷◌, Bool, false, ◌&&◌, ◌||◌, ◌==◌, if◌then◌else◌, codes, Result, Ok, Err}
use Rattle.std.specs.List.{list_any}
use Rattle.lhg_math.specs.Number.{Number}
use Rattle.lhg_lex.specs.Word.{is_word}
use Rattle.lhg_lex.specs.Literal.{is_number, number_of}
use Rattle.lhg_lex.specs.PlainToken.{PlainToken, word, number, sign, two_signs}
use Rattle.lhg_lex.specs.declared.stops.What.{What}
use Rattle.lhg_lex.specs.declared.stops.What.TheVariants.{BadByte}

-- one of the signs `< = > + - * , & '`
abbrev pub is_sign_byte : ℕ → Bool
is_sign_byte b = list_any (λ s. b == s) (codes "<=>+-*,&'")

-- `<=`, `>=` or `==`
abbrev pub is_pair : ℕ → ℕ → Bool
is_pair b c = list_any (λ s. b == s) (codes "<>=") && (c == 61)

-- one sign, or two
abbrev pub is_signs : List ℕ → Bool
is_signs [] = false
is_signs (b ∷ []) = is_sign_byte b
is_signs (b ∷ c ∷ []) = is_pair b c
is_signs (b ∷ c ∷ d ∷ bs) = false

-- a word, a number, a sign or two signs
abbrev pub is_token : List ℕ → Bool
is_token w = is_word w || (is_number w || is_signs w)

-- what a number says, or its error
abbrev pub number_said : Result Number What → Result PlainToken What
number_said (Ok q) = Ok (number q)
number_said (Err what) = Err what

-- what one sign or two say; other bytes begin no token
abbrev pub signs_said : List ℕ → Result PlainToken What
signs_said [] = Err BadByte
signs_said (b ∷ []) = if is_sign_byte b then Ok (sign b) else Err BadByte
signs_said (b ∷ c ∷ []) = if is_pair b c then Ok (two_signs b c) else Err BadByte
signs_said (b ∷ c ∷ d ∷ bs) = Err BadByte

-- what a token says, or its error; bytes that are no token begin with a bad byte
abbrev pub said : List ℕ → Result PlainToken What
said w = if is_word w then Ok (word w) else (if is_number w then number_said (number_of w) else signs_said w)
