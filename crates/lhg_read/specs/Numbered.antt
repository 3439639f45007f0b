-- Which tokens are a word and a number in digits without a leading zero?
use Rattle.std.specs.Prelude.{ℕ, ◌-◌, length, not, ◌&&◌, ◌==◌, nat_le, if◌then◌else◌, List, [], ◌∷◌, map, Option, Some, None, decimal}
use Rattle.std.specs.Int.RustNames.{unsigned_abs}
use Rattle.std.specs.Option.{option_and_then}
use Rattle.lhg_math.specs.Number.{lt, nought}
use Rattle.lhg_lex.specs.LineTokens.{Spot}
use Rattle.lhg_lex.specs.PlainToken.{PlainToken, number}
use Rattle.lhg_lex.specs.declared.tokens.Token.{Token}
use Rattle.lhg_read.specs.Signs.{is_word}

-- how many bytes each token of a line has
abbrev pub sizes_in : List Spot → List ℕ
sizes_in line = map (λ spot. spot.to - spot.from) line

-- the same of tokens in a text
abbrev pub sizes_of : List Token → List ℕ
sizes_of tokens = map (λ token. token.to - token.from) tokens

-- the natural number that a token is
abbrev pub natural_in : PlainToken → Option ℕ
natural_in (number q) = if (q.bottom == 1) && not (lt q nought) then Some (unsigned_abs q.top) else None
natural_in token = None

-- the number, where it is small enough and has as many digits as there are bytes, so that it has no leading zero
abbrev pub in_digits : ℕ → ℕ → ℕ → Option ℕ
in_digits most size n = if nat_le n most && (size == length (decimal n)) then Some n else None

-- the number, at most so large, that a token of this size is in digits without a leading zero
abbrev pub counted_in : ℕ → PlainToken → ℕ → Option ℕ
counted_in most token size = option_and_then (in_digits most size) (natural_in token)

-- the number, at most so large, that the tokens of these sizes give: the word, and the number in digits without a leading zero
abbrev pub numbered : List ℕ → ℕ → List PlainToken → List ℕ → Option ℕ
numbered w most (first ∷ second ∷ []) (m ∷ n ∷ []) = if is_word w first then counted_in most second n else None
numbered w most _ _ = None
