-- Where in a text do the tokens of a line lie, and what does a token of the text say?
use Rattle.std.specs.Prelude.{◌≡◌, ℕ, ◌+◌, ◌<◌, ◌≤◌, List, [], ◌∷◌, length, map, slice_range, Result, Ok, Err, ⊤}
use Rattle.lhg_lex.specs.PlainToken.{PlainToken, PlainLine, word, number, sign, two_signs}
use Rattle.lhg_lex.specs.LineTokens.{Spot, Fault}
use Rattle.lhg_lex.specs.declared.stops.What.{What}
use Rattle.lhg_lex.specs.declared.stops.ReadStop.{ReadStop}
use Rattle.lhg_lex.specs.declared.stops.ReadStop.TheVariants.{Bad, Memory}
use Rattle.lhg_lex.specs.declared.tokens.Tok.{Tok}
use Rattle.lhg_lex.specs.declared.tokens.Tok.TheVariants as tok
use Rattle.lhg_lex.specs.declared.tokens.Token.{Token}
use Rattle.lhg_lex.specs.declared.tokens.Line.{Line}

-- what a token is, without a word's bytes
abbrev pub kind_of : PlainToken → Tok
kind_of (word w) = tok.Word
kind_of (number q) = tok.Number q
kind_of (sign b) = tok.Sign b
kind_of (two_signs b c) = tok.TwoSign b c

-- the same of an answer
abbrev pub kind_said : Result PlainToken What → Result Tok What
kind_said (Ok token) = Ok (kind_of token)
kind_said (Err what) = Err what

-- the token in a text where its line begins at this place
abbrev pub placed : ℕ → Spot → Token
placed start spot = record { kind = kind_of spot.says; from = start + spot.from; to = start + spot.to }

-- what a token of this kind says, given its bytes
abbrev pub plain_kind : List ℕ → Tok → PlainToken
plain_kind bytes tok.Word = word bytes
plain_kind bytes (tok.Number q) = number q
plain_kind bytes (tok.Sign b) = sign b
plain_kind bytes (tok.TwoSign b c) = two_signs b c

-- what a token of the text says; a word's bytes are its slice
abbrev pub plain_of : List ℕ → Token → PlainToken
plain_of text token = plain_kind (slice_range text token.from token.to) token.kind

-- what a line of the text says
abbrev pub plain_line : List ℕ → Line → PlainLine
plain_line text line = record { number = line.number; tokens = map (plain_of text) line.tokens.items }

-- the token has bytes, and they are some of the text
pub record IsSpan (text : List ℕ) (token : Token) : Type 0 where
  pub some : token.from < token.to
  pub within : token.to ≤ length text

-- the tokens have bytes, one behind the other, from one place up to another
abbrev pub InOrder : ℕ → List Token → ℕ → Type 0
InOrder low [] high = low ≤ high
InOrder low (token ∷ tokens) high = (low ≤ token.from) × (token.from < token.to) × InOrder token.to tokens high

-- the tokens of a line that begins at this place, or its first token error
abbrev pub all_placed : ℕ → Result (List Spot) Fault → Result (List Token) Fault
all_placed start (Ok spots) = Ok (map (placed start) spots)
all_placed start (Err fault) = Err fault

-- the reading stops at the token error of the line with this number, or for want of memory
abbrev pub IsStopAt : ℕ → Result (List Spot) Fault → ReadStop → Type 0
IsStopAt n answer (Bad line column what) = (line ≡ n) × (answer ≡ Err (record { column = column; what = what }))
IsStopAt n answer Memory = ⊤
