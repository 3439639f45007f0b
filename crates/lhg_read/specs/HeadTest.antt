-- Which tokens of a text are the head of a plant, or of another part that begins with a word and a number?
use Rattle.std.specs.Prelude.{ℕ, ◌-◌, Bool, false, ◌&&◌, ◌==◌, List, [], ◌∷◌}
use Rattle.lhg_math.specs.Number.{unit}
use Rattle.lhg_math.specs.Signs.{same_number}
use Rattle.lhg_lex.specs.PlainToken.{PlainToken, number}
use Rattle.lhg_lex.specs.TextTokens.{plain_of}
use Rattle.lhg_lex.specs.declared.tokens.Token.{Token}
use Rattle.lhg_read.specs.Signs.{is_word}

-- the number 1
abbrev pub is_unit : PlainToken → Bool
is_unit (number q) = same_number q unit
is_unit token = false

-- the word and the number 1, which is one byte long
abbrev pub head_test : List ℕ → List ℕ → List Token → Bool
head_test w text [] = false
head_test w text (a ∷ []) = false
head_test w text (a ∷ b ∷ []) = is_word w (plain_of text a) && (is_unit (plain_of [] b) && (b.to - b.from == 1))
head_test w text (a ∷ b ∷ c ∷ more) = false
