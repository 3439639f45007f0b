-- Which tokens may lines give?
use Rattle.std.specs.Prelude.{◌≡◌, true}
use Rattle.lhg_lex.specs.PlainToken.{PlainToken, word, number, sign, two_signs}
use Rattle.lhg_lex.specs.Word.{is_word}

-- what is said as a word is a word
abbrev pub IsLexed : PlainToken → Type 0
IsLexed (word w) = is_word w ≡ true
IsLexed (number q) = Unit {0}
IsLexed (sign b) = Unit {0}
IsLexed (two_signs b c) = Unit {0}
