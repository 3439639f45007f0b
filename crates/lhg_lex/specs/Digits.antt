-- Which bytes are digits, and for which number do they stand?
use Rattle.std.specs.Prelude.{ℕ, List, [], ◌∷◌, Bool, false}
use Rattle.std.specs.List.{list_all}
use Rattle.std.specs.Str.Parse.{digits_value}
use Rattle.lhg_lex.specs.Word.{is_digit}

-- digits alone
abbrev pub all_digits : List ℕ → Bool
all_digits w = list_all is_digit w

-- one digit or more, and nothing else
abbrev pub is_run : List ℕ → Bool
is_run [] = false
is_run (b ∷ bs) = all_digits (b ∷ bs)

-- the number that decimal digits stand for
abbrev pub value_of : List ℕ → ℕ
value_of w = digits_value 10 w
