-- What do the definitions say of a few lines and numbers?
use Rattle.std.specs.Prelude.{◌≡◌, ℕ, pos, List, [], ◌∷◌, ◌++◌, codes, replicate, Result, Ok, Err}
use Rattle.lhg_math.specs.Number.{whole, quot}
use Rattle.lhg_lex.specs.Lines.{lines_of}
use Rattle.lhg_lex.specs.Literal.{number_of}
use Rattle.lhg_lex.specs.PlainToken.{PlainToken, word, number, sign, two_signs}
use Rattle.lhg_lex.specs.LineTokens.{Spot, Fault, tokens_of}
use Rattle.lhg_lex.specs.declared.stops.What.{What}
use Rattle.lhg_lex.specs.declared.stops.What.TheVariants.{BadByte, LongNumber, ZeroDenominator}

-- a token at some bytes of its line
abbrev pub at : PlainToken → ℕ → ℕ → Spot
at says from to = record { says = says; from = from; to = to }

-- the line has a token error at this column
abbrev pub fails : What → ℕ → Result (List Spot) Fault
fails what column = Err (record { column = column; what = what })

-- lines end before each line feed and at the end; an empty last line is none
pub record LineFacts : Type 0 where
  pub empty : lines_of [] ≡ []
  pub ended : lines_of (codes "a" ++ (10 ∷ [])) ≡ codes "a" ∷ []
  pub unended : lines_of (codes "a" ++ (10 ∷ codes "b")) ≡ codes "a" ∷ codes "b" ∷ []
  pub blank : lines_of (10 ∷ 10 ∷ codes "b") ≡ [] ∷ [] ∷ codes "b" ∷ []

-- tokens need no separators; the longest is taken; a carriage return ends the line or is a bad byte; a comment holds any bytes
pub record TokenFacts : Type 0 where
  pub row : tokens_of (codes "2*x'<=y_1 # 3@") ≡ Ok (at (number (whole (pos 2))) 0 1 ∷ at (sign 42) 1 2 ∷ at (word (codes "x")) 2 3 ∷ at (sign 39) 3 4 ∷ at (two_signs 60 61) 4 6 ∷ at (word (codes "y_1")) 6 9 ∷ [])
  pub signs : tokens_of (codes "<==") ≡ Ok (at (two_signs 60 61) 0 2 ∷ at (sign 61) 2 3 ∷ [])
  pub adjacent : tokens_of (codes "1x") ≡ Ok (at (number (whole (pos 1))) 0 1 ∷ at (word (codes "x")) 1 2 ∷ [])
  pub returned : tokens_of (9 ∷ codes "a" ++ (32 ∷ 13 ∷ [])) ≡ Ok (at (word (codes "a")) 1 2 ∷ [])
  pub twice : tokens_of (codes "a" ++ (13 ∷ 13 ∷ [])) ≡ fails BadByte 2
  pub inside : tokens_of (codes "a" ++ (13 ∷ codes "b")) ≡ fails BadByte 2
  pub comment : tokens_of (codes "#" ++ (13 ∷ 255 ∷ [])) ≡ Ok []
  pub mark : tokens_of (239 ∷ 187 ∷ 191 ∷ codes "a") ≡ fails BadByte 1

-- a mark without digits behind it, and a second mark, are bad bytes; a long run of digits comes before them
pub record NumberFacts : Type 0 where
  pub bare : tokens_of (codes "a 1.") ≡ fails BadByte 4
  pub none : tokens_of (codes ".5") ≡ fails BadByte 1
  pub point : tokens_of (codes "1/2.5") ≡ fails BadByte 4
  pub slash : tokens_of (codes "1.5/2") ≡ fails BadByte 4
  pub points : tokens_of (codes "1.5.2") ≡ fails BadByte 4
  pub long : tokens_of (codes "x 170141183460469231731687303715884105728.") ≡ fails LongNumber 3
  pub below : tokens_of (codes "1/170141183460469231731687303715884105728") ≡ fails LongNumber 1
  pub digits : tokens_of (codes "0." ++ replicate 38 48) ≡ fails LongNumber 1
  pub zero : tokens_of (codes "<1/00") ≡ fails ZeroDenominator 2
  pub long_zero : tokens_of (codes "170141183460469231731687303715884105728/0") ≡ fails LongNumber 1
  pub leading : number_of (replicate 60 48 ++ codes "7") ≡ Ok (whole (pos 7))
  pub largest : number_of (codes "170141183460469231731687303715884105727") ≡ Ok (whole (pos 170141183460469231731687303715884105727))
  pub fraction : number_of (codes "02/8") ≡ Ok (quot (whole (pos 2)) (whole (pos 8)))
  pub decimal : number_of (codes "0.25") ≡ Ok (quot (whole (pos 25)) (whole (pos 100)))
  pub lowest : (quot (whole (pos 2)) (whole (pos 8)) ≡ quot (whole (pos 1)) (whole (pos 4))) × (quot (whole (pos 25)) (whole (pos 100)) ≡ quot (whole (pos 1)) (whole (pos 4)))
