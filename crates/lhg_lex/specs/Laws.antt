-- What follows from the definitions of lines, tokens and readings?
use Rattle.std.specs.Prelude.{◌≡◌, ◌≢◌, ◌↔◌, ℕ, ◌+◌, ◌<◌, ◌==◌, List, [], ◌∷◌, ◌++◌, length, slice_range, slice_get, count_by, Bool, true, false, if◌then◌else◌, Some, Ok, Err}
use Rattle.std.specs.List.{list_any}
use Rattle.lhg_lex.specs.Word.{is_word}
use Rattle.lhg_lex.specs.Literal.{is_number, number_of}
use Rattle.lhg_lex.specs.PlainToken.{word}
use Rattle.lhg_lex.specs.Token.{is_signs, said, number_said, signs_said}
use Rattle.lhg_lex.specs.Longest.{longest, IsLongest}
use Rattle.lhg_lex.specs.LineTokens.{content_of, without_return, tokens_from, tokens_of, Spot, Fault, IsBlankLine}
use Rattle.lhg_lex.specs.LineReading.{Reads, EndsWell, EndsIn, AreSlices}
use Rattle.lhg_lex.specs.Lines.{lines_of}
use Rattle.lhg_lex.specs.FirstBad.{IsFirstBad}
use Rattle.lhg_lex.specs.Reading.{Reading, start_of, IsNext}

-- a token is of one kind alone, and says what that kind says
pub record TokenLaws : Type 0 where
  pub word : (w : List ℕ) → is_word w ≡ true → (is_number w ≡ false) × (is_signs w ≡ false) × (said w ≡ Ok (word w))
  pub number : (w : List ℕ) → is_number w ≡ true → (is_word w ≡ false) × (is_signs w ≡ false) × (said w ≡ number_said (number_of w))
  pub signs : (w : List ℕ) → is_signs w ≡ true → (is_word w ≡ false) × (is_number w ≡ false) × (said w ≡ signs_said w)

-- the longest token at the front is one, and is one alone
pub record LongestLaws : Type 0 where
  pub holds : (bytes : List ℕ) → IsLongest bytes (longest bytes)
  pub one : (bytes : List ℕ) (n m : ℕ) → IsLongest bytes n → IsLongest bytes m → n ≡ m

-- what counts of a line is a front of it
pub record ContentLaws : Type 0 where
  pub front : (line : List ℕ) → (more : List ℕ) × (line ≡ content_of line ++ more)
  pub returned : (line : List ℕ) → without_return (line ++ (13 ∷ [])) ≡ line
  pub kept : (line : List ℕ) (b : ℕ) → b ≢ 13 → without_return (line ++ (b ∷ [])) ≡ line ++ (b ∷ [])
  pub comment : (line more : List ℕ) → list_any (λ b. b == 35) line ≡ false → content_of (line ++ (35 ∷ more)) ≡ line

-- the tokens of a line and its first token error are those that can be read off the line; and its tokens are its slices, in order
pub record LineLaws : Type 0 where
  pub tokens : (at : ℕ) (bytes : List ℕ) (spots : List Spot) → (tokens_from 0 at bytes ≡ Ok spots) ↔ Reads EndsWell at bytes spots
  pub fault : (at : ℕ) (bytes : List ℕ) (fault : Fault) → (tokens_from 0 at bytes ≡ Err fault) ↔ ((spots : List Spot) × Reads (EndsIn fault) at bytes spots)
  pub slices : (line : List ℕ) (spots : List Spot) → tokens_of line ≡ Ok spots → AreSlices (content_of line) 0 spots

-- 1 if bytes follow the last line feed
abbrev pub open_end : List ℕ → ℕ
open_end [] = 0
open_end (b ∷ []) = if b == 10 then 0 else 1
open_end (b ∷ c ∷ bytes) = open_end (c ∷ bytes)

-- a line ends before each line feed and at the end of the text
pub record TextLaws : Type 0 where
  pub fed : (line more : List ℕ) → list_any (λ b. b == 10) line ≡ false → lines_of (line ++ (10 ∷ more)) ≡ line ∷ lines_of more
  pub last : (line : List ℕ) → 0 < length line → list_any (λ b. b == 10) line ≡ false → lines_of line ≡ line ∷ []
  pub count : (bytes : List ℕ) → length (lines_of bytes) ≡ count_by (λ b. b == 10) bytes + open_end bytes
  pub begins : (bytes : List ℕ) (n : ℕ) (line : List ℕ) → slice_get (lines_of bytes) n ≡ Some line → slice_range bytes (start_of n (lines_of bytes)) (start_of n (lines_of bytes) + length line) ≡ line

-- the next line that is not blank is a line of the text, and is one alone
pub record NextLaws : Type 0 where
  pub line : (s : Reading) (n : ℕ) (line : List ℕ) → IsNext s n line → slice_get (lines_of s.bytes) n ≡ Some line
  pub one : (s : Reading) (n m : ℕ) (line other : List ℕ) → IsNext s n line → ¬ IsBlankLine line → IsNext s m other → ¬ IsBlankLine other → (n ≡ m) × (line ≡ other)

-- a text that a test takes has no line that cannot stand there, and any other has one first such line at most
pub record FirstBadLaws : Type 0 where
  pub none : (takes : List (List ℕ) → Bool) (lines : List (List ℕ)) (n : ℕ) → takes lines ≡ true → ¬ IsFirstBad (λ text. takes text ≡ true) lines n
  pub one : (takes : List (List ℕ) → Bool) (lines : List (List ℕ)) (n m : ℕ) → IsFirstBad (λ text. takes text ≡ true) lines n → IsFirstBad (λ text. takes text ≡ true) lines m → n ≡ m
