-- What does a token say, and what does a line, apart from where they lie in a text?
use Rattle.std.specs.Prelude.{ℕ, List}
use Rattle.lhg_math.specs.Number.{Number}

-- what a token says: a word its bytes, a number its value, a sign its byte, two signs their bytes
pub data PlainToken : Type 0 where
  word : List ℕ → PlainToken
  number : Number → PlainToken
  sign : ℕ → PlainToken
  two_signs : ℕ → ℕ → PlainToken

-- a line's number, counted from 1, and what its tokens say
pub record PlainLine : Type 0 where
  pub number : ℕ
  pub tokens : List PlainToken
