-- How long is the longest token at the front of some bytes?
use Rattle.std.specs.Prelude.{◌≡◌, ℕ, zero, suc, ◌<◌, ◌≤◌, List, length, take, true, false, if◌then◌else◌}
use Rattle.lhg_lex.specs.Token.{is_token}

-- the length of the longest token that is a front of at most n bytes, and 0 where there is none
abbrev pub longest_within : ℕ → List ℕ → ℕ
longest_within zero bytes = 0
longest_within (suc n) bytes = if is_token (take (suc n) bytes) then suc n else longest_within n bytes

-- the length of the longest token at the front, and 0 where there is none
unfoldable pub longest : List ℕ → ℕ
longest bytes = longest_within (length bytes) bytes

-- the same, said by what it is: no longer front is a token, and it is one unless it is 0
pub record IsLongest (bytes : List ℕ) (n : ℕ) : Type 0 where
  pub within : n ≤ length bytes
  pub token : 0 < n → is_token (take n bytes) ≡ true
  pub greatest : (m : ℕ) → n < m → m ≤ length bytes → is_token (take m bytes) ≡ false
