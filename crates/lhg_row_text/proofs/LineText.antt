-- What does a printed line say, token by token?
use Rattle.std.proofs.Common.{◌≡◌, ◌+◌, ℕ, List, [], ◌∷◌, ◌++◌, length, refl, ap, ◌∙◌, Bool, true, false, arith, ◌==◌, ◌&&◌, not, Ok}
use Rattle.std.specs.List.{list_all, before_first}
use Rattle.std.proofs.lemmas.Bool.{and_parts}
use Rattle.std.proofs.lemmas.Bool.Decides.{nat_tests}
use Rattle.std.proofs.lemmas.List.Folds.{list_all-append}
use Rattle.std.proofs.Math.Seq.{take-append_seam, drop-append_seam}
use Rattle.lhg_lex.specs.PlainToken.{PlainToken}
use Rattle.lhg_lex.specs.Token.{said}
use Rattle.lhg_lex.specs.Longest.{IsLongest}
use Rattle.lhg_lex.specs.LineTokens.{Spot, without_return, taken, tokens_from, tokens_of}
use Rattle.lhg_lex.proofs.Fronts.{suc_is}
use Rattle.lhg_lex.proofs.LongestLemmas.{longest_is}
use Rattle.lhg_lex.proofs.Scanning.{step_over, one_taken}
use Rattle.lhg_lex.proofs.TokenStarts.{nothing_said}
use Rattle.lhg_lex.proofs.ReadingAnswers.{token_begins}
use Rattle.lhg_read.specs.PlantText.{said_in}

-- no line feed, no carriage return, and no `#`
abbrev pub is_inner : ℕ → Bool
is_inner b = not (b == 10) && (not (b == 13) && not (b == 35))

-- from each place on the bytes are these tokens, and they end no line and begin no comment
pub record Says (bytes : List ℕ) (tokens : List PlainToken) : Type 0 where
  pub spots : ℕ → List Spot
  pub read : (at : ℕ) → tokens_from 0 at bytes ≡ Ok (spots at)
  pub says : (at : ℕ) → said_in (spots at) ≡ tokens
  pub inner : list_all is_inner bytes ≡ true

-- the bytes are a token that says this, whatever the rest is that stands behind them
pub record IsToken (bytes : List ℕ) (token : PlainToken) (rest : List ℕ) : Type 0 where
  pub says : said bytes ≡ Ok token
  pub longest : IsLongest (bytes ++ rest) (length bytes)
  pub inner : list_all is_inner bytes ≡ true

-- no bytes say nothing
pub says_end : Says [] []
says_end = record { spots = λ at. []; read = λ at. refl; says = λ at. refl; inner = refl }

-- a space says nothing
pub says_space : {bytes : List ℕ} {tokens : List PlainToken} → Says bytes tokens → Says (32 ∷ bytes) tokens
says_space {bytes} {tokens} s = record {
  spots = λ at. s.spots (at + 1);
  read = λ at. step_over at 32 bytes refl ∙ s.read (at + 1);
  says = λ at. s.says (at + 1);
  inner = s.inner;
}

-- all of two texts are inner bytes
inner-append : (xs ys : List ℕ) → list_all is_inner xs ≡ true → list_all is_inner ys ≡ true → list_all is_inner (xs ++ ys) ≡ true
inner-append xs ys h k = list_all-append is_inner xs ys ∙ rw (h, k) refl

-- a token says itself
pub says_token : (bytes rest : List ℕ) (token : PlainToken) {tokens : List PlainToken} → IsToken bytes token rest → Says rest tokens → Says (bytes ++ rest) (token ∷ tokens)
says_token [] rest token t s = absurd (nothing_said token t.says)
says_token (b ∷ bytes) rest token {tokens} t s =
    let n = length (b ∷ bytes) in
    record {
      spots = λ at. record { says = token; from = at; to = at + n } ∷ s.spots (at + n);
      read = λ at. one_taken at n b (bytes ++ rest) token (token_begins b bytes token t.says) (longest_is _ n t.longest) (ap said (take-append_seam (b ∷ bytes) rest) ∙ t.says)
          ∙ ap (taken at n (Ok token)) (ap (tokens_from 0 (at + n)) (drop-append_seam (b ∷ bytes) rest) ∙ s.read (at + n));
      says = λ at. ap (λ ts. token ∷ ts) (s.says (at + n));
      inner = inner-append (b ∷ bytes) rest t.inner s.inner;
    }

-- no carriage return is dropped
no_return : (line : List ℕ) → list_all is_inner line ≡ true → without_return line ≡ line
no_return [] h = refl
no_return (b ∷ []) h = let t : (b == 13) ≡ false = grind (arith, nat_tests) in rw t refl
no_return (b ∷ c ∷ line) h = ap (λ w. b ∷ w) (no_return (c ∷ line) (and_parts (is_inner b) (list_all is_inner (c ∷ line)) h).1)

-- no comment begins
no_comment : (line : List ℕ) → list_all is_inner line ≡ true → before_first (λ b. b == 35) line ≡ line
no_comment [] h = refl
no_comment (b ∷ line) h =
    let p = and_parts (is_inner b) (list_all is_inner line) h in
    let e : (b == 35) ≡ false = grind (arith, nat_tests) in
    rw (e, suc_is) (ap (λ w. b ∷ w) (no_comment line p.1))

-- the line is what its bytes say
pub line_says : {line : List ℕ} {tokens : List PlainToken} (s : Says line tokens) → tokens_of line ≡ Ok (s.spots 0)
unfolding tokens_of
line_says {line} s = ap (tokens_from 0 0) (ap (before_first (λ b. b == 35)) (no_return line s.inner) ∙ no_comment line s.inner) ∙ s.read 0
