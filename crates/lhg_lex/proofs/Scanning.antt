-- The tokens of a line, step by step.
use Rattle.std.proofs.Common.{◌≡◌, ◌<◌, ◌≤◌, ◌+◌, ◌-◌, ℕ, zero, suc, List, [], ◌∷◌, ◌++◌, length, take, drop, refl, sym, ap, ◌∙◌, subst, true, false, arith, get_or, Result, Ok, Err, map, append_assoc, add-zero, add-one, length-drop, length-take}
use Rattle.std.proofs.lemmas.List.{drop_more, drop-drop, take_rest}
use Rattle.lhg_lex.specs.PlainToken.{PlainToken}
use Rattle.lhg_lex.specs.Token.{said, is_token}
use Rattle.lhg_lex.specs.Longest.{longest, IsLongest}
use Rattle.lhg_lex.specs.LineTokens.{tokens_from, taken, is_separator, Spot, Fault}
use Rattle.lhg_lex.specs.TextTokens.{all_placed, placed, kind_of, kind_said}
use Rattle.lhg_lex.specs.declared.stops.What.{What}
use Rattle.lhg_lex.specs.declared.tokens.Tok.{Tok}
use Rattle.lhg_lex.specs.declared.tokens.Token.{Token}
use Rattle.lhg_lex.proofs.Results.{ok_same, err_same, ok_not_err}
use Rattle.lhg_lex.proofs.TokenStarts.{nothing_said}
use Rattle.lhg_lex.proofs.LongestLemmas.{longest_is}

-- tokens, and then those that follow or their error
abbrev pub followed : List Token → Result (List Token) Fault → Result (List Token) Fault
followed tokens (Ok more) = Ok (tokens ++ more)
followed tokens (Err fault) = Err fault

-- the bytes of a token that is taken are passed
pub pass : (k at : ℕ) (bytes : List ℕ) → tokens_from k at bytes ≡ tokens_from 0 (at + k) (drop k bytes)
pass zero at bytes = rw add-zero refl
pass (suc k) at [] = refl
pass (suc k) at (b ∷ bytes) = pass k (suc at) bytes ∙ ap (λ z. tokens_from 0 z (drop k bytes)) (later at k)
  where
    later : (at k : ℕ) → suc at + k ≡ at + suc k
    later at k = omega arith

-- a separator at the front is passed
pub step_over : (at b : ℕ) (bytes : List ℕ) → is_separator b ≡ true → tokens_from 0 at (b ∷ bytes) ≡ tokens_from 0 (at + 1) bytes
step_over at b bytes h = rw h (ap (λ z. tokens_from 0 z bytes) (sym (add-one at)))

-- a separator is passed
pub at_separator : (line : List ℕ) (at : ℕ) → at < length line → is_separator (get_or line at 0) ≡ true → tokens_from 0 at (drop at line) ≡ tokens_from 0 (at + 1) (drop (at + 1) line)
at_separator line at lt h = ap (tokens_from 0 at) (drop_more line at 0 lt) ∙ step_over at (get_or line at 0) (drop (at + 1) line) h

-- a token of n bytes, where a byte stands that is no separator
taken_at : (at n b : ℕ) (bytes : List ℕ) → is_separator b ≡ false → longest (b ∷ bytes) ≡ suc n → tokens_from 0 at (b ∷ bytes) ≡ taken at (suc n) (said (take (suc n) (b ∷ bytes))) (tokens_from 0 (at + suc n) (drop n bytes))
taken_at at n b bytes h e = rw (h, e) (ap (taken at (suc n) (said (take (suc n) (b ∷ bytes)))) (pass (suc n - 1) (suc at) bytes ∙ rest at n bytes))
  where
    rest : (at n : ℕ) (bytes : List ℕ) → tokens_from 0 (suc at + (suc n - 1)) (drop (suc n - 1) bytes) ≡ tokens_from 0 (at + suc n) (drop n bytes)
    rest at n bytes = let e : suc n - 1 ≡ n = omega arith in let f : suc at + n ≡ at + suc n = omega arith in rw (e, f) refl

-- what a kind tells of a token
token_of_kind : (r : Result PlainToken What) (kind : Tok) → Ok kind ≡ kind_said r → (token : PlainToken) × (r ≡ Ok token) × (kind ≡ kind_of token)
token_of_kind (Ok token) kind e = (token, refl, ok_same e)
token_of_kind (Err what) kind e = absurd (ok_not_err e)

-- and an error of an error
error_of_kind : (r : Result PlainToken What) (what : What) → Err what ≡ kind_said r → r ≡ Err what
error_of_kind (Ok token) what e = absurd (ok_not_err (sym e))
error_of_kind (Err w) what e = ap (λ v. Err v) (sym (err_same e))

-- where no token stands, no bytes are one
pub none_taken : (at b : ℕ) (bytes : List ℕ) (what : What) → is_separator b ≡ false → said (take (longest (b ∷ bytes)) (b ∷ bytes)) ≡ Err what → tokens_from 0 at (b ∷ bytes) ≡ Err (record { column = at + 1; what = what })
none_taken at b bytes what h e = rw (h, e) refl

-- a token error at a place of the line
fault_at : (line : List ℕ) (at : ℕ) (what : What) → at < length line → is_separator (get_or line at 0) ≡ false → said (take (longest (drop at line)) (drop at line)) ≡ Err what → tokens_from 0 at (drop at line) ≡ Err (record { column = at + 1; what = what })
fault_at line at what lt h e =
    let d = drop_more line at 0 lt in
    ap (tokens_from 0 at) d ∙ none_taken at (get_or line at 0) (drop (at + 1) line) what h (ap (λ w. said (take (longest w) w)) (sym d) ∙ e)

-- a token at the front is taken
pub one_taken : (at n b : ℕ) (bytes : List ℕ) (token : PlainToken) → is_separator b ≡ false → longest (b ∷ bytes) ≡ n → said (take n (b ∷ bytes)) ≡ Ok token → tokens_from 0 at (b ∷ bytes) ≡ taken at n (Ok token) (tokens_from 0 (at + n) (drop n (b ∷ bytes)))
one_taken at zero b bytes token h l e = absurd (nothing_said token e)
one_taken at (suc n) b bytes token h l e = taken_at at n b bytes h l ∙ ap (λ r. taken at (suc n) r (tokens_from 0 (at + suc n) (drop n bytes))) e

-- and at a place of the line
token_at : (line : List ℕ) (at n : ℕ) (token : PlainToken) → at < length line → is_separator (get_or line at 0) ≡ false → longest (drop at line) ≡ n → said (take n (drop at line)) ≡ Ok token → tokens_from 0 at (drop at line) ≡ taken at n (Ok token) (tokens_from 0 (at + n) (drop (at + n) line))
token_at line at n token lt h l e =
    let d = drop_more line at 0 lt in
    ap (tokens_from 0 at) d
    ∙ one_taken at n (get_or line at 0) (drop (at + 1) line) token h (ap longest (sym d) ∙ l) (ap (λ w. said (take n w)) (sym d) ∙ e)
    ∙ ap (λ w. taken at n (Ok token) (tokens_from 0 (at + n) w)) (ap (drop n) (sym d) ∙ drop-drop n at line)

-- a token that is taken joins those so far
placed_more : (start : ℕ) (tokens : List Token) (at n : ℕ) (token : PlainToken) (rest : Result (List Spot) Fault) →
    followed tokens (all_placed start (taken at n (Ok token) rest)) ≡ followed (tokens ++ (placed start (record { says = token; from = at; to = at + n }) ∷ [])) (all_placed start rest)
placed_more start tokens at n token (Ok spots) = ap (λ ts. Ok ts) (sym (append_assoc tokens (placed start (record { says = token; from = at; to = at + n }) ∷ []) (map (placed start) spots)))
placed_more start tokens at n token (Err fault) = refl

-- an error of the text is one of the line
faulty : (start : ℕ) (r : Result (List Spot) Fault) (fault : Fault) → all_placed start r ≡ Err fault → r ≡ Err fault
faulty start (Ok spots) fault e = absurd (ok_not_err e)
faulty start (Err f) fault e = ap (λ g. Err g) (err_same e)

-- ---- the turns of the reading of a line

-- the tokens so far, and then those of the bytes from a place on, are those of the line
pub record IsScanned (start : ℕ) (line : List ℕ) (tokens : List Token) (at : ℕ) : Type 0 where
  pub within : at ≤ length line
  pub same : followed tokens (all_placed start (tokens_from 0 at (drop at line))) ≡ all_placed start (tokens_from 0 0 line)

-- behind a separator
pub scan_separator : (start : ℕ) (line : List ℕ) (tokens : List Token) (at : ℕ) → IsScanned start line tokens at → at < length line → is_separator (get_or line at 0) ≡ true → IsScanned start line tokens (at + 1)
scan_separator start line tokens at s lt h = record {
  within = omega arith;
  same = ap (λ r. followed tokens (all_placed start r)) (sym (at_separator line at lt h)) ∙ s.same;
}

-- behind a token
pub scan_token : (start : ℕ) (line : List ℕ) (tokens : List Token) (at n : ℕ) (kind : Tok) → IsScanned start line tokens at → at < length line → is_separator (get_or line at 0) ≡ false
    → IsLongest (take (length line - at) (drop at line)) n → Ok kind ≡ kind_said (said (take (at + n - at) (drop at line)))
    → IsScanned start line (tokens ++ (record { kind = kind; from = start + at; to = start + at + n } ∷ [])) (at + n)
scan_token start line tokens at n kind s lt h l e =
    let slice : take (length line - at) (drop at line) ≡ drop at line = take_rest line at in
    let long : IsLongest (drop at line) n = subst (λ w. IsLongest w n) slice l in
    let size : at + n - at ≡ n = omega arith in
    let t = token_of_kind (said (take n (drop at line))) kind (e ∙ ap (λ k. kind_said (said (take k (drop at line)))) size) in
    record {
      within = omega (arith, long.within, length-drop at line);
      same = ap (λ token. followed (tokens ++ (token ∷ [])) (all_placed start (tokens_from 0 (at + n) (drop (at + n) line)))) (same_token kind t.0 t.2)
          ∙ sym (placed_more start tokens at n t.0 (tokens_from 0 (at + n) (drop (at + n) line)))
          ∙ ap (λ r. followed tokens (all_placed start r)) (sym (token_at line at n t.0 lt h (longest_is (drop at line) n long) t.1)) ∙ s.same;
    }
  where
    same_token : (kind : Tok) (token : PlainToken) → kind ≡ kind_of token → (let a : Token = record { kind = kind; from = start + at; to = start + at + n } in a ≡ placed start (record { says = token; from = at; to = at + n }))
    same_token kind token e =
        let made : Tok → ℕ → Token = λ k to. record { kind = k; from = start + at; to = to } in
        let sum : start + at + n ≡ start + (at + n) = omega arith in
        ap (λ k. made k (start + at + n)) e ∙ ap (λ to. made (kind_of token) to) sum

-- at a token error
pub scan_fault : (start : ℕ) (line : List ℕ) (tokens : List Token) (at n : ℕ) (what : What) → IsScanned start line tokens at → at < length line → is_separator (get_or line at 0) ≡ false
    → IsLongest (take (length line - at) (drop at line)) n → Err what ≡ kind_said (said (take (at + n - at) (drop at line)))
    → tokens_from 0 0 line ≡ Err (record { column = at + 1; what = what })
scan_fault start line tokens at n what s lt h l e =
    let slice : take (length line - at) (drop at line) ≡ drop at line = take_rest line at in
    let long : IsLongest (drop at line) n = subst (λ w. IsLongest w n) slice l in
    let size : at + n - at ≡ n = omega arith in
    let same : longest (drop at line) ≡ n = longest_is (drop at line) n long in
    let f = error_of_kind (said (take n (drop at line))) what (e ∙ ap (λ k. kind_said (said (take k (drop at line)))) size) in
    let g = fault_at line at what lt h (ap (λ k. said (take k (drop at line))) same ∙ f) in
    faulty start (tokens_from 0 0 line) (record { column = at + 1; what = what }) (sym s.same ∙ ap (λ r. followed tokens (all_placed start r)) g)

-- the bytes that are taken are a token, where there are some
pub token_slice : (line : List ℕ) (at n : ℕ) → IsLongest (take (length line - at) (drop at line)) n → 0 < length (take (at + n - at) (drop at line)) → is_token (take (at + n - at) (drop at line)) ≡ true
token_slice line at n l some =
    let slice : take (length line - at) (drop at line) ≡ drop at line = take_rest line at in
    let long : IsLongest (drop at line) n = subst (λ w. IsLongest w n) slice l in
    let size : at + n - at ≡ n = omega arith in
    let more : 0 < n = omega (arith, length-take (at + n - at) (drop at line)) in
    ap (λ k. is_token (take k (drop at line))) size ∙ long.token more
