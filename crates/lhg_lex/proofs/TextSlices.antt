-- The tokens of a line are slices of its text, in order.
use Rattle.std.proofs.Common.{zero, suc, ◌≡◌, ◌<◌, ◌≤◌, ◌+◌, ◌-◌, ℕ, List, [], ◌∷◌, ◌++◌, length, take, drop, refl, sym, ap, ◌∙◌, subst, Bool, true, false, arith, cond, Result, Ok, Err, map, length-drop}
use Rattle.lhg_math.specs.Tests.{by_bool}
use Rattle.std.specs.Prelude.{All, slice_range}
use Rattle.std.proofs.lemmas.List.{drop-drop, drop-append-le, take-append-le}
use Rattle.lhg_math.specs.Number.{Number}
use Rattle.lhg_lex.specs.Word.{is_word}
use Rattle.lhg_lex.specs.Literal.{is_number, number_of}
use Rattle.lhg_lex.specs.PlainToken.{PlainToken, sign, two_signs}
use Rattle.lhg_lex.specs.Token.{said, number_said, signs_said, is_sign_byte, is_pair}
use Rattle.lhg_lex.specs.LineTokens.{Spot}
use Rattle.lhg_lex.specs.LineReading.{AreSlices}
use Rattle.lhg_lex.specs.TextTokens.{placed, plain_of, plain_kind, kind_of, IsSpan, InOrder}
use Rattle.lhg_lex.specs.declared.stops.What.{What}
use Rattle.lhg_lex.specs.declared.stops.What.TheVariants.{BadByte}
use Rattle.lhg_lex.specs.declared.tokens.Token.{Token}
use Rattle.lhg_lex.proofs.Results.{ok_same, ok_not_err}

-- what a token says is told by its kind and its bytes
record IsTold (w : List ℕ) (token : PlainToken) : Type 0 where
  is : plain_kind w (kind_of token) ≡ token

-- of a number
told_number : (w : List ℕ) (r : Result Number What) (token : PlainToken) → number_said r ≡ Ok token → IsTold w token
told_number w (Ok q) token e = subst (λ t. IsTold w t) (ok_same e) (record { is = refl })
told_number w (Err what) token e = absurd (ok_not_err (sym e))

-- of signs, where they are some
told_if : (w : List ℕ) (b : Bool) (p token : PlainToken) → IsTold w p → (let x : Result PlainToken What = cond b (Ok p) (Err BadByte) in x ≡ Ok token) → IsTold w token
told_if w true p token h e = subst (λ t. IsTold w t) (ok_same e) h
told_if w false p token h e = absurd (ok_not_err (sym e))

-- of signs
told_signs : (w : List ℕ) (token : PlainToken) → signs_said w ≡ Ok token → IsTold w token
told_signs [] token e = absurd (ok_not_err (sym e))
told_signs (b ∷ []) token e = told_if (b ∷ []) (is_sign_byte b) (sign b) token (record { is = refl }) e
told_signs (b ∷ c ∷ []) token e = told_if (b ∷ c ∷ []) (is_pair b c) (two_signs b c) token (record { is = refl }) e
told_signs (b ∷ c ∷ d ∷ w) token e = absurd (ok_not_err (sym e))

-- of any token
told : (w : List ℕ) (token : PlainToken) → said w ≡ Ok token → IsTold w token
told w token e =
    by_bool (is_word w)
    (λ t. subst (λ z. IsTold w z) (ok_same (rw t at e)) (record { is = refl }))
    (λ t. by_bool (is_number w)
    (λ n. told_number w (number_of w) token (rw (t, n) at e))
    (λ n. told_signs w token (rw (t, n) at e)))

-- a slice of a line is a slice of its text
slice_in : (text line more : List ℕ) (start from to : ℕ) → drop start text ≡ line ++ more → from < to → to ≤ length line → slice_range text (start + from) (start + to) ≡ slice_range line from to
slice_in text line more start from to e lt within =
    let size : start + to - (start + from) ≡ to - from = omega arith in
    let here : drop (start + from) text ≡ drop from line ++ more = sym (drop-drop from start text) ∙ ap (drop from) e ∙ drop-append-le from line more (omega arith) in
    let d = length-drop from line in
    ap (λ k. take k (drop (start + from) text)) size ∙ ap (take (to - from)) here ∙ take-append-le (to - from) (drop from line) more (omega (arith, d))

-- slices end in their line
bounded : (line : List ℕ) (low : ℕ) (spots : List Spot) → AreSlices line low spots → low ≤ length line
bounded line low [] h = h
bounded line low (spot ∷ spots) h = let k = bounded line spot.to spots h.3 in omega (arith, h.0, h.1, k)

-- each token of the text says what it says in its line
pub says_in : (text line more : List ℕ) (start low : ℕ) (spots : List Spot) → drop start text ≡ line ++ more → AreSlices line low spots → map (plain_of text) (map (placed start) spots) ≡ map (λ s. s.says) spots
says_in text line more start low [] e h = refl
says_in text line more start low (spot ∷ spots) e h =
    let slice = slice_in text line more start spot.from spot.to e h.1 (bounded line spot.to spots h.3) in
    let t = told (slice_range line spot.from spot.to) spot.says h.2 in
    ap (λ p. p ∷ map (plain_of text) (map (placed start) spots)) (ap (λ w. plain_kind w (kind_of spot.says)) slice ∙ t.is)
    ∙ ap (λ ps. spot.says ∷ ps) (says_in text line more start spot.to spots e h.3)

-- tokens in order up to the end of the text are spans of it
pub spans_in : (text : List ℕ) (low : ℕ) (tokens : List Token) → InOrder low tokens (length text) → All (IsSpan text) tokens
spans_in text low [] h k d lt = absurd (omega arith)
spans_in text low (token ∷ tokens) h zero d lt = record { some = h.1; within = ends text token.to tokens h.2 }
  where
    ends : (text : List ℕ) (low : ℕ) (tokens : List Token) → InOrder low tokens (length text) → low ≤ length text
    ends text low [] h = h
    ends text low (token ∷ tokens) h = let k = ends text token.to tokens h.2 in omega (arith, h.0, h.1, k)
spans_in text low (token ∷ tokens) h (suc k) d lt = spans_in text token.to tokens h.2 k d (omega arith)

-- and they stand in order
pub order_in : (text line : List ℕ) (start low at : ℕ) (spots : List Spot) → start + length line ≤ length text → low ≤ start + at → AreSlices line at spots → InOrder low (map (placed start) spots) (length text)
order_in text line start low at [] long above h = omega (arith, h)
order_in text line start low at (spot ∷ spots) long above h =
    (omega (arith, h.0), omega (arith, h.1), order_in text line start (start + spot.to) spot.to spots long (omega arith) h.3)
