-- What does a line say whose parts are words and whole numbers, with one space between each two?
use Rattle.std.proofs.Common.{◌≡◌, ◌≤◌, ℕ, List, [], ◌∷◌, ◌++◌, refl, true, decimal}
use Rattle.std.proofs.Math.IntN.{pos}
use Rattle.lhg_math.specs.Number.{whole}
use Rattle.lhg_lex.specs.Literal.{limit}
use Rattle.lhg_lex.specs.PlainToken.{PlainToken, word, number}
use Rattle.lhg_lex.specs.Word.{is_word}
use Rattle.lhg_row_text.specs.PrintedLine.{spaced}
use Rattle.lhg_row_text.proofs.LineText.{Says, IsToken, says_space, says_token}
use Rattle.lhg_row_text.proofs.NumberTokens.{decimal_token}
use Rattle.lhg_row_text.proofs.TokenKinds.{breaks, word_token}

-- the bytes are this token in front of each break
pub record IsItem (bytes : List ℕ) (token : PlainToken) : Type 0 where
  pub stands : (rest : List ℕ) → breaks rest ≡ true → IsToken bytes token rest

-- a word
pub word_item : (w : List ℕ) → is_word w ≡ true → IsItem w (word w)
word_item w h = record { stands = λ rest k. word_token w rest h k }

-- a whole number
pub number_item : (n : ℕ) → n ≤ limit → IsItem (decimal n) (number (whole (pos n)))
number_item n h = record { stands = λ rest k. decimal_token n rest h k }

-- the parts are these tokens, one by one
abbrev pub AreItems : List (List ℕ) → List PlainToken → Type 0
AreItems [] [] = Unit {0}
AreItems (w ∷ ws) (t ∷ ts) = IsItem w t × AreItems ws ts
AreItems _ _ = ⊥

-- parts, and behind them what says some tokens
pub items_say : (ws : List (List ℕ)) (ts : List PlainToken) (last : List ℕ) (tokens : List PlainToken) → AreItems ws ts → Says last tokens → Says (spaced (ws ++ last ∷ [])) (ts ++ tokens)
items_say [] [] last tokens h s = s
items_say [] (t ∷ ts) last tokens h s = absurd h
items_say (w ∷ ws) [] last tokens h s = absurd h
items_say (w ∷ []) (t ∷ []) last tokens h s = says_token w (32 ∷ last) t (h.0.stands (32 ∷ last) refl) (says_space s)
items_say (w ∷ []) (t ∷ u ∷ ts) last tokens h s = absurd h.1
items_say (w ∷ v ∷ ws) (t ∷ []) last tokens h s = absurd h.1
items_say (w ∷ v ∷ ws) (t ∷ u ∷ ts) last tokens h s =
    let behind = 32 ∷ spaced (v ∷ (ws ++ last ∷ [])) in
    says_token w behind t (h.0.stands behind refl) (says_space (items_say (v ∷ ws) (u ∷ ts) last tokens h.1 s))
