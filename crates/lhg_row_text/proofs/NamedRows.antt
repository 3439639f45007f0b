-- What do names and rows say on a printed line, and how are they read?
use Rattle.std.proofs.Common.{◌≡◌, ℕ, List, [], ◌∷◌, ◌++◌, length, map, refl, subst, true, Some, arith, append-nil, nat_le}
use Rattle.std.proofs.lemmas.Bool.Decides.{nat_tests}
use Rattle.lhg_math.specs.Tests.{AllOf, Every}
use Rattle.lhg_lex.specs.PlainToken.{PlainToken, word}
use Rattle.lhg_lex.specs.Word.{is_word}
use Rattle.lhg_row.specs.Constant.{varies}
use Rattle.lhg_row.specs.Piece.{PlainPiece}
use Rattle.lhg_row.specs.Width.{AllWide}
use Rattle.lhg_plant.specs.Differ.{all_differ}
use Rattle.lhg_plant.specs.Limits.{most_name_bytes}
use Rattle.lhg_plant.specs.Proper.{IsLine}
use Rattle.lhg_plant.specs.Word.{IsName}
use Rattle.lhg_read.specs.Names.{name_of}
use Rattle.lhg_read.specs.Rows.{rows_of}
use Rattle.lhg_read.specs.Term.{width}
use Rattle.lhg_read.specs.declared.forms.Form.{Form}
use Rattle.lhg_row_text.specs.PrintedLine.{spaced}
use Rattle.lhg_row_text.specs.RowText.{rows_text}
use Rattle.lhg_row_text.specs.Short.{AllShort}
use Rattle.lhg_row_text.proofs.LineItems.{AreItems, word_item, items_say}
use Rattle.lhg_row_text.proofs.LineText.{Says, says_end, says_token}
use Rattle.lhg_row_text.proofs.Places.{axes_of, names_of, axes_names, axes_named, axes_placed}
use Rattle.lhg_row_text.proofs.RowReads.{IsRowOf}
use Rattle.lhg_row_text.proofs.RowTokens.{rows_tokens, rows_say}
use Rattle.lhg_row_text.proofs.RowsRead.{rows_read}
use Rattle.lhg_row_text.proofs.TokenKinds.{word_token}

-- ---- words

-- the bytes are a word
pub record IsWord (w : List ℕ) : Type 0 where
  pub word : is_word w ≡ true

-- words with one space between each two say themselves
pub words_say : (ws : List (List ℕ)) (last : List ℕ) (tokens : List PlainToken) → AllOf IsWord ws → Says last tokens → Says (spaced (ws ++ last ∷ [])) (map (λ w. word w) ws ++ tokens)
words_say ws last tokens h s = items_say ws (map (λ w. word w) ws) last tokens (words_are ws h) s
  where
    words_are : (ws : List (List ℕ)) → AllOf IsWord ws → AreItems ws (map (λ w. word w) ws)
    words_are [] h = tt
    words_are (w ∷ ws) h = (word_item w h.0.word, words_are ws h.1)

-- one word says itself
pub word_says : (w : List ℕ) → is_word w ≡ true → Says w (word w ∷ [])
word_says w h = subst (λ bytes. Says bytes (word w ∷ [])) (append-nil w) (says_token w [] (word w) (word_token w [] h refl) says_end)

-- ---- rows

-- rows that a line may give, each with a coefficient that is not zero, with numbers within the limit
pub record AreRows (form : Form) (vars : List (List ℕ)) (rows : PlainPiece) : Type 0 where
  pub line : IsLine (width form vars) rows
  pub vary : Every varies rows
  pub short : AllShort rows

-- each of them is a row over the variables of the form
pub each_row : (form : Form) (vars : List (List ℕ)) (rows : PlainPiece) → AllWide (width form vars) rows → Every varies rows → AllOf (IsRowOf form vars) rows
each_row form vars [] wide vary = tt
each_row form vars (r ∷ rs) wide vary = (record { wide = wide.0; some = vary.0 }, each_row form vars rs wide.1 vary.1)

-- the names of variables are words and differ
pub record AreNames (vars : List (List ℕ)) : Type 0 where
  pub names : AllOf IsName vars
  pub differ : all_differ vars ≡ true

-- the rows say tokens that are read as these rows
pub record AreRead (form : Form) (vars : List (List ℕ)) (rows : PlainPiece) : Type 0 where
  pub tokens : List PlainToken
  pub says : Says (rows_text (names_of form vars) rows) tokens
  pub reads : rows_of form vars tokens ≡ Some rows

-- such rows do
pub rows_are_read : (form : Form) (vars : List (List ℕ)) (rows : PlainPiece) → AreNames vars → AreRows form vars rows → AreRead form vars rows
rows_are_read form vars rows names h = record {
  tokens = rows_tokens (axes_of form vars) rows;
  says = subst (λ ws. Says (rows_text ws rows) (rows_tokens (axes_of form vars) rows)) (axes_names form vars) (rows_say (axes_of form vars) rows (axes_named form vars names.names) h.short);
  reads = rows_read form vars (axes_of form vars) (axes_placed form vars names.differ) rows (each_row form vars rows h.line.wide h.vary) h.line.few;
}

-- a name is read
pub name_read : (w : List ℕ) → IsName w → name_of (word w) ≡ Some w
name_read w h = let f = h.fits in let e : nat_le (length w) most_name_bytes ≡ true = grind (arith, nat_tests) in rw e refl
