-- Which rows does a printed list of rows give, however many they are?
use Rattle.std.proofs.Common.{◌≡◌, ℕ, List, [], ◌∷◌, length, refl, ap, subst, if◌then◌else◌, codes}
use Rattle.std.specs.Option.{unwrap_or}
use Rattle.lhg_lex.specs.PlainToken.{PlainToken}
use Rattle.lhg_row.specs.Piece.{PlainPiece}
use Rattle.lhg_read.specs.Cut.{cut, parts_of}
use Rattle.lhg_read.specs.Rows.{constraints_of}
use Rattle.lhg_read.specs.Signs.{is_one_word, is_comma}
use Rattle.lhg_read.specs.declared.forms.Form.TheVariants.{Plain}
use Rattle.lhg_row_text.specs.RowText.{rows_text, leads_negative}
use Rattle.lhg_row_text.proofs.LineText.{Says}
use Rattle.lhg_row_text.proofs.Places.{axes_of, axes_names, axes_named, axes_placed}
use Rattle.lhg_row_text.proofs.NamedRows.{AreNames, each_row}
use Rattle.lhg_row_text.proofs.RowTokens.{rows_tokens, rows_say, next_rows_tokens}
use Rattle.lhg_row_text.proofs.RowsRead.{rows_constraints, no_word_by}
use Rattle.lhg_ctl.specs.Written.{IsWritten}

-- the rows that tokens give, without a limit on how many
abbrev pub rows_back : List (List ℕ) → List PlainToken → PlainPiece
rows_back vars tokens = if is_one_word (codes "all") tokens then [] else unwrap_or (constraints_of Plain vars (parts_of (cut is_comma tokens))) []

-- the tokens of rows
abbrev pub tokens_of_rows : List (List ℕ) → PlainPiece → List PlainToken
tokens_of_rows vars rows = rows_tokens (axes_of Plain vars) rows

-- printed rows say their tokens
pub rows_said : (vars : List (List ℕ)) (rows : PlainPiece) → AreNames vars → IsWritten (length vars) rows → Says (rows_text vars rows) (tokens_of_rows vars rows)
rows_said vars rows names h = subst (λ ws. Says (rows_text ws rows) (tokens_of_rows vars rows)) (axes_names Plain vars) (rows_say (axes_of Plain vars) rows (axes_named Plain vars names.names) h.short)

-- and these give the rows again
pub rows_again : (vars : List (List ℕ)) (rows : PlainPiece) → AreNames vars → IsWritten (length vars) rows → rows_back vars (tokens_of_rows vars rows) ≡ rows
rows_again vars [] names h = refl
rows_again vars (r ∷ rs) names h =
    let axes = axes_of Plain vars in
    let placed = axes_placed Plain vars names.differ in
    let none = no_word_by Plain vars axes placed (codes "all") (leads_negative r) r (next_rows_tokens axes rs) in
    let c = rows_constraints Plain vars axes placed r rs (each_row Plain vars (r ∷ rs) h.wide h.vary) in
    rw none (ap (λ o. unwrap_or o []) c)
