-- Which rows do the tokens of a printed list of rows give?
use Rattle.std.proofs.Common.{◌≡◌, ◌≤◌, ℕ, List, [], ◌∷◌, ◌++◌, length, map, refl, ap, ◌∙◌, Bool, true, false, not, Some, arith, append_assoc, codes, nat_le}
use Rattle.std.specs.Option.{option_and_then}
use Rattle.std.proofs.lemmas.Bool.Decides.{nat_tests}
use Rattle.std.proofs.lemmas.List.Folds.{list_all-append}
use Rattle.std.proofs.Math.Bool.{and-false}
use Rattle.lhg_lex.specs.PlainToken.{PlainToken, sign}
use Rattle.lhg_math.specs.Tests.{AllOf}
use Rattle.lhg_row.specs.Piece.{PlainPiece}
use Rattle.lhg_row.specs.Row.{PlainRow}
use Rattle.lhg_plant.specs.Limits.{most_line_rows}
use Rattle.lhg_read.specs.Cut.{cut, parts_of}
use Rattle.lhg_read.specs.Rows.{is_flow, constraints_of, within_limit, list_of, rows_of}
use Rattle.lhg_read.specs.Signs.{is_one_word, is_comma}
use Rattle.lhg_read.specs.declared.forms.Form.{Form}
use Rattle.lhg_row_text.specs.RowText.{turned, leads_negative}
use Rattle.lhg_row_text.proofs.Cutting.{all_fail, parted, cut-before, cut-marked}
use Rattle.lhg_row_text.proofs.RowReads.{IsRowOf, AreAxes, constraint_reads, no_one_word, operator_no_word}
use Rattle.lhg_row_text.proofs.RowTokens.{Axis, terms_tokens, operator_token, number_tokens, row_tokens_by, row_tokens, next_rows_tokens, rows_tokens}
use Rattle.lhg_row_text.proofs.SumReads.{SparesSums, terms_spared, number_spared}

-- ---- commas stand between rows alone

no_comma : SparesSums is_comma
no_comma = record { terms = record { word = λ w. refl; number = λ q. refl; prime = refl; times = refl }; plus = refl; minus = refl }

operator_no_comma : (flip strict : Bool) → is_comma (operator_token flip strict) ≡ false
operator_no_comma true true = refl
operator_no_comma true false = refl
operator_no_comma false true = refl
operator_no_comma false false = refl

row_spared : (flip : Bool) (axes : List Axis) (r : PlainRow) → all_fail is_comma (row_tokens_by flip axes r) ≡ true
row_spared flip axes r =
    let terms = terms_tokens axes (map (turned flip) r.coefs) in
    let number = number_tokens (turned flip r.bound) in
    let t = terms_spared is_comma axes (map (turned flip) r.coefs) no_comma in
    let o = operator_no_comma flip r.strict in
    let n = number_spared is_comma (turned flip r.bound) no_comma in
    list_all-append (λ x. not (is_comma x)) terms (operator_token flip r.strict ∷ number) ∙ rw (t, o, n) refl

-- the rows behind the first, each behind its comma
abbrev next_parts : List Axis → PlainPiece → List (PlainToken × List PlainToken)
next_parts axes [] = []
next_parts axes (r ∷ rs) = (sign 44, row_tokens axes r) ∷ next_parts axes rs

next_cut : (axes : List Axis) (rows : PlainPiece) → cut is_comma (next_rows_tokens axes rows) ≡ parted [] (next_parts axes rows)
next_cut axes [] = refl
next_cut axes (r ∷ rs) = cut-marked is_comma (sign 44) (row_tokens axes r) (next_rows_tokens axes rs) (next_parts axes rs) refl (row_spared (leads_negative r) axes r) (next_cut axes rs)

-- ---- the rows

module _ (form : Form) (vars : List (List ℕ)) (axes : List Axis) (placed : AreAxes form vars axes) where
  next_read : (rows : PlainPiece) → AllOf (IsRowOf form vars) rows → constraints_of form vars (map (λ p. p.1) (next_parts axes rows)) ≡ Some rows
  next_read [] h = refl
  next_read (r ∷ rs) h = let c = constraint_reads form vars axes placed r h.0 in let m = next_read rs h.1 in rw (c, m) refl

  few : (rows : PlainPiece) → length rows ≤ most_line_rows → within_limit rows ≡ Some rows
  few rows h = let e : nat_le (length rows) most_line_rows ≡ true = grind (arith, nat_tests) in rw e refl

  -- the tokens of rows are constraints that give these rows, however many they are
  pub rows_constraints : (r : PlainRow) (rs : PlainPiece) → AllOf (IsRowOf form vars) (r ∷ rs) → constraints_of form vars (parts_of (cut is_comma (row_tokens axes r ++ next_rows_tokens axes rs))) ≡ Some (r ∷ rs)
  rows_constraints r rs h =
      let c = constraint_reads form vars axes placed r h.0 in
      let m = next_read rs h.1 in
      ap (λ k. constraints_of form vars (parts_of k)) (cut-before is_comma (row_tokens axes r) (next_rows_tokens axes rs) (next_parts axes rs) (row_spared (leads_negative r) axes r) (next_cut axes rs)) ∙ rw (c, m) refl

  list_read : (r : PlainRow) (rs : PlainPiece) → AllOf (IsRowOf form vars) (r ∷ rs) → length (r ∷ rs) ≤ most_line_rows → list_of form vars (row_tokens axes r ++ next_rows_tokens axes rs) ≡ Some (r ∷ rs)
  list_read r rs h few_rows = ap (option_and_then within_limit) (rows_constraints r rs h) ∙ few (r ∷ rs) few_rows

  -- the tokens of one row or more are not one word
  pub no_word_by : (w : List ℕ) (flip : Bool) (r : PlainRow) (more : List PlainToken) → is_one_word w (row_tokens_by flip axes r ++ more) ≡ false
  no_word_by w flip r more =
      let terms = terms_tokens axes (map (turned flip) r.coefs) in
      let number = number_tokens (turned flip r.bound) in
      let o = operator_token flip r.strict in
      ap (is_one_word w) (append_assoc terms (o ∷ number) more) ∙ no_one_word w terms o (number ++ more) (operator_no_word w flip r.strict)

  -- the tokens of a printed list of rows are read as these rows
  pub rows_read : (rows : PlainPiece) → AllOf (IsRowOf form vars) rows → length rows ≤ most_line_rows → rows_of form vars (rows_tokens axes rows) ≡ Some rows
  unfolding rows_of
  rows_read [] h few_rows = refl
  rows_read (r ∷ rs) h few_rows =
      let all = no_word_by (codes "all") (leads_negative r) r (next_rows_tokens axes rs) in
      let still = no_word_by (codes "still") (leads_negative r) r (next_rows_tokens axes rs) in
      rw (all, still, and-false (is_flow form)) (list_read r rs h few_rows)
