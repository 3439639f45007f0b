-- Rows over the old variables do not name the new ones.
use Rattle.std.proofs.Common.{◌≡◌, ◌≤◌, ◌++◌, ◌∷◌, [], ℕ, List, length, map, refl, sym, ap, ◌∙◌, arith, Bool, codes}
use Rattle.std.proofs.lemmas.List.{length-map}
use Rattle.lhg_math.specs.Number.{Number}
use Rattle.lhg_math.specs.Signs.{is_nought}
use Rattle.lhg_math.specs.Tests.{by_bool}
use Rattle.lhg_row.specs.Piece.{PlainPiece}
use Rattle.lhg_row.specs.Row.{PlainRow}
use Rattle.lhg_row.specs.Width.{AllWide}
use Rattle.lhg_row_text.specs.RowText.{next_term, next_terms, terms_text, term_text, operator_text, number_text, turned, leads_negative, row_text, row_text_by, next_rows, rows_text}
use Rattle.lhg_row_text.proofs.RowTerms.{next_terms-nil}

module _ (more : List (List ℕ)) where
  no_terms : (vs : List (List ℕ)) → terms_text vs [] ≡ []
  no_terms [] = refl
  no_terms (v ∷ vs) = refl

  next_old : (vs : List (List ℕ)) (cs : List Number) → length cs ≤ length vs → next_terms (vs ++ more) cs ≡ next_terms vs cs
  next_old [] [] h = next_terms-nil more
  next_old [] (c ∷ cs) h = absurd (omega arith)
  next_old (v ∷ vs) [] h = refl
  next_old (v ∷ vs) (c ∷ cs) h = ap (λ t. next_term c v ++ t) (next_old vs cs (omega arith))

  terms_old : (vs : List (List ℕ)) (cs : List Number) → length cs ≤ length vs → terms_text (vs ++ more) cs ≡ terms_text vs cs
  terms_old [] [] h = no_terms more
  terms_old [] (c ∷ cs) h = absurd (omega arith)
  terms_old (v ∷ vs) [] h = refl
  terms_old (v ∷ vs) (c ∷ cs) h =
      by_bool (is_nought c)
      (λ e. rw e (terms_old vs cs (omega arith)))
      (λ e. rw e (ap (λ t. term_text c v ++ t) (next_old vs cs (omega arith))))

  row_by : (flip : Bool) (vs : List (List ℕ)) (r : PlainRow) → length r.coefs ≡ length vs → row_text_by flip (vs ++ more) r ≡ row_text_by flip vs r
  row_by flip vs r h =
      let size = length-map r.coefs (turned flip) in
      ap (λ t. t ++ (operator_text flip r.strict ++ number_text (turned flip r.bound))) (terms_old vs (map (turned flip) r.coefs) (omega arith))

  row_old : (vs : List (List ℕ)) (r : PlainRow) → length r.coefs ≡ length vs → row_text (vs ++ more) r ≡ row_text vs r
  row_old vs r h = row_by (leads_negative r) vs r h

  next_rows_old : (vs : List (List ℕ)) (rows : PlainPiece) → AllWide (length vs) rows → next_rows (vs ++ more) rows ≡ next_rows vs rows
  next_rows_old vs [] h = refl
  next_rows_old vs (r ∷ rs) h = ap (λ t. codes ", " ++ (t ++ next_rows (vs ++ more) rs)) (row_old vs r h.0) ∙ ap (λ t. codes ", " ++ (row_text vs r ++ t)) (next_rows_old vs rs h.1)

  -- a list of rows over the first names is printed as if there were no others
  pub rows_text-old : (vs : List (List ℕ)) (rows : PlainPiece) → AllWide (length vs) rows → rows_text vs rows ≡ rows_text (vs ++ more) rows
  rows_text-old vs rows h = sym (rows_old vs rows h)
    where
      rows_old : (vs : List (List ℕ)) (rows : PlainPiece) → AllWide (length vs) rows → rows_text (vs ++ more) rows ≡ rows_text vs rows
      rows_old vs [] h = refl
      rows_old vs (r ∷ rs) h = ap (λ t. t ++ next_rows (vs ++ more) rs) (row_old vs r h.0) ∙ ap (λ t. row_text vs r ++ t) (next_rows_old vs rs h.1)
