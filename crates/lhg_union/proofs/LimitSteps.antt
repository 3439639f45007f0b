-- How many rows have the pieces of a list, and which lists are past their limits?
use Rattle.std.proofs.Common.{◌≡◌, ℕ, ◌+◌, ◌-◌, ◌<◌, ◌≤◌, List, [], ◌∷◌, ◌++◌, length, drop, get_or, true, false, not, refl, sym, ap, ◌∙◌, arith}
use Rattle.std.specs.Prelude.{nat_lt}
use Rattle.std.proofs.lemmas.Bool.{lt-ltb, le-ltb, ltb-true, ltb-false, or_left, or_right}
use Rattle.std.proofs.lemmas.List.{length-append}
use Rattle.lhg_math.specs.Tests.{by_bool}
use Rattle.lhg_math.specs.ListFacts.{drop_cons}
use Rattle.lhg_row.specs.Piece.{PlainPiece}
use Rattle.lhg_row.specs.System.{PlainSystem}
use Rattle.lhg_row.specs.Lists.{piece_limit, list_row_limit, row_count, is_past_list}
use Rattle.lhg_union.specs.PolyLists.{lines_of}

-- ---- counting
module _ (ps : List PlainSystem) (i : ℕ) (p : PlainSystem) (p_is : p ≡ get_or ps i p) (in_ps : i < length ps) (left most rows : ℕ)
    (kept : left + row_count (lines_of ps) ≡ most + row_count (lines_of (drop i ps))) (rows_is : rows ≡ length p.lines) where
  here : row_count (lines_of (drop i ps)) ≡ length p.lines + row_count (lines_of (drop (i + 1) ps))
  here = ap (λ qs. row_count (lines_of qs)) (drop_cons ps i p p_is in_ps)

  -- a piece with more rows than are left
  pub count-stop : left < rows → false ≡ not (nat_lt most (row_count (lines_of ps)))
  count-stop h = let k = here in ap not (sym (lt-ltb most (row_count (lines_of ps)) (omega arith)))

  -- a piece with as many rows or fewer
  pub count-on : rows ≤ left → (left - rows) + row_count (lines_of ps) ≡ most + row_count (lines_of (drop (i + 1) ps))
  count-on h = let k = here in omega arith

-- ---- one piece more
-- the rows of a list with one piece more
rows-more : (ps : List PlainPiece) (p : PlainPiece) → row_count (ps ++ p ∷ []) ≡ row_count ps + length p
rows-more [] p = omega arith
rows-more (q ∷ ps) p = let k = rows-more ps p in omega arith

module _ (ps : List PlainPiece) (p : PlainPiece) where
  longer : length (ps ++ p ∷ []) ≡ length ps + 1
  longer = omega (arith, length-append ps (p ∷ []))

  -- there are as many pieces as there may be
  pub room-full : piece_limit ≤ length ps → false ≡ not (is_past_list (ps ++ p ∷ []))
  room-full h = ap not (sym (or_left (nat_lt piece_limit (length (ps ++ p ∷ []))) _ (lt-ltb piece_limit (length (ps ++ p ∷ [])) (omega (arith, longer)))))

  -- the piece alone has too many rows
  pub room-long : list_row_limit < length p → false ≡ not (is_past_list (ps ++ p ∷ []))
  room-long h = ap not (sym (or_right (nat_lt piece_limit (length (ps ++ p ∷ []))) _ (lt-ltb list_row_limit (row_count (ps ++ p ∷ [])) (omega (arith, rows-more ps p)))))

  -- the rows that are left for the others decide
  pub room-left : length ps < piece_limit → length p ≤ list_row_limit → not (nat_lt (list_row_limit - length p) (row_count ps)) ≡ not (is_past_list (ps ++ p ∷ []))
  room-left h k =
      let few : nat_lt piece_limit (length (ps ++ p ∷ [])) ≡ false = le-ltb piece_limit (length (ps ++ p ∷ [])) (omega (arith, longer)) in
      by_bool (nat_lt (list_row_limit - length p) (row_count ps))
      (λ e.
      let i = ltb-true (list_row_limit - length p) (row_count ps) e in
      let t : nat_lt list_row_limit (row_count (ps ++ p ∷ [])) ≡ true = lt-ltb list_row_limit (row_count (ps ++ p ∷ [])) (omega (arith, rows-more ps p)) in
      let past : is_past_list (ps ++ p ∷ []) ≡ true = rw (few, t) refl in
      ap not e ∙ ap not (sym past))
      (λ e.
      let i = ltb-false (list_row_limit - length p) (row_count ps) e in
      let t : nat_lt list_row_limit (row_count (ps ++ p ∷ [])) ≡ false = le-ltb list_row_limit (row_count (ps ++ p ∷ [])) (omega (arith, rows-more ps p)) in
      let past : is_past_list (ps ++ p ∷ []) ≡ false = rw (few, t) refl in
      ap not e ∙ ap not (sym past))
