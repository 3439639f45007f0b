-- Which lists of pieces are past their limits?
use Rattle.std.specs.Prelude.{◌≡◌, ◌≤◌, ◌+◌, true, false, nat_lt, List, [], ◌∷◌, ◌++◌, length}
use Rattle.std.proofs.Common.{arith}
use Rattle.std.proofs.lemmas.Bool.{lt-ltb, ltb-true, ltb-false, or_left, or_right, or_cases}
use Rattle.std.proofs.lemmas.List.{length-append}
use Rattle.std.proofs.Common.{sym, ◌∙◌, inl, inr}
use Rattle.lhg_math.specs.Tests.{by_bool, false_true}
use Rattle.lhg_row.specs.Piece.{PlainPiece}
use Rattle.lhg_row.specs.Lists.{piece_limit, list_row_limit, row_count, is_past_list}

-- a list that is not past its limit has no more pieces than it may
pub within-length : (ps : List PlainPiece) → is_past_list ps ≡ false → length ps ≤ piece_limit
within-length ps h =
    by_bool (nat_lt piece_limit (length ps))
    (λ e. false_true (sym h ∙ or_left (nat_lt piece_limit (length ps)) _ e))
    (λ e. let k = ltb-false piece_limit (length ps) e in omega arith)

-- the rows of two lists together
rows-append : (ps qs : List PlainPiece) → row_count (ps ++ qs) ≡ row_count ps + row_count qs
rows-append [] qs = omega arith
rows-append (p ∷ ps) qs = let k = rows-append ps qs in omega arith

-- a list that is past its limits stays so with more pieces
pub past-more : (ps qs : List PlainPiece) → is_past_list ps ≡ true → is_past_list (ps ++ qs) ≡ true
past-more ps qs h =
    elim (or_cases (nat_lt piece_limit (length ps)) (nat_lt list_row_limit (row_count ps)) h) [
      | inl e ↦ (let k = ltb-true piece_limit (length ps) e in or_left (nat_lt piece_limit (length (ps ++ qs))) _ (lt-ltb piece_limit (length (ps ++ qs)) (omega (arith, length-append ps qs))))
      | inr e ↦ (let k = ltb-true list_row_limit (row_count ps) e in or_right (nat_lt piece_limit (length (ps ++ qs))) _ (lt-ltb list_row_limit (row_count (ps ++ qs)) (omega (arith, rows-append ps qs))))
    ]

-- what is not past its limits has no part that is
pub within-part : (ps qs : List PlainPiece) → is_past_list (ps ++ qs) ≡ false → is_past_list ps ≡ false
within-part ps qs h = by_bool (is_past_list ps) (λ e. false_true (sym h ∙ past-more ps qs e)) (λ e. e)
