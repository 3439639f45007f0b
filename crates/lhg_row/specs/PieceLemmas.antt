-- Whether a point is in a piece, or in one of some pieces, is decidable; a point of a piece is one of its closure.
use Rattle.std.specs.Prelude.{◌≡◌, Bool, true, false, not, cond, ◌⊎◌, ◌↔◌, List, [], ◌∷◌}
use Rattle.std.proofs.Common.{inl, inr, ap}
use Rattle.std.proofs.lemmas.Bool.{or_left, or_right, or_cases}
use Rattle.lhg_math.specs.Tests.{every_from_all, all_from_every, by_bool, false_true}
use Rattle.lhg_math.specs.Number.{Number, lt}
use Rattle.lhg_math.specs.NumberOrder.{lt_asym}
use Rattle.lhg_row.specs.Row.{value_at, PlainRow, PlainPoint, Holds, holds_at, relaxed}
use Rattle.lhg_row.specs.Piece.{PlainPiece, InPiece, in_piece, InClosure, InSome, in_some}

-- a row holds at a point or does not
pub row_decided : (r : PlainRow) (p : PlainPoint) → Holds r p ⊎ ¬ Holds r p
row_decided r p = by_bool (holds_at r p) (λ e. inl e) (λ e. inr (λ h. let t : holds_at r p ≡ true = h in cc))

-- the fact and the test say the same of a piece
pub in_piece_is : (rows : PlainPiece) (p : PlainPoint) → InPiece rows p ↔ (in_piece rows p ≡ true)
in_piece_is rows p = (all_from_every (λ r. holds_at r p) rows, every_from_all (λ r. holds_at r p) rows)

-- the fact gives the test
some_test : (pieces : List PlainPiece) (p : PlainPoint) → InSome pieces p → in_some pieces p ≡ true
some_test [] p h = absurd h
some_test (piece ∷ pieces) p (inl h) = or_left _ _ ((in_piece_is piece p).0 h)
some_test (piece ∷ pieces) p (inr h) = or_right _ _ (some_test pieces p h)

-- the test gives the fact
test_some : (pieces : List PlainPiece) (p : PlainPoint) → in_some pieces p ≡ true → InSome pieces p
test_some [] p h = false_true h
test_some (piece ∷ pieces) p h = elim (or_cases _ _ h) [ inl e ↦ inl ((in_piece_is piece p).1 e) | inr e ↦ inr (test_some pieces p e) ]

-- the fact and the test say the same of a list of pieces
pub in_some_is : (pieces : List PlainPiece) (p : PlainPoint) → InSome pieces p ↔ (in_some pieces p ≡ true)
in_some_is pieces p = (some_test pieces p, test_some pieces p)

-- whether a point is in a piece, or in some piece, is decidable
pub piece_decided : (rows : PlainPiece) (p : PlainPoint) → InPiece rows p ⊎ ¬ InPiece rows p
piece_decided rows p =
    by_bool (in_piece rows p) (λ e. inl ((in_piece_is rows p).1 e)) (λ e. inr (λ h. let t : in_piece rows p ≡ true = (in_piece_is rows p).0 h in cc))

-- the same of a list of pieces
pub some_decided : (pieces : List PlainPiece) (p : PlainPoint) → InSome pieces p ⊎ ¬ InSome pieces p
some_decided pieces p =
    by_bool (in_some pieces p) (λ e. inl ((in_some_is pieces p).1 e)) (λ e. inr (λ h. let t : in_some pieces p ≡ true = (in_some_is pieces p).0 h in cc))

-- a row that holds also holds when it is made weak
pub holds_relaxed : (r : PlainRow) (p : PlainPoint) → holds_at r p ≡ true → holds_at (relaxed r) p ≡ true
holds_relaxed r p h = weaker r.strict (value_at r p) r.bound h
  where
    weaker : (s : Bool) (v b : Number) → cond s (lt v b) (not (lt b v)) ≡ true → not (lt b v) ≡ true
    weaker true v b h = ap not (lt_asym v b h)
    weaker false v b h = h

-- a point of a piece is one of its closure
pub piece_closure : (rows : PlainPiece) (p : PlainPoint) → InPiece rows p → InClosure rows p
piece_closure [] p h = tt
piece_closure (r ∷ rows) p h = (holds_relaxed r p h.0, piece_closure rows p h.1)
