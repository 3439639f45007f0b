-- Why do are_empty and entails tell exactly whether a list has a point, and whether a row holds at each of them?
use Rattle.std.specs.Prelude.{◌≡◌, ℕ, Bool, true, false, not, ◌&&◌, [], ◌∷◌, ◌++◌, length}
use Rattle.std.proofs.Common.{refl, sym, ap, ◌∙◌}
use Rattle.std.proofs.Math.Bool.{and-true}
use Rattle.std.proofs.lemmas.Bool.{and_parts, not-true}
use Rattle.std.proofs.lemmas.List.{length-map}
use Rattle.lhg_math.specs.Number.{neg}
use Rattle.lhg_math.specs.Tests.{by_bool, every_from_all, all_from_every}
use Rattle.lhg_num.specs.Arithmetic.{Arithmetic, IsLawful}
use Rattle.lhg_row.specs.Row.{PlainRow, PlainPoint, holds_at}
use Rattle.lhg_row.specs.Piece.{PlainPiece, in_piece}
use Rattle.lhg_row.specs.Decisions.{clash}
use Rattle.lhg_row.specs.Moves.{negated}
use Rattle.lhg_row.specs.MoveLaws.{negated-holds}
use Rattle.lhg_row.specs.Width.{AllWide}
use Rattle.lhg_row.specs.HasValue.{IsEmptiness}
use Rattle.lhg_row.specs.Trim.{trim}
use Rattle.lhg_row.specs.TrimLaws.{trim-holds}
use Rattle.lhg_row.specs.WidthLaws.{append-wide, trim-wide, trim-tidy}
use Rattle.lhg_row.specs.Eliminate.{is_empty}
use Rattle.lhg_row.specs.EliminateLaws.{in_piece-append}
use Rattle.lhg_row.specs.EmptyLaws.{is_empty-exact}
use Rattle.lhg_row.specs.Pieces.{are_empty, entails}
use Rattle.lhg_row.specs.PieceFacts.{IsEntailment}

-- a list and one row more hold where both do
pub in_piece-more : (rows : PlainPiece) (r : PlainRow) (x : PlainPoint) → in_piece (rows ++ r ∷ []) x ≡ (in_piece rows x && holds_at r x)
in_piece-more rows r x = in_piece-append rows (r ∷ []) x ∙ ap (λ b. in_piece rows x && b) (and-true (holds_at r x))

-- a list and the negation of a row hold where the list does and the row does not
pub in_piece-negated : (rows : PlainPiece) (r : PlainRow) (x : PlainPoint) → in_piece (rows ++ negated r ∷ []) x ≡ (in_piece rows x && not (holds_at r x))
in_piece-negated rows r x = in_piece-more rows (negated r) x ∙ ap (λ b. in_piece rows x && b) (negated-holds r x)

-- a list and one row more have the width of both
pub more-wide : (n : ℕ) (rows : PlainPiece) (r : PlainRow) → AllWide n rows → length r.coefs ≡ n → AllWide n (rows ++ r ∷ [])
more-wide n rows r w e = append-wide n rows (r ∷ []) w (e, tt)

-- the negation of a row has the row's width
pub negated-wide : (n : ℕ) (rows : PlainPiece) (r : PlainRow) → AllWide n rows → length r.coefs ≡ n → AllWide n (rows ++ negated r ∷ [])
negated-wide n rows r w e = more-wide n rows (negated r) w (length-map r.coefs neg ∙ e)

-- are_empty is exact
pub are_empty-exact : (a : Arithmetic) (n : ℕ) (rows : PlainPiece) → IsLawful a → AllWide n rows → IsEmptiness n rows (are_empty a n rows).value
are_empty-exact a n rows laws w =
    up (is_empty a n (trim a rows).value).value (is_empty-exact a n (trim a rows).value laws (trim-wide a n rows laws w) (trim-tidy a rows))
  where
    up : (b : Bool) → IsEmptiness n (trim a rows).value b → IsEmptiness n rows b
    up true h = λ x e k. h x e (every_from_all (λ q. holds_at q x) (trim a rows).value (trim-holds a rows x laws ∙ all_from_every (λ q. holds_at q x) rows k))
    up false h = record {
      point = h.point;
      wide = h.wide;
      holds = every_from_all (λ q. holds_at q h.point) rows (sym (trim-holds a rows h.point laws) ∙ all_from_every (λ q. holds_at q h.point) (trim a rows).value h.holds);
    }

-- entails is exact
pub entails-exact : (a : Arithmetic) (n : ℕ) (rows : PlainPiece) (r : PlainRow) → IsLawful a → AllWide n rows → length r.coefs ≡ n
    → IsEntailment n rows r (entails a n rows r).value
entails-exact a n rows r laws w e = up (entails a n rows r).value (are_empty-exact a n (rows ++ negated r ∷ []) laws (negated-wide n rows r w e))
  where
    up : (b : Bool) → IsEmptiness n (rows ++ negated r ∷ []) b → IsEntailment n rows r b
    up true h = λ x i k.
        by_bool (holds_at r x) (λ g. g)
        (λ g. absurd (h x i (every_from_all (λ q. holds_at q x) (rows ++ negated r ∷ []) (in_piece-negated rows r x ∙ rw (all_from_every (λ q. holds_at q x) rows k, g) refl))))
    up false h =
        let x = h.point in
        let f = and_parts (in_piece rows x) (not (holds_at r x)) (sym (in_piece-negated rows r x) ∙ all_from_every (λ q. holds_at q x) (rows ++ negated r ∷ []) h.holds) in
        record {
          point = x;
          wide = h.wide;
          inside = every_from_all (λ q. holds_at q x) rows f.0;
          fails = λ k. clash (holds_at r x) k (not-true (holds_at r x) f.1);
        }
