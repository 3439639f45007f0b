-- Steps of the search for two weak rows that are an equation.
use Rattle.std.proofs.Common.{◌≡◌, ℕ, zero, suc, ◌+◌, ◌<◌, [], ◌∷◌, length, drop, get_or, cond, Bool, false, Option, Some, sym, subst, arith}
use Rattle.lhg_num.specs.Arithmetic.{Arithmetic}
use Rattle.lhg_num.specs.Marked.{Marked, done, IsRest}
use Rattle.lhg_num.specs.PartLaws.{rest_step}
use Rattle.lhg_math.specs.ListFacts.{drop_cons}
use Rattle.lhg_row.specs.Row.{PlainRow}
use Rattle.lhg_row.specs.Piece.{PlainPiece}
use Rattle.lhg_row.specs.Eliminate.{is_mate, mate_at, row_at}

-- the row that stands at a place
pub row_at-is : (rows : PlainPiece) (i : ℕ) (r : PlainRow) → r ≡ get_or rows i r → i < length rows → row_at rows i ≡ r
row_at-is [] i r e h = absurd (omega arith)
row_at-is (s ∷ rows) zero r e h = sym e
row_at-is (s ∷ rows) (suc i) r e h = row_at-is rows i r e (omega arith)

module _ (a : Arithmetic) (k : ℕ) (rows : PlainPiece) where
  -- a row that is no mate is passed over
  pub mate-passed : (r : PlainRow) (j : ℕ) (s : PlainRow) (whole : Marked (Option ℕ)) → s ≡ get_or rows j s → j < length rows → IsRest whole (mate_at a k r j (drop j rows))
      → (found : Bool) → found ≡ (is_mate a k r s).value → found ≡ false → IsRest whole (mate_at a k r (j + 1) (drop (j + 1) rows))
  mate-passed r j s whole e h rest found is fails =
      let later = mate_at a k r (j + 1) (drop (j + 1) rows) in
      let f = λ (b : Bool). let l = later in cond b (done (Some j)) l in
      subst (λ b. IsRest whole (f b)) fails (rest_step whole (is_mate a k r s) f found (subst (λ ss. IsRest whole (mate_at a k r j ss)) (drop_cons rows j s e h) rest) is)
