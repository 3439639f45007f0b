-- The sample of the rows that have a variable is a point of all rows, where these have a point.
use Rattle.std.proofs.Common.{◌≡◌, ◌+◌, ℕ, zero, suc, true, List, [], ◌∷◌, ◌++◌, take, length, get_or, filter, Option, Some, None, refl, sym, ap, ◌∙◌, arith}
use Rattle.lhg_math.specs.Number.{Number, nought}
use Rattle.lhg_math.specs.Tests.{by_bool}
use Rattle.lhg_num.specs.FracArithmetic.{frac_arithmetic, frac_is_lawful}
use Rattle.lhg_row.specs.Row.{PlainRow, PlainPoint, holds_at}
use Rattle.lhg_row.specs.Piece.{PlainPiece, InPiece}
use Rattle.lhg_row.specs.PieceLemmas.{in_piece_is}
use Rattle.lhg_row.specs.Constant.{is_constant, varies}
use Rattle.lhg_row.specs.ConstantLaws.{constant-holds}
use Rattle.lhg_row.specs.Members.{all-filter, all_split}
use Rattle.lhg_row.specs.MeetLaws.{in_piece-both}
use Rattle.lhg_row.specs.Width.{AllWide}
use Rattle.lhg_row.specs.WidthLaws.{append-wide}
use Rattle.lhg_row.specs.HasValue.{HasPoint}
use Rattle.lhg_row.specs.PieceFacts.{IsMade, IsPointOf}
use Rattle.lhg_row.specs.Pieces.{make}
use Rattle.lhg_row.specs.MakeLaws.{make-exact}
use Rattle.lhg_row.specs.Sample.{sample}
use Rattle.lhg_row.specs.SampleLaws.{sample-in}
use Rattle.lhg_row.specs.PutIn.{put_in_each}
use Rattle.lhg_row.specs.PutInLaws.{put_in-to, put_in-from, put_in-wide}
use Rattle.lhg_loss.specs.Results.{IsResultIn}
use Rattle.lhg_loss.specs.Explanation.{sample_where, sample_of, result_from}

-- a list that holds at one point holds where its rows with a variable do
pub varying_all : (rows : PlainPiece) (z y : PlainPoint) → InPiece rows z → InPiece (filter varies rows) y → InPiece rows y
varying_all [] z y h k = tt
varying_all (r ∷ rows) z y h k =
    by_bool (is_constant r)
    (λ e.
    let rest : InPiece (filter varies rows) y = rw e at k in
    (constant-holds r y e ∙ sym (constant-holds r z e) ∙ h.0, varying_all rows z y h.1 rest))
    (λ e.
    let both : InPiece (r ∷ filter varies rows) y = rw e at k in
    (both.0, varying_all rows z y h.1 both.1))

-- the sample of rows with a point is one of their points
pub sample_of-in : (n : ℕ) (rows : PlainPiece) → AllWide n rows → HasPoint n rows → IsPointOf n rows (sample_of n rows).value
sample_of-in n rows w h =
    let left = filter varies rows in
    go (make frac_arithmetic n left).value (make-exact frac_arithmetic n left frac_is_lawful (all-filter (λ (r : PlainRow). length r.coefs ≡ n) varies rows w))
  where
    go : (o : Option PlainPiece) → IsMade frac_arithmetic n (filter varies rows) o → IsPointOf n rows (sample_where n o).value
    go None m = absurd (m h.point h.wide (all-filter (λ (r : PlainRow). holds_at r h.point ≡ true) varies rows h.holds))
    go (Some piece) m =
        let left = filter varies rows in
        let y = (sample n piece).value in
        let p = sample-in n piece m.poly.wide m.poly.point in
        record { wide = p.wide; inside = varying_all rows h.point y h.holds ((in_piece_is left y).1 (sym (m.points y p.wide) ∙ (in_piece_is piece y).0 p.inside)) }

-- the rows make a piece
pub sample_of-made : (n : ℕ) (rows : PlainPiece) → AllWide n rows → HasPoint n rows → (make frac_arithmetic n (filter varies rows)).value ≡ None → ⊥
sample_of-made n rows w h e =
    none (make frac_arithmetic n (filter varies rows)).value e
    (make-exact frac_arithmetic n (filter varies rows) frac_is_lawful (all-filter (λ (r : PlainRow). length r.coefs ≡ n) varies rows w))
  where
    none : (o : Option PlainPiece) → o ≡ None → IsMade frac_arithmetic n (filter varies rows) o → ⊥
    none None e m = m h.point h.wide (all-filter (λ (r : PlainRow). holds_at r h.point ≡ true) varies rows h.holds)
    none (Some piece) e m = cc

-- numbers and one more are all but the last, and the last
pub last_split : (n : ℕ) (xs : List Number) → length xs ≡ suc n → xs ≡ take n xs ++ get_or xs n nought ∷ []
last_split n [] e = absurd (omega arith)
last_split zero (x ∷ []) e = refl
last_split zero (x ∷ y ∷ xs) e = absurd (omega arith)
last_split (suc n) (x ∷ xs) e = ap (λ ys. x ∷ ys) (last_split n xs (omega arith))

module _ (n : ℕ) (jump : PlainPiece) (x : PlainPoint) (into : PlainPiece) (lx : length x ≡ n) (wj : AllWide (n + n) jump) (wi : AllWide n into) where
  -- the rows of the results
  abbrev pub results : PlainPiece
  results = (put_in_each frac_arithmetic x jump).value ++ into

  pub results-wide : AllWide n results
  results-wide = append-wide n (put_in_each frac_arithmetic x jump).value into (put_in-wide frac_arithmetic x n n jump lx wj) wi

  -- they hold at each result
  pub results-point : (z : PlainPoint) → IsResultIn n jump x into z → HasPoint n results
  results-point z h =
      record { point = z; wide = h.wide; holds = in_piece-both (put_in_each frac_arithmetic x jump).value into z (put_in-to frac_arithmetic x jump z h.jumps) h.inside }

  -- what is found is a result, where there is one
  pub result_from-in : (z : PlainPoint) → IsResultIn n jump x into z → IsResultIn n jump x into (result_from n jump x into).value
  result_from-in z h =
      let left = (put_in_each frac_arithmetic x jump).value in
      let y = (result_from n jump x into).value in
      let p = sample_of-in n results results-wide (results-point z h) in
      let s = all_split (λ (r : PlainRow). holds_at r y ≡ true) left into p.inside in
      record { wide = p.wide; jumps = put_in-from frac_arithmetic x jump y s.0; inside = s.1 }
