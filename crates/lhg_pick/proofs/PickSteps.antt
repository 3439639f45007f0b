-- Steps of the search for the first piece that holds a result.
use Rattle.std.proofs.Common.{◌≡◌, ◌+◌, ◌≤◌, ◌<◌, ℕ, List, [], ◌∷◌, length, drop, get_or, Option, Some, None, subst, arith}
use Rattle.std.proofs.lemmas.List.{drop_all}
use Rattle.lhg_math.specs.Tests.{AllOf}
use Rattle.lhg_num.specs.FracArithmetic.{frac_arithmetic}
use Rattle.lhg_num.specs.Marked.{Marked, valued, IsRest}
use Rattle.lhg_num.specs.MarkedLaws.{IsPart}
use Rattle.lhg_num.specs.PartLaws.{rest_step, step_part}
use Rattle.lhg_math.specs.ListFacts.{drop_cons}
use Rattle.lhg_row.specs.Row.{PlainPoint}
use Rattle.lhg_row.specs.Piece.{PlainPiece}
use Rattle.lhg_row.specs.System.{PlainSystem}
use Rattle.lhg_row.specs.Width.{AllWide}
use Rattle.lhg_row.specs.WidthLaws.{append-wide}
use Rattle.lhg_row.specs.PutIn.{put_in_each}
use Rattle.lhg_row.specs.PutInLaws.{put_in-wide}
use Rattle.lhg_row.specs.Sample.{sample}
use Rattle.lhg_union.specs.PolyLists.{lines_of}
use Rattle.lhg_plant.specs.Pick.{result_rows, results_in, sample_or, first_result}

-- rows over the old and the new variables are no shorter than the point
pub wide_long : (n : ℕ) (x : PlainPoint) (rows : PlainPiece) → length x ≡ n → AllWide (n + n) rows → AllOf (λ r. length x ≤ length r.coefs) rows
wide_long n x [] e w = tt
wide_long n x (r ∷ rows) e w = (let k = w.0 in omega (arith, k, e), wide_long n x rows e w.1)

-- the rows of the results are over the new variables
pub result_rows-wide : (n : ℕ) (x : PlainPoint) (jump piece : PlainPiece) → length x ≡ n → AllWide (n + n) jump → AllWide n piece → AllWide n (result_rows x jump piece).value
result_rows-wide n x jump piece e w k = append-wide n (put_in_each frac_arithmetic x jump).value piece (put_in-wide frac_arithmetic x n n jump e w) k

module _ (n : ℕ) (x : PlainPoint) (jump : PlainPiece) (pieces : List PlainSystem) (i : ℕ) (p : PlainSystem) (p_is : p ≡ get_or pieces i p) (in_list : i < length pieces)
    (whole : Marked (Option PlainPoint)) (r : IsRest whole (first_result n x jump (lines_of (drop i pieces)))) where
  -- what the pieces behind give
  abbrev behind : Marked (Option PlainPoint)
  behind = first_result n x jump (lines_of (drop (i + 1) pieces))

  here : IsRest whole (first_result n x jump (p.lines ∷ lines_of (drop (i + 1) pieces)))
  here = subst (λ (ps : List PlainSystem). IsRest whole (first_result n x jump (lines_of ps))) (drop_cons pieces i p p_is in_list) r

  -- the marks of the results in the piece at hand
  pub results-part : IsPart whole (results_in n x jump p.lines)
  results-part = step_part whole (results_in n x jump p.lines) (sample_or n behind) here

  -- where it holds none, the pieces behind are left
  pub passed-step : None ≡ (results_in n x jump p.lines).value → IsRest whole behind
  passed-step e = rest_step whole (results_in n x jump p.lines) (sample_or n behind) None here e

  -- where it holds some, their sample is left
  pub sampled-step : (rows : PlainPiece) → Some rows ≡ (results_in n x jump p.lines).value → IsRest whole (valued Some (sample n rows))
  sampled-step rows e = rest_step whole (results_in n x jump p.lines) (sample_or n behind) (Some rows) here e

-- at the end there is none
pub none-end : (n : ℕ) (x : PlainPoint) (jump : PlainPiece) (pieces : List PlainSystem) (i : ℕ) (whole : Marked (Option PlainPoint)) → length pieces ≤ i
    → IsRest whole (first_result n x jump (lines_of (drop i pieces))) → None ≡ whole.value
none-end n x jump pieces i whole h r = let e = subst (λ (ps : List PlainSystem). IsRest whole (first_result n x jump (lines_of ps))) (drop_all i pieces h) r in e.same
