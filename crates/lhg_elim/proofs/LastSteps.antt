-- Steps of the loop that eliminates the last variables.
use Rattle.std.proofs.Common.{◌≡◌, ℕ, suc, ◌+◌, ◌-◌, ◌<◌, subst, arith}
use Rattle.lhg_num.specs.Arithmetic.{Arithmetic}
use Rattle.lhg_num.specs.Marked.{Marked, and_then, IsRest}
use Rattle.lhg_num.specs.PartLaws.{rest_step}
use Rattle.lhg_row.specs.Piece.{PlainPiece}
use Rattle.lhg_row.specs.Eliminate.{eliminate, eliminate_last}

module _ (a : Arithmetic) (keep n k : ℕ) (rows : PlainPiece) (k_is : k ≡ n - 1) (more : keep < n) (whole : Marked PlainPiece) (r : IsRest whole (eliminate_last a keep (n - keep) rows)) where
  here : IsRest whole (and_then (eliminate a k rows) (eliminate_last a keep (k - keep)))
  here =
      let many : n - keep ≡ suc (k - keep) = omega arith in
      let last : keep + (k - keep) ≡ k = omega arith in
      subst (λ j. IsRest whole (and_then (eliminate a j rows) (eliminate_last a keep (k - keep)))) last (subst (λ j. IsRest whole (eliminate_last a keep j rows)) many r)

  -- one variable less is left
  pub last-step : (m : ℕ) (left : PlainPiece) → suc m ≡ n → left ≡ (eliminate a k rows).value → IsRest whole (eliminate_last a keep (m - keep) left)
  last-step m left e h =
      let same : k ≡ m = omega arith in
      subst (λ j. IsRest whole (eliminate_last a keep (j - keep) left)) same (rest_step whole (eliminate a k rows) (eliminate_last a keep (k - keep)) left here h)
