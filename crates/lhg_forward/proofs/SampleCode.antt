-- The sample of what earlier pieces leave of the first newest one, as the code holds them.
use Rattle.std.proofs.Common.{◌≡◌, ◌<◌, ℕ, zero, suc, List, [], ◌∷◌, drop, length, get_or, refl, sym, ap, ◌∙◌, subst, arith}
use Rattle.std.proofs.lemmas.List.{length-map}
use Rattle.lhg_math.specs.Tests.{AllOf}
use Rattle.lhg_num.specs.FracArithmetic.{frac_arithmetic}
use Rattle.lhg_num.specs.MarkedLaws.{IsPart}
use Rattle.lhg_row.specs.Row.{PlainPoint}
use Rattle.lhg_row.specs.Piece.{PlainPiece}
use Rattle.lhg_row.specs.PieceFacts.{IsDifference}
use Rattle.lhg_row.specs.Lists.{minus}
use Rattle.lhg_row.specs.Sample.{sample}
use Rattle.lhg_row.specs.System.{PlainSystem}
use Rattle.lhg_plant.specs.State.{PlainState}
use Rattle.lhg_union.specs.PolyLists.{lines_of, AllVars}
use Rattle.lhg_union.proofs.ListFacts.{all_at}
use Rattle.lhg_forward.specs.Growth.{new_state}
use Rattle.lhg_forward.specs.GrowthFacts.{IsNewestOf}
use Rattle.lhg_forward.proofs.Spending.{some_newest, left_some, sample-part, sample-value}

-- a list with a first member
first_of : (xs : List PlainSystem) (x : PlainSystem) → 0 < length xs → x ≡ get_or xs 0 x → xs ≡ x ∷ drop 1 xs
first_of [] x h e = absurd (omega arith)
first_of (y ∷ xs) x h e = ap (λ (z : PlainSystem). z ∷ xs) (sym e)

module _ (n l : ℕ) (earlier newest : List PlainSystem) (x : PlainSystem) (x_is : x ≡ get_or newest 0 x) (h : IsNewestOf n (lines_of earlier) (lines_of newest)) (newest_vars : AllVars n newest) (one : List PlainSystem) (one_is : one ≡ x ∷ []) where
  there : 0 < length newest
  there = let k = some_newest n (lines_of earlier) (lines_of newest) h in omega (arith, k, length-map newest (λ (p : PlainSystem). p.lines))

  -- the first newest piece is over n variables
  pub one_vars : AllVars n one
  one_vars = subst (AllVars n) (sym one_is) (all_at (λ p. p.width ≡ n) newest 0 x x_is there newest_vars, tt)

  rows_are : lines_of newest ≡ x.lines ∷ lines_of (drop 1 newest)
  rows_are = ap lines_of (first_of newest x there x_is)

  module _ (left : List PlainSystem) where
    -- something is left of it
    pub left_there : IsDifference n (lines_of one) (lines_of earlier) (lines_of left) → 0 < length left
    left_there d =
        let k = left_some n (lines_of earlier) (lines_of newest) h x.lines (lines_of (drop 1 newest)) (lines_of left) rows_are
        (subst (λ ps. IsDifference n (lines_of ps) (lines_of earlier) (lines_of left)) one_is d) in
        omega (arith, k, length-map left (λ (p : PlainSystem). p.lines))

    module _ (value : lines_of left ≡ (minus frac_arithmetic n (lines_of one) (lines_of earlier)).value) (left_vars : AllVars n left) (some : 0 < length left) (q : PlainSystem) (q_is : q ≡ get_or left 0 q) where
      width_is : q.width ≡ n
      width_is = all_at (λ p. p.width ≡ n) left 0 q q_is some left_vars

      left_is : q.lines ∷ lines_of (drop 1 left) ≡ (minus frac_arithmetic n (x.lines ∷ []) (lines_of earlier)).value
      left_is = ap lines_of (sym (first_of left q some q_is)) ∙ value ∙ ap (λ ps. (minus frac_arithmetic n (lines_of ps) (lines_of earlier)).value) one_is

      -- the marks of its sample
      pub at_part : IsPart (new_state n l (lines_of earlier) (lines_of newest)) (sample q.width q.lines)
      at_part =
          subst (λ (k : ℕ). IsPart (new_state n l (lines_of earlier) (lines_of newest)) (sample k q.lines)) (sym width_is)
          (subst (λ ps. IsPart (new_state n l (lines_of earlier) ps) (sample n q.lines)) (sym rows_are)
          (sample-part n l (lines_of earlier) x.lines (lines_of (drop 1 newest)) q.lines (lines_of (drop 1 left)) left_is))

      -- and the state
      pub at_value : (at : PlainPoint) → at ≡ (sample q.width q.lines).value → record { loc = l; at = at } ≡ (new_state n l (lines_of earlier) (lines_of newest)).value
      at_value at e =
          sample-value n l (lines_of earlier) x.lines (lines_of (drop 1 newest)) q.lines (lines_of (drop 1 left)) left_is at (e ∙ ap (λ (k : ℕ). (sample k q.lines).value) width_is)
          ∙ ap (λ ps. (new_state n l (lines_of earlier) ps).value) (sym rows_are)
