-- Why does is_empty tell exactly whether a list has a point?
use Rattle.std.specs.Prelude.{◌≡◌, ℕ, true, false, List, [], ◌∷◌, length, ◌+◌}
use Rattle.std.proofs.Common.{refl, sym, ◌∙◌, arith, subst, inl, inr}
use Rattle.lhg_math.specs.Number.{Number}
use Rattle.lhg_math.specs.Signs.{is_nought, lead}
use Rattle.lhg_math.specs.SignLaws.{is_nought-nought}
use Rattle.lhg_math.specs.Tests.{Every, by_bool, all_from_every, false_true}
use Rattle.lhg_num.specs.Arithmetic.{Arithmetic, IsLawful}
use Rattle.lhg_row.specs.Row.{holds_at}
use Rattle.lhg_row.specs.Piece.{PlainPiece, InPiece}
use Rattle.lhg_row.specs.Constant.{varies, is_nothing}
use Rattle.lhg_row.specs.ConstantLaws.{nothing-fails}
use Rattle.lhg_row.specs.Width.{AllWide, IsTidy}
use Rattle.lhg_row.specs.HasValue.{IsLastElimination, IsEmptiness}
use Rattle.lhg_row.specs.Eliminate.{eliminate_last, is_empty}
use Rattle.lhg_row.specs.LastLaws.{eliminate_last-exact, eliminate_last-wide, eliminate_last-tidy}

-- a row without coefficients leads with 0
no_coefs : (cs : List Number) → length cs ≡ 0 → is_nought (lead cs) ≡ true
no_coefs [] h = is_nought-nought
no_coefs (c ∷ cs) h = absurd (omega arith)

-- a row over no variable has none
no_variables : (rows : PlainPiece) → AllWide 0 rows → Every varies rows → rows ≡ []
no_variables [] w v = refl
no_variables (r ∷ rows) w v = let c = no_coefs r.coefs w.0 in let z : false ≡ true = rw c at v.0 in false_true z

-- a tidy list over no variable is 0 < 0 or has no row
pub tidy_nothing : (rows : PlainPiece) → AllWide 0 rows → IsTidy rows → is_nothing rows ≡ false → rows ≡ []
tidy_nothing rows w (inl f) e = false_true (sym e ∙ f)
tidy_nothing rows w (inr v) e = no_variables rows w v

-- a list has no point exactly where 0 < 0 is left without its variables
pub nothing-empty : (n : ℕ) (rows left : PlainPiece) → AllWide 0 left → IsTidy left → IsLastElimination 0 n rows left → IsEmptiness n rows (is_nothing left)
nothing-empty n rows left w t same =
    by_bool (is_nothing left)
    (λ e. rw e (λ x l i. false_true (sym (nothing-fails left [] e) ∙ all_from_every (λ r. holds_at r []) left ((same [] refl).1 (record { later = x; many = l; inside = i })))))
    (λ e. rw e (let c = (same [] refl).0 (subst (λ (rs : PlainPiece). InPiece rs []) (sym (tidy_nothing left w t e)) tt) in record { point = c.later; wide = c.many; holds = c.inside }))

-- is_empty is exact
pub is_empty-exact : (a : Arithmetic) (n : ℕ) (rows : PlainPiece) → IsLawful a → AllWide n rows → IsTidy rows → IsEmptiness n rows (is_empty a n rows).value
is_empty-exact a n rows laws w t =
    let all : n ≡ 0 + n = omega arith in
    nothing-empty n rows (eliminate_last a 0 n rows).value (eliminate_last-wide a 0 n n rows laws all w) (eliminate_last-tidy a 0 n n rows laws all w t) (λ x l. eliminate_last-exact a 0 n n rows x laws all w l)
