-- Why are the last variables of a list eliminated exactly?
use Rattle.std.specs.Prelude.{◌≡◌, ◌↔◌, ℕ, zero, suc, ◌+◌, [], ◌∷◌, ◌++◌, length, insert}
use Rattle.std.proofs.Common.{refl, sym, ap, ◌∙◌, arith, subst, append-nil}
use Rattle.lhg_num.specs.Arithmetic.{Arithmetic, IsLawful}
use Rattle.lhg_row.specs.Row.{PlainPoint}
use Rattle.lhg_row.specs.Piece.{PlainPiece, InPiece}
use Rattle.lhg_row.specs.Width.{AllWide, IsTidy}
use Rattle.lhg_row.specs.HasValue.{Completes}
use Rattle.lhg_row.specs.Eliminate.{eliminate, eliminate_last}
use Rattle.lhg_row.specs.EliminateLaws.{eliminate-exact}
use Rattle.lhg_row.specs.WidthLaws.{eliminate-wide, eliminate-tidy}
use Rattle.lhg_row.specs.Ends.{last_of, joined-length, insert-joined, insert-last, longer, none_left}

-- the last variables are eliminated exactly
pub eliminate_last-exact : (a : Arithmetic) (kept count n : ℕ) (rows : PlainPiece) (x : PlainPoint) → IsLawful a → n ≡ kept + count → AllWide n rows → length x ≡ kept
    → InPiece (eliminate_last a kept count rows).value x ↔ Completes count rows x
eliminate_last-exact a kept zero n rows x laws e w l = (
  λ h. record { later = []; many = refl; inside = subst (InPiece rows) (sym (append-nil x)) h },
  λ c. subst (InPiece rows) (ap (λ z. x ++ z) (none_left c.later c.many) ∙ append-nil x) c.inside,
)
eliminate_last-exact a kept (suc count) n rows x laws e w l =
    let k = kept + count in
    let n_is : n ≡ suc k = omega (arith, e) in
    let rs = (eliminate a k rows).value in
    let wide : AllWide k rs = eliminate-wide a k k rows laws (omega arith) (subst (λ m. AllWide m rows) n_is w) in
    let on = eliminate_last-exact a kept count k rs x laws refl wide l in (
      λ h.
          let c = on.0 h in
          let q = x ++ c.later in
          let lq : length q ≡ k = joined-length kept count x c.later l c.many in
          let v = (eliminate-exact a k n rows q laws (omega (arith, n_is)) (omega (arith, n_is, lq)) w).0 c.inside in
          let at : insert q k v.value ≡ x ++ (c.later ++ v.value ∷ []) = insert-joined kept count v.value x c.later l c.many in
          record {
            later = c.later ++ v.value ∷ [];
            many = longer count v.value c.later c.many;
            inside = subst (InPiece rows) at v.holds;
          },
      λ c.
          let s = last_of count c.later c.many in
          let q = x ++ s.front in
          let lq : length q ≡ k = joined-length kept count x s.front l s.many in
          let at : insert q k s.last ≡ x ++ c.later = insert-last kept count x c.later s l in
          let f = (eliminate-exact a k n rows q laws (omega (arith, n_is)) (omega (arith, n_is, lq)) w).1 (record { value = s.last; holds = subst (InPiece rows) (sym at) c.inside }) in
          on.1 (record { later = s.front; many = s.many; inside = f }),
    )

-- and the width falls with them
pub eliminate_last-wide : (a : Arithmetic) (kept count n : ℕ) (rows : PlainPiece) → IsLawful a → n ≡ kept + count → AllWide n rows → AllWide kept (eliminate_last a kept count rows).value
eliminate_last-wide a kept zero n rows laws e w = let f : n ≡ kept = omega (arith, e) in subst (λ m. AllWide m rows) f w
eliminate_last-wide a kept (suc count) n rows laws e w =
    let k = kept + count in
    let n_is : n ≡ suc k = omega (arith, e) in
    eliminate_last-wide a kept count k (eliminate a k rows).value laws refl (eliminate-wide a k k rows laws (omega arith) (subst (λ m. AllWide m rows) n_is w))

-- a tidy list stays tidy
pub eliminate_last-tidy : (a : Arithmetic) (kept count n : ℕ) (rows : PlainPiece) → IsLawful a → n ≡ kept + count → AllWide n rows → IsTidy rows → IsTidy (eliminate_last a kept count rows).value
eliminate_last-tidy a kept zero n rows laws e w t = t
eliminate_last-tidy a kept (suc count) n rows laws e w t =
    let k = kept + count in
    let n_is : n ≡ suc k = omega (arith, e) in
    let v = subst (λ m. AllWide m rows) n_is w in
    eliminate_last-tidy a kept count k (eliminate a k rows).value laws refl (eliminate-wide a k k rows laws (omega arith) v) (eliminate-tidy a k k rows (omega arith) v)
