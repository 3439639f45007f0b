-- What is known of rows is what the calculus tells.
use Rattle.std.proofs.Common.{◌≡◌, ℕ, ◌-◌, ◌≤◌, ◌++◌, length, Bool, true, false, Option, Some, None, refl, sym, ap, ◌∙◌, subst, arith, length-append}
use Rattle.std.specs.Prelude.{IfSome, unwrap_or}
use Rattle.lhg_math.specs.Tests.{every_from_all, all_from_every, false_true}
use Rattle.lhg_num.specs.Arithmetic.{Arithmetic, IsLawful}
use Rattle.lhg_row.specs.Row.{holds_at}
use Rattle.lhg_row.specs.Piece.{PlainPiece, InPiece}
use Rattle.lhg_row.specs.Width.{AllWide}
use Rattle.lhg_row.specs.HasValue.{IsEmptiness}
use Rattle.lhg_row.specs.Trim.{trim}
use Rattle.lhg_row.specs.Eliminate.{is_empty}
use Rattle.lhg_row.specs.Pieces.{are_empty, make, project}
use Rattle.lhg_row.specs.PieceFacts.{IsMade, IsProjection}
use Rattle.lhg_row.specs.EntailLaws.{are_empty-exact}
use Rattle.lhg_row.specs.MakeLaws.{make-exact}
use Rattle.lhg_row.specs.ProjectLaws.{project-exact}
use Rattle.lhg_simplex.specs.Verdict.{IsAnswer}

-- rows have a point or have none
pub same_emptiness : (n : ℕ) (rows : PlainPiece) (b c : Bool) → IsEmptiness n rows b → IsEmptiness n rows c → b ≡ c
same_emptiness n rows true true h k = refl
same_emptiness n rows true false h k = absurd (h k.point k.wide k.holds)
same_emptiness n rows false true h k = absurd (k h.point h.wide h.holds)
same_emptiness n rows false false h k = refl

module _ (a : Arithmetic) (n : ℕ) (rows : PlainPiece) (laws : IsLawful a) (w : AllWide n rows) where
  -- an answer is what the calculus tells
  pub answer-is : (b : Bool) → IsEmptiness n rows b → b ≡ (are_empty a n rows).value
  answer-is b h = same_emptiness n rows b (are_empty a n rows).value h (are_empty-exact a n rows laws w)

  -- and of the trimmed rows too
  pub known-is : (known : Option Bool) → IsAnswer n rows known → (m : ℕ) (rs : PlainPiece) → m ≡ n → rs ≡ (trim a rows).value → IfSome known (λ b. b ≡ (is_empty a m rs).value)
  known-is None h m rs e f = tt
  known-is (Some b) h m rs e f = answer-is b h ∙ sym (ap (λ k. (is_empty a k rs).value) e ∙ ap (λ (q : PlainPiece). (is_empty a n q).value) f)

  -- rows without a point make no piece
  pub none_made : IsEmptiness n rows true → None ≡ (make a n rows).value
  none_made h = on (make a n rows).value (make-exact a n rows laws w)
    where
      on : (o : Option PlainPiece) → IsMade a n rows o → None ≡ o
      on None m = refl
      on (Some piece) m =
          let p = m.poly.point in
          let i : InPiece rows p.point = every_from_all (λ r. holds_at r p.point) rows (sym (m.points p.point p.wide) ∙ all_from_every (λ r. holds_at r p.point) piece p.holds) in
          absurd (h p.point p.wide i)

  -- nor is anything seen of them
  pub none_projected : (kept : ℕ) → kept ≤ n → IsEmptiness n rows true → None ≡ (project a n kept rows).value
  none_projected kept l h = on (project a n kept rows).value (project-exact a n kept rows laws l w)
    where
      on : (o : Option PlainPiece) → IsProjection a kept (n - kept) rows o → None ≡ o
      on None m = refl
      on (Some piece) m =
          let p = m.poly.point in
          let c = (m.points p.point p.wide).0 p.holds in
          let long : length (p.point ++ c.later) ≡ n = length-append p.point c.later ∙ omega (arith, p.wide, c.many) in
          absurd (h (p.point ++ c.later) long c.inside)

-- an answer that there is no point
pub none-known : (n : ℕ) (rows : PlainPiece) (known : Option Bool) → IsAnswer n rows known → unwrap_or known false ≡ true → IsEmptiness n rows true
none-known n rows None h e = false_true e
none-known n rows (Some b) h e = subst (IsEmptiness n rows) e h
