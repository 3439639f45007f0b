use Rattle.std.proofs.Common.{◌≡◌, suc, ◌-◌, ◌<◌, ◌∙◌, ap, sym, subst, arith}
use Rattle.lhg_row.specs.Piece.{PlainPiece}
use Rattle.lhg_row.specs.Width.{AllWide}
use Rattle.lhg_row.specs.Eliminate.{eliminate}
use Rattle.lhg_elim.proofs.LastSteps.{last-step}
use Rattle.lhg_elim.proofs.over_rows.eliminate_later.Goals as goal

pub later-preserved : goal.later-preserved
later-preserved g c =
    let a = g.N.Scalar.arithmetic in
    let n = c.later.n in
    let k = n - 1 in
    let s = c.in_ok-fewer.fewer in
    let k_is : k ≡ n - 1 = omega arith in
    let more : c.args.keep < n = omega arith in
    let w : s.width ≡ k = omega (arith, c.in_ok-fewer.ensures.width) in
    let m : suc k ≡ n = omega arith in
    record {
      left = last-step a c.args.keep n k c.later.left.items k_is more _ c.later.invariant.left k c.into_rows-left.result.items m (c.into_rows-left.ensures.rows ∙ c.in_ok-fewer.ensures.list ∙ ap (λ (rs : PlainPiece). (eliminate a k rs).value) c.deref.ensures.value);
      more = omega arith;
      wide = subst (AllWide k) (sym c.into_rows-left.ensures.rows) (subst (λ j. AllWide j s.lines) w c.into_rows-left.ensures.trimmed.wide);
    }
