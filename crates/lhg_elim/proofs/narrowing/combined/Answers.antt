use Rattle.std.proofs.Common.{◌≡◌, ◌<◌, length, ap, refl, sym, subst, ◌∙◌}
use Rattle.lhg_row.specs.Row.{PlainRow}
use Rattle.lhg_row.specs.WidthLaws.{comb-wide}
use Rattle.lhg_elim.proofs.narrowing.combined.Goals as goal

pub narrowed-requires : goal.narrowed-requires
narrowed-requires g c =
    let r = c.args.r.now in
    let s = c.args.s.now in
    let wide : length c.in_ok-row.row.coefs ≡ length r.coefs =
    ap (λ (q : PlainRow). length q.coefs) c.in_ok-row.ensures.row ∙ comb-wide g.N.Scalar.arithmetic c.args.k (length r.coefs) r s refl (sym c.requires.same) in
    subst (λ n. c.args.k < n) (sym wide) c.requires.there
