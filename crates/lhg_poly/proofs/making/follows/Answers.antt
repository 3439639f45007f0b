use Rattle.std.proofs.Common.{subst}
use Rattle.std.specs.Prelude.{remove}
use Rattle.lhg_row.specs.Eliminate.{row_at}
use Rattle.lhg_row.specs.RemoveLaws.{remove-wide}
use Rattle.lhg_row.specs.EntailLaws.{negated-wide}
use Rattle.lhg_simplex.specs.Others.{others}
use Rattle.lhg_simplex.specs.Verdict.{IsAnswer}
use Rattle.lhg_poly.proofs.AskSteps.{answer-is}
use Rattle.lhg_poly.proofs.making.follows.Goals as goal

pub returns-in-Some : goal.returns-in-Some
returns-in-Some g c =
    let n = c.args.vars in
    let rows = c.args.rows.now in
    let i = c.args.i in
    let w = remove-wide n i rows c.requires.there c.requires.wide in
    answer-is g.N.Scalar.arithmetic n (others rows i) g.met.N.Scalar.lawful (negated-wide n (remove rows i) (row_at rows i) w.1 w.0) c.in-Some.entailed
    (subst (IsAnswer n (others rows i)) c.in-Some.is c.in_ok-known.ensures.points)
