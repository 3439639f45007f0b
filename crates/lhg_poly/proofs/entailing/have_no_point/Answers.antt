use Rattle.std.proofs.Common.{subst}
use Rattle.lhg_simplex.specs.Verdict.{IsAnswer}
use Rattle.lhg_poly.proofs.AskSteps.{answer-is}
use Rattle.lhg_poly.proofs.entailing.have_no_point.Goals as goal

pub returns-in-Some : goal.returns-in-Some
returns-in-Some g c =
    let n = c.args.vars in
    let rows = c.args.rows.items in
    answer-is g.N.Scalar.arithmetic n rows g.met.N.Scalar.lawful c.requires c.in-Some.none (subst (λ o. IsAnswer n rows o) c.in-Some.is (subst (λ rs. IsAnswer n rs c.in_ok-known.known) c.deref.ensures.value c.in_ok-known.ensures.points))
