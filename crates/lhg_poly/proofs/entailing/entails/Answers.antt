use Rattle.std.proofs.Common.{ap, ◌∙◌, subst}
use Rattle.lhg_num.specs.Halting.{IsHaltedByRows}
use Rattle.lhg_num.proofs.Halted.{rows_exact}
use Rattle.lhg_row.specs.Pieces.{entails}
use Rattle.lhg_row.specs.PieceFacts.{IsEntailment}
use Rattle.lhg_row.specs.EntailLaws.{entails-exact}
use Rattle.lhg_poly.proofs.entailing.entails.Goals as goal

pub returns-clause-points : goal.returns-clause-points
returns-clause-points g c =
    let a = g.N.Scalar.arithmetic in
    let p = c.args.p.now in
    let r = c.args.row.now in
    let is = ap (λ n. entails a n c.rows.result.now r) c.vars.ensures ∙ ap (λ rs. entails a p.width rs r) c.rows.ensures.rows in
    rows_exact c.entailed.result (entails a p.width p.lines r) (λ b. b) (IsEntailment p.width p.lines r)
    (subst (λ m. IsHaltedByRows c.entailed.result m (λ b. b)) is c.entailed.ensures)
    (entails-exact a p.width p.lines r g.met.N.Scalar.lawful c.rows.ensures.poly.wide c.requires)
