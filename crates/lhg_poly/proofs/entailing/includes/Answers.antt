use Rattle.std.proofs.Common.{ap, ◌∙◌, subst}
use Rattle.lhg_row.specs.Width.{AllWide}
use Rattle.lhg_row.specs.Pieces.{includes}
use Rattle.lhg_row.specs.PieceFacts.{IsInclusion}
use Rattle.lhg_row.specs.MeetLaws.{includes-exact}
use Rattle.lhg_num.specs.Halting.{IsHaltedByRows}
use Rattle.lhg_num.proofs.Halted.{rows_exact}
use Rattle.lhg_poly.proofs.entailing.includes.Goals as goal

pub returns-clause-points : goal.returns-clause-points
returns-clause-points g c =
    let a = g.N.Scalar.arithmetic in
    let p = c.args.p.now in
    let q = c.args.q.now in
    let is = ap (λ n. includes a n c.rows-2.result.now c.rows.result.now) c.vars.ensures ∙ ap (λ rs. includes a q.width rs c.rows.result.now) c.rows-2.ensures.rows ∙ ap (includes a q.width p.lines) c.rows.ensures.rows in
    rows_exact c.all_entailed.result (includes a q.width p.lines q.lines) (λ b. b) (IsInclusion q.width p.lines q.lines)
    (subst (λ m. IsHaltedByRows c.all_entailed.result m (λ b. b)) is c.all_entailed.ensures)
    (includes-exact a q.width p.lines q.lines g.met.N.Scalar.lawful (subst (λ n. AllWide n p.lines) c.requires c.rows-2.ensures.poly.wide) c.rows.ensures.poly.wide)
