use Rattle.std.proofs.Common.{◌≡◌, length, ap, ◌∙◌, subst}
use Rattle.std.specs.Prelude.{option_map}
use Rattle.lhg_num.specs.Halting.{IsHaltedByRows}
use Rattle.lhg_num.proofs.Halted.{rows_exact}
use Rattle.lhg_row.specs.Pieces.{make, meet}
use Rattle.lhg_row.specs.PieceFacts.{IsMeet}
use Rattle.lhg_row.specs.MeetLaws.{meet-exact}
use Rattle.lhg_row.specs.Members.{all_split}
use Rattle.lhg_poly.proofs.meeting.meet.Goals as goal

pub returns-clause-points : goal.returns-clause-points
returns-clause-points g c =
    let a = g.N.Scalar.arithmetic in
    let p = c.args.p.now in
    let q = c.args.q.now in
    let is = ap (λ n. make a n c.in_ok-rows.rows.items) c.vars.ensures ∙ ap (make a p.width) c.in_ok-rows.ensures.rows in
    let wide = all_split (λ r. length r.coefs ≡ p.width) p.lines q.lines c.in_ok-rows.ensures.wide in
    rows_exact c.make.result (meet a p.width p.lines q.lines) (option_map (λ m. m.lines)) (IsMeet a p.width p.lines q.lines)
    (subst (λ m. IsHaltedByRows c.make.result m (option_map (λ t. t.lines))) is c.make.ensures.calculus)
    (meet-exact a p.width p.lines q.lines g.met.N.Scalar.lawful wide.0 wide.1)
