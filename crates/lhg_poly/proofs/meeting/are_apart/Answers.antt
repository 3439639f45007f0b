use Rattle.std.proofs.Common.{◌≡◌, true, ◌++◌, sym, ap, ◌∙◌, subst, rules}
use Rattle.lhg_num.specs.Halting.{IsHaltedByRows}
use Rattle.lhg_num.proofs.Halted.{rows_exact}
use Rattle.lhg_row.specs.Piece.{PlainPiece}
use Rattle.lhg_row.specs.Width.{AllWide}
use Rattle.lhg_row.specs.WidthLaws.{append-wide}
use Rattle.lhg_row.specs.Members.{SomeOf}
use Rattle.lhg_row.specs.HasValue.{IsEmptiness}
use Rattle.lhg_row.specs.Pieces.{are_empty}
use Rattle.lhg_row.specs.EntailLaws.{are_empty-exact}
use Rattle.lhg_poly.specs.Clash.{IsClash}
use Rattle.lhg_poly.proofs.AskSteps.{answer-is}
use Rattle.lhg_poly.proofs.ClashSteps.{clash_empty}
use Rattle.lhg_poly.proofs.meeting.are_apart.Goals as goal

pub returns-then-clash-clause-calculus : goal.returns-then-clash-clause-calculus
returns-then-clash-clause-calculus g c =
    let p = c.args.p.now in
    let q = c.args.q.now in
    let some : SomeOf (λ r. SomeOf (IsClash r) q.lines) p.lines =
    subst (λ (ss : PlainPiece). SomeOf (λ r. SomeOf (IsClash r) ss) p.lines) c.rows-2.ensures.rows
    (subst (λ (rs : PlainPiece). SomeOf (λ r. SomeOf (IsClash r) c.rows-2.result.now) rs) c.rows.ensures.rows (c.clash.ensures (search rules))) in
    let wide : AllWide p.width (p.lines ++ q.lines) = append-wide p.width p.lines q.lines c.rows.ensures.poly.wide (subst (λ n. AllWide n q.lines) (sym c.requires) c.rows-2.ensures.poly.wide) in
    answer-is g.N.Scalar.arithmetic p.width (p.lines ++ q.lines) g.met.N.Scalar.lawful wide true (clash_empty p.width p.lines q.lines some)

pub returns-then-clash-clause-points : goal.returns-then-clash-clause-points
returns-then-clash-clause-points g c =
    let p = c.args.p.now in
    let q = c.args.q.now in
    let some : SomeOf (λ r. SomeOf (IsClash r) q.lines) p.lines =
    subst (λ (ss : PlainPiece). SomeOf (λ r. SomeOf (IsClash r) ss) p.lines) c.rows-2.ensures.rows
    (subst (λ (rs : PlainPiece). SomeOf (λ r. SomeOf (IsClash r) c.rows-2.result.now) rs) c.rows.ensures.rows (c.clash.ensures (search rules))) in
    clash_empty p.width p.lines q.lines some

pub returns-clause-points : goal.returns-clause-points
returns-clause-points g c =
    let a = g.N.Scalar.arithmetic in
    let p = c.args.p.now in
    let both = p.lines ++ c.args.q.now.lines in
    let is = ap (λ n. are_empty a n c.in_ok-rows.rows.items) c.vars.ensures ∙ ap (are_empty a p.width) c.in_ok-rows.ensures.rows in
    rows_exact c.have_no_point.result (are_empty a p.width both) (λ b. b) (IsEmptiness p.width both)
    (subst (λ m. IsHaltedByRows c.have_no_point.result m (λ b. b)) is c.have_no_point.ensures)
    (are_empty-exact a p.width both g.met.N.Scalar.lawful c.in_ok-rows.ensures.wide)
