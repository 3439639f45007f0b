use Rattle.std.proofs.Common.{◌≡◌, map, None, Some, sym, ap, ◌∙◌, subst}
use Rattle.std.specs.Prelude.{option_map}
use Rattle.lhg_row.specs.System.{PlainSystem}
use Rattle.lhg_row.specs.Width.{AllWide}
use Rattle.lhg_row.specs.Row.{relaxed}
use Rattle.lhg_row.specs.Pieces.{make, closure}
use Rattle.lhg_row.specs.PieceFacts.{IsClosure}
use Rattle.lhg_row.specs.MeetLaws.{relaxed-wide, closure-exact}
use Rattle.lhg_poly.proofs.meeting.closure.Goals as goal

pub make-requires : goal.make-requires
make-requires g c =
    let p = c.args.p.now in
    let wide = relaxed-wide p.width p.lines c.rows.ensures.poly.wide in
    let rows = c.in_ok-rows.ensures ∙ ap (map relaxed) c.rows.ensures.rows in
    subst (λ n. AllWide n c.in_ok-rows.rows.items) (sym c.vars.ensures) (subst (AllWide p.width) (sym rows) wide)

pub unreachable-requires : goal.unreachable-requires
unreachable-requires g c =
    let a = g.N.Scalar.arithmetic in
    let p = c.args.p.now in
    let rows = c.in_ok-rows.ensures ∙ ap (map relaxed) c.rows.ensures.rows in
    let is = ap (λ n. (make a n c.in_ok-rows.rows.items).value) c.vars.ensures ∙ ap (λ rs. (make a p.width rs).value) rows in
    let none : None ≡ (closure a p.width p.lines).value = sym (ap (option_map (λ (s : PlainSystem). s.lines)) c.in-None.is) ∙ c.in_ok-piece.ensures.calculus ∙ is in
    subst (IsClosure a p.width p.lines) (sym none) (closure-exact a p.width p.lines g.met.N.Scalar.lawful c.rows.ensures.poly.wide c.rows.ensures.poly.point)

pub returns-clause-points : goal.returns-clause-points
returns-clause-points g c =
    let a = g.N.Scalar.arithmetic in
    let p = c.args.p.now in
    let rows = c.in_ok-rows.ensures ∙ ap (map relaxed) c.rows.ensures.rows in
    let is = ap (λ n. (make a n c.in_ok-rows.rows.items).value) c.vars.ensures ∙ ap (λ rs. (make a p.width rs).value) rows in
    let some : Some c.in-Some.piece.lines ≡ (closure a p.width p.lines).value = sym (ap (option_map (λ (s : PlainSystem). s.lines)) c.in-Some.is) ∙ c.in_ok-piece.ensures.calculus ∙ is in
    subst (IsClosure a p.width p.lines) (sym some) (closure-exact a p.width p.lines g.met.N.Scalar.lawful c.rows.ensures.poly.wide c.rows.ensures.poly.point)
