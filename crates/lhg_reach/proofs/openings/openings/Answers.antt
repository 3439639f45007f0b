use Rattle.std.proofs.Common.{◌≡◌, ◌++◌, sym, ap, ◌∙◌, subst, false, true, Bool}
use Rattle.lhg_row.specs.Piece.{PlainPiece}
use Rattle.lhg_row.specs.HasValue.{IsEmptiness}
use Rattle.lhg_row.specs.System.{PlainSystem}
use Rattle.lhg_row.specs.Width.{AllWide}
use Rattle.lhg_union.proofs.ListFacts.{all_at}
use Rattle.lhg_reach.specs.Before.{AreBefore, IsOpening}
use Rattle.lhg_reach.proofs.Befores.{opening-is}
use Rattle.lhg_reach.proofs.Pairs.{with_take, with_taken}
use Rattle.lhg_reach.proofs.openings.openings.Goals as goal

pub loop-start-preserved : goal.loop-start-preserved
loop-start-preserved g c =
    let a = g.N.Scalar.arithmetic in
    let into = c.args.into.now in
    let n = into.width in
    let flow = c.args.flow.now in
    let start = c.start-item.result in
    let before = c.in_ok-before.before.items in
    let width : start.width ≡ n = all_at (λ (p : PlainSystem). p.width ≡ n) c.args.near.now c.loop-start.start-index start c.start-item.is c.loop-start-test.true c.requires.near in
    let known : AreBefore n flow into.lines before =
    subst (λ (m : _). AreBefore m flow into.lines before) c.vars.ensures (subst (λ (rs : PlainPiece). AreBefore c.vars.result flow rs before) c.rows.ensures.rows c.in_ok-before.ensures.before) in
    with_take (λ (s : PlainSystem) (b : Bool). IsOpening a n into.lines flow s.lines b) c.args.near.now c.loop-start.start-index start c.start-item.is c.loop-start-test.true c.loop-start.out.items c.push.new.self.items c.in_ok-open.open c.loop-start.invariant c.in_ok-push.ensures.items
    (opening-is a n start into.lines flow before c.in_ok-open.open g.met.N.Scalar.lawful width c.rows.ensures.poly.wide c.requires.flow known
    (λ e. subst (λ (rs : PlainPiece). IsEmptiness start.width (start.lines ++ rs) true) c.deref.ensures.value (c.in_ok-open.ensures.told e)) c.in_ok-open.ensures.wide)

pub returns-clause-told : goal.returns-clause-told
returns-clause-told g c =
    let into = c.args.into.now in
    with_taken (λ (s : PlainSystem) (b : Bool). IsOpening g.N.Scalar.arithmetic into.width into.lines c.args.flow.now s.lines b) c.args.near.now c.loop-start.start-index c.loop-start-test.false c.loop-start.out.items c.loop-start.invariant
