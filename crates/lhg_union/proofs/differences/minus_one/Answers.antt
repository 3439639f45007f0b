use Rattle.std.proofs.Common.{◌++◌, sym, subst}
use Rattle.lhg_num.specs.MarkedLaws.{IsPart}
use Rattle.lhg_num.proofs.Halted.{all_on_pieces}
use Rattle.lhg_row.specs.Piece.{PlainPiece}
use Rattle.lhg_row.specs.Eliminate.{each_joined}
use Rattle.lhg_row.specs.Lists.{counted_pieces, minus_piece, minus_one}
use Rattle.lhg_union.specs.PolyLists.{lines_of}
use Rattle.lhg_union.proofs.ListFacts.{lines_of-append}
use Rattle.lhg_union.proofs.GatherSteps.{counted-part}
use Rattle.lhg_union.proofs.MinusSteps.{reducing-built, reducing-step}
use Rattle.lhg_union.proofs.differences.minus_one.Goals as goal

pub loop-p-preserved : goal.loop-p-preserved
loop-p-preserved g c =
    reducing-step g.N.Scalar.arithmetic c.args.q.now.width c.args.q.now.lines c.args.ps.items c.loop-p.out.items c.loop-p.p-iterator.rest.items c.in-Some.p c.next.new.self.rest.items c.in-Some.ensures.steps.0 c.loop-p.invariant
    c.in_ok-left.left.items c.gather.new.out.items c.in_ok-left.ensures.calculus c.in_ok-left.ensures.vars c.in_ok-gather.ensures.items

pub returns-in_err-gather-clause-calculus : goal.returns-in_err-gather-clause-calculus
returns-in_err-gather-clause-calculus g c =
    let a = g.N.Scalar.arithmetic in
    let q = c.args.q.now in
    let f = λ (r : PlainPiece). minus_piece a q.width r q.lines in
    let left = c.in_ok-left.left.items in
    let built = reducing-built a q.width q.lines c.args.ps.items c.loop-p.out.items c.loop-p.p-iterator.rest.items c.in-Some.p c.next.new.self.rest.items c.in-Some.ensures.steps.0 c.loop-p.invariant (lines_of left) c.in_ok-left.ensures.calculus in
    let part = counted-part (each_joined f (lines_of c.args.ps.items)) (lines_of c.loop-p.out.items ++ lines_of left) (each_joined f (lines_of c.next.new.self.rest.items)) built in
    all_on_pieces c.from_residual-in_err-gather.result c.in_err-gather.field-0.0 _ (λ v. lines_of v.items) _ _ c.from_residual-in_err-gather.ensures.1 c.in_err-gather.ensures.limit
    (subst (λ ps. IsPart (minus_one a q.width (lines_of c.args.ps.items) q.lines) (counted_pieces ps)) (sym (lines_of-append c.loop-p.out.items left)) part)
