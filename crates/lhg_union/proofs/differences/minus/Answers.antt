use Rattle.std.proofs.Common.{sym, subst}
use Rattle.lhg_num.proofs.Halted.{part_halts}
use Rattle.lhg_row.specs.PieceFacts.{IsPoly, AllPolys, IsDifference}
use Rattle.lhg_row.specs.MinusLaws.{minus-exact}
use Rattle.lhg_row.specs.CoveredLaws.{minus-polys, polys-over}
use Rattle.lhg_union.specs.PolyLists.{lines_of, AllVars}
use Rattle.lhg_union.proofs.ListFacts.{all_take, all_taken, polys_over, polys_back}
use Rattle.lhg_union.proofs.MinusSteps.{walking-start, walking-part, walking-step, walking-end, walking-width}
use Rattle.lhg_union.proofs.differences.minus.Goals as goal

pub loop-q-init : goal.loop-q-init
loop-q-init g c = record {
  walking = λ n v w. walking-start g.N.Scalar.arithmetic n c.args.ps.now c.args.qs.now c.in_ok-left.left.items c.in_ok-left.ensures.copies v;
  first = c.in_ok-left.ensures.polys;
  second = tt;
}

pub minus_one-requires : goal.minus_one-requires
minus_one-requires g c =
    let n = c.requires.vars in
    let w = c.loop-q.invariant.walking n c.requires.first c.requires.second in
    subst (λ m. AllVars m c.loop-q.left.items)
    (sym (walking-width g.N.Scalar.arithmetic n c.args.ps.now c.args.qs.now c.loop-q.left.items c.loop-q.q-index c.q-item.result c.q-item.is c.loop-q-test.true c.requires.second w)) w.vars

pub returns-in_err-left-2-clause-calculus : goal.returns-in_err-left-2-clause-calculus
returns-in_err-left-2-clause-calculus g c = λ n v w.
    part_halts c.from_residual-in_err-left-2.result c.in_err-left-2.field-0.0 _ (λ t. lines_of t.items) _ (λ t. lines_of t.items) c.from_residual-in_err-left-2.ensures.1 c.in_err-left-2.ensures.calculus
    (walking-part g.N.Scalar.arithmetic n c.args.ps.now c.args.qs.now c.loop-q.left.items c.loop-q.q-index c.q-item.result c.q-item.is c.loop-q-test.true w (c.loop-q.invariant.walking n v w))

pub loop-q-preserved : goal.loop-q-preserved
loop-q-preserved g c = record {
  walking = λ n v w. walking-step g.N.Scalar.arithmetic n c.args.ps.now c.args.qs.now c.loop-q.left.items c.loop-q.q-index c.q-item.result c.q-item.is c.loop-q-test.true w (c.loop-q.invariant.walking n v w)
      c.in_ok-left-2.left.items c.in_ok-left-2.ensures.calculus c.in_ok-left-2.ensures.vars;
  first = c.loop-q.invariant.first;
  second = all_take (λ p. IsPoly g.N.Scalar.arithmetic p.width p.lines) c.args.qs.now c.loop-q.q-index c.q-item.result c.q-item.is c.loop-q-test.true c.loop-q.invariant.second c.in_ok-left-2.ensures.poly;
}

pub returns-clause-calculus : goal.returns-clause-calculus
returns-clause-calculus g c = λ n v w.
    walking-end g.N.Scalar.arithmetic n c.args.ps.now c.args.qs.now c.loop-q.left.items c.loop-q.q-index c.loop-q-test.false (c.loop-q.invariant.walking n v w)

pub returns-clause-vars : goal.returns-clause-vars
returns-clause-vars g c = λ n v w. (c.loop-q.invariant.walking n v w).vars

pub returns-clause-polys : goal.returns-clause-polys
returns-clause-polys g c =
    let a = g.N.Scalar.arithmetic in
    let n = c.requires.vars in
    let walked = c.loop-q.invariant.walking n c.requires.first c.requires.second in
    let is = walking-end a n c.args.ps.now c.args.qs.now c.loop-q.left.items c.loop-q.q-index c.loop-q-test.false walked in
    let second = all_taken (λ p. IsPoly g.N.Scalar.arithmetic p.width p.lines) c.args.qs.now c.loop-q.q-index c.loop-q-test.false c.loop-q.invariant.second in
    let others = polys-over g.N.Scalar.arithmetic n (lines_of c.args.qs.now) (polys_over g.N.Scalar.arithmetic n c.args.qs.now c.requires.second second) in
    polys_back g.N.Scalar.arithmetic n c.loop-q.left.items walked.vars
    (subst (AllPolys g.N.Scalar.arithmetic n) (sym is) (minus-polys a n (lines_of c.args.ps.now) (lines_of c.args.qs.now) g.met.N.Scalar.lawful (polys_over g.N.Scalar.arithmetic n c.args.ps.now c.requires.first c.loop-q.invariant.first) others))

pub returns-clause-points : goal.returns-clause-points
returns-clause-points g c = λ n v w.
    let a = g.N.Scalar.arithmetic in
    let is = walking-end a n c.args.ps.now c.args.qs.now c.loop-q.left.items c.loop-q.q-index c.loop-q-test.false (c.loop-q.invariant.walking n v w) in
    let second = all_taken (λ p. IsPoly g.N.Scalar.arithmetic p.width p.lines) c.args.qs.now c.loop-q.q-index c.loop-q-test.false c.loop-q.invariant.second in
    let ours = polys-over g.N.Scalar.arithmetic n (lines_of c.args.ps.now) (polys_over g.N.Scalar.arithmetic n c.args.ps.now v c.loop-q.invariant.first) in
    let others = polys-over g.N.Scalar.arithmetic n (lines_of c.args.qs.now) (polys_over g.N.Scalar.arithmetic n c.args.qs.now w second) in
    subst (IsDifference n (lines_of c.args.ps.now) (lines_of c.args.qs.now)) (sym is) (minus-exact a n (lines_of c.args.ps.now) (lines_of c.args.qs.now) g.met.N.Scalar.lawful ours others)
