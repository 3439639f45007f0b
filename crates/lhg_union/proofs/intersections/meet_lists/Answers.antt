use Rattle.std.proofs.Common.{◌++◌, sym, subst}
use Rattle.lhg_num.specs.MarkedLaws.{IsPart}
use Rattle.lhg_num.proofs.Halted.{all_on_rows, all_on_pieces}
use Rattle.lhg_row.specs.PieceFacts.{IsPoly}
use Rattle.lhg_row.specs.Lists.{counted_pieces, meet_lists, meet_each}
use Rattle.lhg_union.specs.PolyLists.{lines_of}
use Rattle.lhg_union.proofs.ListFacts.{lines_of-append, all_take}
use Rattle.lhg_union.proofs.MeetSteps.{gathering-part, gathering-built, gathering-step, whole-part, limit-part, gathering-end}
use Rattle.lhg_union.proofs.MeetFacts.{met-points, met-polys}
use Rattle.lhg_union.proofs.intersections.meet_lists.Goals as goal

pub returns-in_err-met-clause-calculus : goal.returns-in_err-met-clause-calculus
returns-in_err-met-clause-calculus g c = λ n v w.
    let a = g.N.Scalar.arithmetic in
    let p = c.p-item.result in
    let part = gathering-part a n c.args.ps.now c.args.qs.now c.loop-p.out.items c.loop-p.p-index p c.p-item.is c.loop-p-test.true v (c.loop-p.invariant.gathering n v w) in
    all_on_rows c.from_residual.result c.in_err-met.field-0.0 _ (λ t. lines_of t.items) _ (λ t. lines_of t.items) c.from_residual.ensures.1 c.in_err-met.ensures.calculus
    (whole-part a n c.args.ps.now c.args.qs.now (meet_each a p.width p.lines (lines_of c.args.qs.now)) part)

pub returns-in_err-gather-clause-calculus : goal.returns-in_err-gather-clause-calculus
returns-in_err-gather-clause-calculus g c = λ n v w.
    let a = g.N.Scalar.arithmetic in
    let ps = c.args.ps.now in
    let qs = c.args.qs.now in
    let out = c.loop-p.out.items in
    let met = c.in_ok-met.met.items in
    let built = gathering-built a n ps qs out c.loop-p.p-index c.p-item.result c.p-item.is c.loop-p-test.true v (c.loop-p.invariant.gathering n v w) (lines_of met) c.in_ok-met.ensures.calculus in
    all_on_pieces c.from_residual-in_err-gather.result c.in_err-gather.field-0.0 _ (λ t. lines_of t.items) _ _ c.from_residual-in_err-gather.ensures.1 c.in_err-gather.ensures.limit
    (subst (λ rs. IsPart (meet_lists a n (lines_of ps) (lines_of qs)) (counted_pieces rs)) (sym (lines_of-append out met)) (limit-part a n ps qs (lines_of out ++ lines_of met) _ built))

pub loop-p-preserved : goal.loop-p-preserved
loop-p-preserved g c = record {
  gathering = λ n v w. gathering-step g.N.Scalar.arithmetic n c.args.ps.now c.args.qs.now c.loop-p.out.items c.loop-p.p-index c.p-item.result c.p-item.is c.loop-p-test.true v (c.loop-p.invariant.gathering n v w)
      c.in_ok-met.met.items c.gather.new.out.items c.in_ok-met.ensures.calculus c.in_ok-met.ensures.vars c.in_ok-gather.ensures.items;
  first = all_take (λ p. IsPoly g.N.Scalar.arithmetic p.width p.lines) c.args.ps.now c.loop-p.p-index c.p-item.result c.p-item.is c.loop-p-test.true c.loop-p.invariant.first c.in_ok-met.ensures.poly;
  second = λ _. c.in_ok-met.ensures.polys;
}

pub returns-clause-calculus : goal.returns-clause-calculus
returns-clause-calculus g c = λ n v w.
    gathering-end g.N.Scalar.arithmetic n c.args.ps.now c.args.qs.now c.loop-p.out.items c.loop-p.p-index c.loop-p-test.false (c.loop-p.invariant.gathering n v w)

pub returns-clause-vars : goal.returns-clause-vars
returns-clause-vars g c = λ n v w. (c.loop-p.invariant.gathering n v w).vars

pub returns-clause-polys : goal.returns-clause-polys
returns-clause-polys g c =
    let a = g.N.Scalar.arithmetic in
    let n = c.requires.vars in
    let v = c.requires.first in
    let w = c.requires.second in
    let gathered = c.loop-p.invariant.gathering n v w in
    let is = gathering-end a n c.args.ps.now c.args.qs.now c.loop-p.out.items c.loop-p.p-index c.loop-p-test.false gathered in
    met-polys a n c.args.ps.now c.args.qs.now c.loop-p.out.items c.loop-p.p-index g.met.N.Scalar.lawful v w gathered.vars c.loop-p-test.false is c.loop-p.invariant.first c.loop-p.invariant.second

pub returns-clause-points : goal.returns-clause-points
returns-clause-points g c = λ n v w.
    let a = g.N.Scalar.arithmetic in
    let is = gathering-end a n c.args.ps.now c.args.qs.now c.loop-p.out.items c.loop-p.p-index c.loop-p-test.false (c.loop-p.invariant.gathering n v w) in
    met-points a n c.args.ps.now c.args.qs.now c.loop-p.out.items c.loop-p.p-index g.met.N.Scalar.lawful v w c.loop-p-test.false is c.loop-p.invariant.first c.loop-p.invariant.second
