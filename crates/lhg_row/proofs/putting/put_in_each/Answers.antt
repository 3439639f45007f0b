use Rattle.std.proofs.Common.{◌≡◌, List, [], ◌∙◌, ◌+◌, ap, drop, subst, arith}
use Rattle.std.proofs.Math.ListN.{drop_of_length-le}
use Rattle.lhg_num.proofs.Halted.{part_halts_wide}
use Rattle.lhg_num.specs.Marked.{each}
use Rattle.lhg_num.specs.MarkedLaws.{IsBuilt, built-end}
use Rattle.lhg_math.specs.ListFacts.{drop_cons}
use Rattle.lhg_row.specs.PutIn.{put_in, put_in_each}
use Rattle.lhg_row.specs.PutInLaws.{put_in_each-points}
use Rattle.lhg_row.specs.Row.{PlainRow}
use Rattle.lhg_row.specs.Piece.{in_piece}
use Rattle.lhg_row.proofs.BuiltSteps.{taken-part, taken-step}
use Rattle.lhg_row.proofs.putting.put_in_each.Goals as goal

pub returns-in_err-put-clause-calculus : goal.returns-in_err-put-clause-calculus
returns-in_err-put-clause-calculus g c =
    let rows = c.args.rows.now in
    let i = c.loop-row.row-index in
    let here = drop_cons rows i c.row-item.result c.row-item.is c.loop-row-test.true in
    part_halts_wide c.from_residual-in_err-put.result c.in_err-put.field-0.0 _ (λ v. v.items) _ _ c.from_residual-in_err-put.ensures.1 c.in_err-put.ensures.calculus
    (taken-part (put_in g.N.Scalar.arithmetic c.args.point.now) (drop i rows) c.row-item.result (drop (i + 1) rows) here _ c.loop-row.out.items c.loop-row.invariant.built)

pub loop-row-preserved : goal.loop-row-preserved
loop-row-preserved g c =
    let rows = c.args.rows.now in
    let i = c.loop-row.row-index in
    let here = drop_cons rows i c.row-item.result c.row-item.is c.loop-row-test.true in
    record {
      built =
          taken-step (put_in g.N.Scalar.arithmetic c.args.point.now) (drop i rows) c.row-item.result (drop (i + 1) rows) here _ c.loop-row.out.items c.loop-row.invariant.built
          c.push.new.self.items c.in_ok-put.put c.in_ok-push.ensures.items c.in_ok-put.ensures.calculus;
      long = c.loop-row.invariant.long;
    }

pub returns-clause-points : goal.returns-clause-points
returns-clause-points g c =
    let a = g.N.Scalar.arithmetic in
    let x = c.args.point.now in
    let rows = c.args.rows.now in
    let out = c.loop-row.out.items in
    let end : drop c.loop-row.row-index rows ≡ [] = drop_of_length-le rows (omega (arith, c.loop-row-test.false)) in
    let same = built-end (put_in_each a x rows) out (subst (λ (rs : List PlainRow). IsBuilt (put_in_each a x rows) out (each (put_in a x) rs)) end c.loop-row.invariant.built) in
    λ y. ap (λ (rs : List PlainRow). in_piece rs y) same ∙ put_in_each-points a x rows y
