use Rattle.std.proofs.Common.{◌≡◌, ap, sym, ◌∙◌}
use Rattle.lhg_row.specs.Row.{PlainRow}
use Rattle.lhg_row.specs.Eliminate.{is_mate, row_at}
use Rattle.lhg_elim.proofs.PairSteps.{row_at-is, mate-passed}
use Rattle.lhg_elim.proofs.pairing.mate.Goals as goal

pub loop-j-preserved : goal.loop-j-preserved
loop-j-preserved g c =
    let a = g.N.Scalar.arithmetic in
    let rows = c.args.rows.now in
    let r = row_at rows c.args.i in
    let s = c.index-rows-j.result in
    let at : r ≡ c.index-rows-i.result = row_at-is rows c.args.i c.index-rows-i.result c.index-rows-i.is c.requires.there in
    let is : c.in_ok-found.found ≡ (is_mate a c.args.k r s).value = c.in_ok-found.ensures ∙ ap (λ (q : PlainRow). (is_mate a c.args.k q s).value) (sym at) in
    mate-passed a c.args.k rows r c.loop-j.j s _ c.index-rows-j.is c.loop-j-test.true c.loop-j.invariant c.in_ok-found.found is c.if-found.false
