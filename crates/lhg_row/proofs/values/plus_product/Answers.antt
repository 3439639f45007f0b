use Rattle.std.proofs.Common.{◌∙◌, sym}
use Rattle.lhg_row.specs.ValueLaws.{plus-no_multiple, plus-no_entry}
use Rattle.lhg_row.proofs.values.plus_product.Goals as goal

pub returns-then-is_zero : goal.returns-then-is_zero
returns-then-is_zero g c =
    let m = g.N.Scalar.meaning in
    plus-no_multiple g.N.Scalar.arithmetic (m c.args.sum.now) (m c.args.c.now) (m c.args.x.now) (sym c.is_zero.ensures ∙ c.if-is_zero.true)

pub returns-then-is_zero-2 : goal.returns-then-is_zero-2
returns-then-is_zero-2 g c =
    let m = g.N.Scalar.meaning in
    plus-no_entry g.N.Scalar.arithmetic (m c.args.sum.now) (m c.args.c.now) (m c.args.x.now) (sym c.is_zero-2.ensures ∙ c.if-is_zero-2.true)
