use Rattle.std.proofs.Common.{◌≡◌, true, map, sym, ap, ◌∙◌, subst}
use Rattle.lhg_math.specs.Number.{Number, neg, unit}
use Rattle.lhg_row.specs.Trim.{agree}
use Rattle.lhg_poly.proofs.ClashSteps.{opposite_is}
use Rattle.lhg_poly.proofs.clashing.are_opposite.Goals as goal

pub returns-in-Ok : goal.returns-in-Ok
returns-in-Ok g c e =
    let a = g.N.Scalar.arithmetic in
    let m = g.N.Scalar.meaning in
    let cs = map m c.args.cs.now in
    let ds = map m c.args.ds.now in
    let h = subst (λ (u : Number). c.in-Ok.same ≡ (agree a neg u u cs ds).value) c.one-one.ensures c.in-Ok.ensures in
    opposite_is a cs ds (sym h ∙ e)
