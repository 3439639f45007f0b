use Rattle.std.proofs.Common.{◌<◌, ◌∙◌, length, map, arith}
use Rattle.std.proofs.lemmas.List.{length-map}
use Rattle.lhg_row.proofs.FormSteps.{found, passed, image_at}
use Rattle.lhg_row.proofs.forms.coef_for.Goals as goal

pub returns-then-places-i : goal.returns-then-places-i
returns-then-places-i g c =
    let m = g.N.Scalar.meaning in
    let cs = map m c.args.coefs.now in
    let in_coefs : c.loop-i.i < length c.args.coefs.now = omega arith in
    let in_cs : c.loop-i.i < length cs = omega (arith, length-map c.args.coefs.now m) in
    image_at m c.args.coefs.now c.loop-i.i c.index-coefs-i.result c.index-coefs-i.is in_coefs
    ∙ found c.args.j c.loop-i.i c.args.places.now cs c.loop-i-test.true in_cs c.if-places-i.true ∙ c.loop-i.invariant

pub loop-i-preserved : goal.loop-i-preserved
loop-i-preserved g c =
    let cs = map g.N.Scalar.meaning c.args.coefs.now in
    let in_cs : c.loop-i.i < length cs = omega (arith, length-map c.args.coefs.now g.N.Scalar.meaning) in
    passed c.args.j c.loop-i.i c.args.places.now cs c.loop-i-test.true in_cs c.if-places-i.false ∙ c.loop-i.invariant
