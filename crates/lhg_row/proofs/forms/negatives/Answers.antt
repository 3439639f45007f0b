use Rattle.std.proofs.Common.{◌∙◌, ◌+◌, ◌++◌, ap, sym, map, drop}
use Rattle.lhg_math.specs.Number.{neg}
use Rattle.lhg_math.specs.ListFacts.{drop-map_cons}
use Rattle.lhg_row.proofs.FormSteps.{images-step}
use Rattle.lhg_row.proofs.forms.negatives.Goals as goal

pub loop-coef-preserved : goal.loop-coef-preserved
loop-coef-preserved g c =
    let m = g.N.Scalar.meaning in
    let xs = c.args.coefs.now in
    let i = c.loop-coef.coef-index in
    let here = drop-map_cons m xs i c.coef-item.result c.coef-item.is c.loop-coef-test.true in
    images-step m c.loop-coef.out.items c.push.new.self.items c.neg.result (neg (m c.coef-item.result)) (map neg (drop (i + 1) (map m xs))) (map neg (map m xs))
    (ap (λ ys. map m c.loop-coef.out.items ++ map neg ys) (sym here) ∙ c.loop-coef.invariant) c.neg.ensures c.in_ok-push.ensures.items
