use Rattle.std.proofs.Common.{map}
use Rattle.lhg_row.specs.Moves.{coef_for}
use Rattle.lhg_row.proofs.FormSteps.{named-step}
use Rattle.lhg_row.proofs.forms.placed.Goals as goal

pub loop-j-preserved : goal.loop-j-preserved
loop-j-preserved g c =
    let m = g.N.Scalar.meaning in
    named-step m (λ j. coef_for j c.args.places.now (map m c.args.coefs.now)) c.loop-j.out.items c.push.new.self.items c.coef_for.result c.loop-j.j c.loop-j.invariant c.coef_for.ensures c.in_ok-push.ensures.items
