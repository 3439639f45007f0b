use Rattle.lhg_row.proofs.CanonSteps.{scaled_entries}
use Rattle.lhg_row.proofs.trimming.scaled.Goals as goal

pub returns : goal.returns
returns g c =
    scaled_entries g.N.Scalar.arithmetic g.N.Scalar.meaning g.met.N.Scalar.held c.push.new.self.len c.args.coefs.items c.push.new.self.items c.deref_mut.result.now c.canon.new.row c.args.bound
    c.in_ok-push.ensures.items c.deref_mut.ensures.value c.push.new.self.ok.0 c.canon.auto.row c.in_ok-canon.ensures.exact.1
