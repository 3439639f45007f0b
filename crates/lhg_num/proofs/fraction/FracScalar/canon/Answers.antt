use Rattle.lhg_num.proofs.ScaledRows.{leading, canon_exact_at}
use Rattle.lhg_num.proofs.fraction.FracScalar.canon.Goals as goal

pub inverted-requires : goal.inverted-requires
inverted-requires c = (leading c.args.row.now c.in-Some.size c.in-Some.ensures).positive

pub returns-in-Some-clause-exact : goal.returns-in-Some-clause-exact
returns-in-Some-clause-exact c = canon_exact_at c.scale.result c.args.row.now c.scale.new.row c.in-Some.size c.inverted.result (leading c.args.row.now c.in-Some.size c.in-Some.ensures) c.inverted.ensures c.scale.ensures.exact
