use Rattle.std.proofs.Common.{◌≡◌, ◌∙◌, rules}
use Rattle.lhg_row.specs.Values.{truth}
use Rattle.lhg_row.specs.ValueLaws.{truth-value}
use Rattle.lhg_row.proofs.values.holds.Goals as goal

pub returns-clause-exact : goal.returns-clause-exact
returns-clause-exact g c =
    let k : c.fits.result ≡ (truth g.N.Scalar.arithmetic c.args.row.now c.args.point.now).value = search rules in
    k ∙ truth-value g.N.Scalar.arithmetic c.args.row.now c.args.point.now
