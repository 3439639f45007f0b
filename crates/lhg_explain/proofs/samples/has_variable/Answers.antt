use Rattle.std.proofs.Common.{not, ap, ◌∙◌}
use Rattle.lhg_math.specs.Signs.{is_nought, lead}
use Rattle.lhg_explain.proofs.CodeSteps.{nought_size}
use Rattle.lhg_explain.proofs.samples.has_variable.Goals as goal

pub returns : goal.returns
returns c = ap not (c.is_zero.ensures ∙ ap is_nought c.lead_size.ensures ∙ nought_size (lead c.args.row.now.coefs))
