use Rattle.std.proofs.Common.{ap, ◌∙◌}
use Rattle.std.specs.Ordering.{is_eq}
use Rattle.lhg_math.specs.Number.{whole}
use Rattle.lhg_math.specs.SignLaws.{is_eq-sign_of}
use Rattle.lhg_whole.proofs.whole.WholeScalar.is_zero.Goals as goal

pub returns : goal.returns
returns c = c.is_eq.ensures ∙ ap is_eq c.sign.ensures ∙ is_eq-sign_of (whole c.args.self.now)
