use Rattle.std.proofs.Common.{pos, ap, ◌∙◌}
use Rattle.std.specs.Ordering.{int_cmp}
use Rattle.lhg_math.specs.Compared.{sign_of-top}
use Rattle.lhg_num.proofs.Fields.{top_is}
use Rattle.lhg_num.proofs.fraction.FracScalar.sign.Goals as goal

pub returns : goal.returns
returns c = c.cmp.ensures ∙ ap (λ n. int_cmp n (pos 0)) (top_is c.self.inside c.self.invariant c.args.self.now c.self.view_is) ∙ sign_of-top c.args.self.now
