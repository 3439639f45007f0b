use Rattle.std.proofs.Common.{Some, refl, ap, ◌∙◌}
use Rattle.lhg_math.specs.Number.{whole}
use Rattle.lhg_whole.specs.ContentLaws.{quot-one}
use Rattle.lhg_whole.proofs.Fields.{value_is, within_not_past}
use Rattle.lhg_whole.proofs.Formed.{no_refusal}
use Rattle.lhg_whole.proofs.whole.WholeScalar.to_frac.Goals as goal

pub returns-in-Ok : goal.returns-in-Ok
returns-in-Ok c = ap Some (c.in-Ok.ensures.2 ∙ quot-one _ ∙ ap whole (value_is c.self.inside c.self.invariant c.args.self.now c.self.view_is))

pub returns-in-Err : goal.returns-in-Err
returns-in-Err c = no_refusal c.in-Err.field-0 _ _ _ c.in-Err.ensures refl (within_not_past c.self.inside c.self.invariant)
