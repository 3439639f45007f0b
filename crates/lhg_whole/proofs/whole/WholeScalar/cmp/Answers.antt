use Rattle.std.proofs.Common.{refl, ap, ◌∙◌}
use Rattle.std.specs.Ordering.{int_cmp}
use Rattle.lhg_whole.proofs.Fields.{compare-whole}
use Rattle.lhg_whole.proofs.whole.WholeScalar.cmp.Goals as goal

pub returns : goal.returns
returns c = (
  refl,
  c.cmp.ensures ∙ ap (λ n. int_cmp n c.other.inside.value) c.self.view_is ∙ ap (int_cmp c.args.self.now) c.other.view_is ∙ compare-whole c.args.self.now c.args.other.now,
)
