use Rattle.std.proofs.Common.{◌∙◌, ap, to_z, of_z}
use Rattle.std.specs.Int.{w128}
use Rattle.std.specs.Ordering.{int_eq}
use Rattle.lhg_whole.proofs.Fields.{value_is, same-whole}
use Rattle.lhg_whole.proofs.whole.WholePartialEq.eq.Goals as goal

pub returns : goal.returns
returns c =
    let a = c.args.self.now in
    let b = c.args.other.now in
    c.same.ensures ∙ ap (λ u. int_eq u (to_z w128 (of_z w128 c.other.inside.value))) (value_is c.self.inside c.self.invariant a c.self.view_is) ∙ ap (int_eq a) (value_is c.other.inside c.other.invariant b c.other.view_is) ∙ same-whole a b
