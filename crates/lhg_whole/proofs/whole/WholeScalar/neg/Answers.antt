use Rattle.std.proofs.Common.{◌≡◌, pos, neg_ℤ, ◌-ℤ◌, to_z, of_z, sym, ap, ◌∙◌, arith}
use Rattle.std.proofs.lemmas.Int.{ints}
use Rattle.std.specs.Int.{w128}
use Rattle.lhg_math.specs.Number.{whole, neg}
use Rattle.lhg_whole.proofs.Fields.{neg-whole}
use Rattle.lhg_whole.proofs.whole.WholeScalar.neg.Goals as goal

pub returns : goal.returns
returns c =
    let f = c.self.inside in
    let h = c.self.invariant.below in
    let m : to_z w128 (of_z w128 (pos 0 -ℤ to_z w128 (of_z w128 f.value))) ≡ neg_ℤ f.value = omega (arith, ints, h) in
    ap whole m ∙ sym (neg-whole f.value) ∙ ap (λ z. neg (whole z)) c.self.view_is
