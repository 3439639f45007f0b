use Rattle.std.proofs.Common.{◌≡◌, pos, to_z, sym, ap, ◌∙◌}
use Rattle.std.proofs.lemmas.Int.{to_z-of_z}
use Rattle.std.specs.Int.{w128}
use Rattle.std.proofs.lemmas.Bool.{eq-eqb}
use Rattle.lhg_math.specs.Number.{whole}
use Rattle.lhg_whole.specs.ContentLaws.{whole-top}
use Rattle.lhg_whole.proofs.whole.WholeScalar.of_frac.Goals as goal

pub returns-then-denom-eq1-clause-value : goal.returns-then-denom-eq1-clause-value
returns-then-denom-eq1-clause-value c =
    let q = c.args.value.now in
    let p : c.denom.result ≡ pos 1 = sym (to_z-of_z w128 c.denom.result (record { sfits = c.denom.type_inv })) ∙ ap (to_z w128) c.if-denom-eq1.true in
    let e : q.bottom ≡ 1 = (let r = sym c.denom.ensures.value ∙ p in cc) in
    ap whole (to_z-of_z w128 c.numer.result (record { sfits = c.numer.type_inv }) ∙ c.numer.ensures.value) ∙ sym (whole-top q (eq-eqb q.bottom 1 e))
