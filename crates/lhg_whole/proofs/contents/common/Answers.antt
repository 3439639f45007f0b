use Rattle.std.proofs.Common.{◌≡◌, ◌<◌, ◌^◌, ℕ, sym, ap, ◌∙◌, arith, subst}
use Rattle.std.proofs.lemmas.Int.{to_z-of_z}
use Rattle.std.specs.Int.{w128}
use Rattle.std.specs.Int.RustNames.{unsigned_abs}
use Rattle.lhg_num.proofs.Fields.{fits_abs}
use Rattle.lhg_whole.proofs.Steps.{content-start, content-step}
use Rattle.lhg_whole.proofs.contents.common.Goals as goal

pub loop-i-init : goal.loop-i-init
loop-i-init c = record { value = content-start c.args.row.now; small = omega arith; there = omega arith }

pub loop-i-preserved : goal.loop-i-preserved
loop-i-preserved c =
    let v = c.value.result in
    let read : c.unsigned_abs.result ≡ unsigned_abs v = c.unsigned_abs.ensures.value ∙ ap unsigned_abs (to_z-of_z w128 v (fits_abs v c.value.ensures.small)) in
    content-step c.args.row.now c.loop-i.i c.loop-i.g c.index-row-i.result c.gcd-g.result c.unsigned_abs.result c.loop-i.invariant c.loop-i-test.true c.index-row-i.is
    (read ∙ ap unsigned_abs c.value.ensures.value) (subst (λ (n : ℕ). n < 2 ^ 127) (sym read) c.value.ensures.small) c.gcd-g.ensures
