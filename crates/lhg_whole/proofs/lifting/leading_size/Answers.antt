use Rattle.std.proofs.Common.{◌≡◌, false, pos, ◌<ℤ◌, sym, ap, ◌∙◌, subst, arith}
use Rattle.std.proofs.lemmas.Int.{ints, to_z-of_z}
use Rattle.std.specs.Int.{w128}
use Rattle.std.specs.Int.RustNames.{unsigned_abs}
use Rattle.lhg_math.specs.Number.{whole}
use Rattle.lhg_math.specs.Signs.{is_nought}
use Rattle.lhg_num.proofs.Fields.{fits_abs}
use Rattle.lhg_whole.proofs.LiftSteps.{leads-found, leads-end, size_some}
use Rattle.lhg_whole.proofs.lifting.leading_size.Goals as goal

size_of_item : (c : goal.After-of_size) → c.of_size.result ≡ pos (unsigned_abs c.entry-item.result)
size_of_item c =
    let v = c.value.result in
    c.of_size.ensures ∙ ap pos (c.unsigned_abs.ensures.value ∙ ap unsigned_abs (to_z-of_z w128 v (fits_abs v c.value.ensures.small) ∙ c.value.ensures.value))

some_item : (c : goal.After-of_size) → is_nought (whole c.entry-item.result) ≡ false
some_item c = let z = c.is_zero.ensures in let t = c.if-not-is_zero.true in let e = c.if-not-is_zero.ensures in grind arith

pub returns-then-not-is_zero-clause-value : goal.returns-then-not-is_zero-clause-value
returns-then-not-is_zero-clause-value c =
    ap whole (size_of_item c) ∙ leads-found c.args.row.now c.loop-entry.entry-index c.entry-item.result c.loop-entry.invariant c.loop-entry-test.true c.entry-item.is (some_item c)

pub returns-then-not-is_zero-clause-above : goal.returns-then-not-is_zero-clause-above
returns-then-not-is_zero-clause-above c =
    let some = size_some c.entry-item.result (some_item c) in
    subst (λ n. pos 0 <ℤ n) (sym (size_of_item c)) (omega (arith, ints, some))

pub returns-clause-value : goal.returns-clause-value
returns-clause-value c = ap whole c.of_size-2.ensures ∙ leads-end c.args.row.now c.loop-entry.entry-index c.loop-entry.invariant c.loop-entry-test.false
