-- A whole number that was formed within the limit.
use Rattle.std.proofs.Common.{◌≡◌, ℤ, ap, sym, ◌∙◌, to_z, of_z, Bool, true, false, Option, Some, None, Err, subst}
use Rattle.lhg_num.specs.Dividing.{IsDivided}
use Rattle.lhg_num.specs.declared.refusals.DivError.{DivError}
use Rattle.lhg_num.specs.declared.refusals.DivError.TheVariants.{Zero, Wide}
use Rattle.std.proofs.lemmas.Int.{to_z-of_z}
use Rattle.std.specs.Int.{w128}
use Rattle.lhg_math.specs.Number.{Number, whole}
use Rattle.lhg_math.specs.Inverses.{whole_parts}
use Rattle.lhg_math.specs.Tests.{by_bool}
use Rattle.lhg_num.specs.Limits.{is_past, formed}
use Rattle.lhg_num.proofs.Formed.{small}
use Rattle.lhg_num.proofs.Fields.{fits_abs}
use Rattle.lhg_whole.specs.WholeModel.{IsWithin}

-- the result was not refused, and the field v, as the code reads it, keeps it
pub record IsResult (q : Number) (v : ℤ) : Type 0 where
  pub kept : is_past q.top ≡ false
  pub within : IsWithin (to_z w128 (of_z w128 v))
  pub same : whole (to_z w128 (of_z w128 v)) ≡ q

abbrev value_or : ℤ → Option ℤ → ℤ
value_or d None = d
value_or d (Some v) = v

-- a number that was formed
pub formed_some : (z v : ℤ) (q : Number) → q ≡ whole z → Some v ≡ formed z → IsResult q v
formed_some z v q e o =
    let top : q.top ≡ z = ap (λ x. x.top) e ∙ (whole_parts z).0 in
    by_bool (is_past z)
    (λ h. let x : Some v ≡ None = rw h at o in cc)
    (λ h. let x : Some v ≡ Some z = rw h at o in
    let is : v ≡ z = ap (value_or z) x in
    let read : to_z w128 (of_z w128 v) ≡ z = ap (λ w. to_z w128 (of_z w128 w)) is ∙ to_z-of_z w128 z (fits_abs z (small z h)) in
    record { kept = ap is_past top ∙ h; within = subst IsWithin (sym read) (record { below = small z h }); same = ap whole read ∙ sym e })

-- a number that was not formed is past the limit
pub formed_none : (z : ℤ) (q : Number) → q ≡ whole z → None ≡ formed z → is_past q.top ≡ true
formed_none z q e o =
    let top : q.top ≡ z = ap (λ x. x.top) e ∙ (whole_parts z).0 in
    by_bool (is_past z) (λ h. ap is_past top ∙ h) (λ h. let x : None ≡ Some z = rw h at o in cc)

-- a division by 1 of a number within the limit is not refused
pub no_refusal : {T : Type 0} {C : Type 0} (e : DivError) (zero refused : Bool) (P : T → Type 0) → IsDivided (Err e) zero refused P → zero ≡ false → refused ≡ false → C
no_refusal Zero zero refused P h z r = let x : true ≡ false = sym h ∙ z in cc
no_refusal Wide zero refused P h z r = let x : true ≡ false = sym h.1 ∙ r in cc
