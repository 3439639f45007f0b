-- From the two sides of a comparison to the order of the numbers.
use Rattle.std.proofs.Common.{◌≡◌, ℤ, pos, ◌*ℤ◌, ◌/◌, to_z, of_z, refl, ap, ◌∙◌, true, false, Some, None}
use Rattle.std.specs.Int.{w128}
use Rattle.std.specs.Ordering.{int_cmp}
use Rattle.std.specs.declared.cmp.Ordering.{Ordering}
use Rattle.lhg_math.specs.Gcd.{gcd}
use Rattle.lhg_math.specs.Number.{Number, compare}
use Rattle.lhg_math.specs.Compared.{compare-sides}
use Rattle.lhg_num.specs.Stored.{IsStored}
use Rattle.lhg_num.specs.FracModel.{number_of}
use Rattle.lhg_num.specs.Limits.{formed, frac_refuses_cmp}
use Rattle.lhg_num.specs.Parts.{both_of, crossed_parts}
use Rattle.lhg_num.specs.declared.fraction.Frac.TheInside.{Inside}
use Rattle.lhg_num.proofs.Fields.{numerator_is, denominator_is}
use Rattle.lhg_num.proofs.Formed.{both_some, both_none}

module _ (f g : Inside) (hf : IsStored f.numerator f.denominator) (hg : IsStored g.numerator g.denominator) (x y : Number) (ex : number_of f ≡ x) (ey : number_of g ≡ y) where
  -- the first number over the least common denominator
  abbrev left : ℤ
  left = x.top *ℤ pos (y.bottom / gcd x.bottom y.bottom)

  -- the second one
  abbrev right : ℤ
  right = y.top *ℤ pos (x.bottom / gcd x.bottom y.bottom)

  crossed_same : crossed_parts (to_z w128 (of_z w128 f.numerator)) (to_z w128 (of_z w128 f.denominator)) (to_z w128 (of_z w128 g.numerator)) (to_z w128 (of_z w128 g.denominator)) ≡ both_of (formed left) (formed right)
  crossed_same = rw (numerator_is f hf x ex, denominator_is f hf x ex, numerator_is g hg y ey, denominator_is g hg y ey) refl

  -- the order of the sides that were formed is the order of the numbers
  pub compared_some : (p q : ℤ) (r : Ordering) → Some (p, q) ≡ crossed_parts (to_z w128 (of_z w128 f.numerator)) (to_z w128 (of_z w128 f.denominator)) (to_z w128 (of_z w128 g.numerator)) (to_z w128 (of_z w128 g.denominator))
      → r ≡ int_cmp (to_z w128 (of_z w128 p)) (to_z w128 (of_z w128 q)) → (frac_refuses_cmp x y ≡ false) × (r ≡ compare x y)
  compared_some p q r o e =
      let b = both_some left right p q (o ∙ crossed_same) in
      (rw (b.first, b.second) refl, e ∙ ap (λ w. int_cmp w (to_z w128 (of_z w128 q))) b.left ∙ ap (int_cmp left) b.right ∙ compare-sides x y)

  -- where a side was not formed the comparison is refused
  pub compared_none : None ≡ crossed_parts (to_z w128 (of_z w128 f.numerator)) (to_z w128 (of_z w128 f.denominator)) (to_z w128 (of_z w128 g.numerator)) (to_z w128 (of_z w128 g.denominator)) → frac_refuses_cmp x y ≡ true
  compared_none o = both_none left right (o ∙ crossed_same)
