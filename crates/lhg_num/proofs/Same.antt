-- Two fractions are the same where their parts are.
use Rattle.std.proofs.Common.{◌≡◌, pos, ◌&&◌, ap, to_z, of_z}
use Rattle.std.specs.Bool.{Decides}
use Rattle.std.specs.Int.{w128}
use Rattle.std.specs.Ordering.{int_eq}
use Rattle.std.proofs.lemmas.Bool.{and_parts}
use Rattle.std.proofs.lemmas.Bool.Decides.{Decides-int_eq, same_from_decides}
use Rattle.lhg_math.specs.Number.{Number}
use Rattle.lhg_math.specs.Represents.{number_ext}
use Rattle.lhg_math.specs.Signs.{same_number}
use Rattle.lhg_math.specs.SignLaws.{Decides-same_number}
use Rattle.lhg_num.specs.Stored.{IsStored}
use Rattle.lhg_num.specs.FracModel.{number_of}
use Rattle.lhg_num.specs.declared.fraction.Frac.TheInside.{Inside}
use Rattle.lhg_num.proofs.Fields.{numerator_is, denominator_is}

-- the tests of the parts say exactly which numbers are equal
Decides-parts : (x y : Number) → Decides (int_eq x.top y.top && int_eq (pos x.bottom) (pos y.bottom)) (x ≡ y)
Decides-parts x y =
    let t = Decides-int_eq x.top y.top in
    let b = Decides-int_eq (pos x.bottom) (pos y.bottom) in (
      λ h. let s = and_parts _ _ h in number_ext x y (t.0 s.0) (let e = b.0 s.1 in cc),
      λ e. rw (t.1 (ap (λ z. z.top) e)) (b.1 (ap (λ (z : Number). pos z.bottom) e)),
    )

-- the tests of the parts are the test of equality
same_parts : (x y : Number) → (int_eq x.top y.top && int_eq (pos x.bottom) (pos y.bottom)) ≡ same_number x y
same_parts x y = same_from_decides _ _ (Decides-parts x y) (Decides-same_number x y)

module _ (f g : Inside) (hf : IsStored f.numerator f.denominator) (hg : IsStored g.numerator g.denominator) (x y : Number) (ex : number_of f ≡ x) (ey : number_of g ≡ y) where
  -- the same, as the code reads the fields
  pub same_fields : (int_eq (to_z w128 (of_z w128 f.numerator)) (to_z w128 (of_z w128 g.numerator)) && int_eq (to_z w128 (of_z w128 f.denominator)) (to_z w128 (of_z w128 g.denominator))) ≡ same_number x y
  same_fields = rw (numerator_is f hf x ex, denominator_is f hf x ex, numerator_is g hg y ey, denominator_is g hg y ey) (same_parts x y)
