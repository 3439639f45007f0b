-- A whole number is seen as its value, and gives its field back.
use Rattle.std.specs.Prelude.{◌≡◌, ◌<◌, ◌^◌, ℤ}
use Rattle.std.specs.Int.RustNames.{unsigned_abs}
use Rattle.std.proofs.Common.{refl}
use Rattle.lhg_whole.specs.declared.whole.Whole.TheInside.{Inside}

-- the size is at most 2^127 - 1
pub record IsWithin (z : ℤ) : Type 0 where
  pub below : unsigned_abs z < 2 ^ 127

-- the field that keeps a value
abbrev pub field_of : ℤ → Inside
field_of z = record { value = z }

-- the field comes back from its value
pub field_back : (f : Inside) → IsWithin f.value → field_of f.value ≡ f
field_back f h = refl
