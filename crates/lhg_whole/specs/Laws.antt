-- The laws of lifted rows, as facts.
use Rattle.std.specs.Prelude.{◌≡◌, true, List}
use Rattle.lhg_math.specs.Number.{Number}
use Rattle.lhg_math.specs.Tests.{all_of}
use Rattle.lhg_num.specs.Arithmetic.{IsMultiple}
use Rattle.lhg_num.specs.FracCanon.{canon_frac}
use Rattle.lhg_whole.specs.Content.{is_whole, canon_whole}
use Rattle.lhg_whole.specs.Lifting.{lifted, IsCoprime}

-- a lifted row is the positive multiple of the row whose entries are whole and coprime; each type scales both to the same row
pub record LiftLaws : Type 0 where
  pub multiple : (row : List Number) → IsMultiple row (lifted row)
  pub held : (row : List Number) → all_of is_whole (lifted row) ≡ true
  pub coprime : (row : List Number) → IsCoprime (lifted row)
  pub scaled : (row : List Number) → canon_whole (lifted row) ≡ lifted row
  pub lowered : (row : List Number) → canon_frac (lifted row) ≡ canon_frac row
