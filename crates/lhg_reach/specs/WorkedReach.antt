-- What does the calculus of reach find on known pieces of a line, by computation alone?
use Rattle.std.specs.Prelude.{◌≡◌, ℕ, ℤ, Bool, false, List, [], ◌∷◌, map}
use Rattle.std.proofs.Common.{refl}
use Rattle.lhg_math.specs.Gcd.{gcd}
use Rattle.lhg_math.specs.Number.{ratio_suc, ratio, add, mul, neg, sub, whole, lt, nought, unit, inverse, quot}
use Rattle.lhg_num.specs.FracArithmetic.{frac_arithmetic}
use Rattle.lhg_row.specs.Trim.{trim}
use Rattle.lhg_row.specs.Eliminate.{eliminate}
use Rattle.lhg_row.specs.Pieces.{make}
use Rattle.lhg_row.specs.Lists.{minus}
use Rattle.lhg_row.specs.Worked.{seen_rows}
use Rattle.lhg_motion.specs.CrossCalculus.{cross}
use Rattle.lhg_motion.specs.Found.{PlainFound}
use Rattle.lhg_motion.specs.ReachExample.{first_part, second_part, onward, bad_part, near_parts}
use Rattle.lhg_motion.specs.ReachCalculus.{layer_of, reach}

-- the rows of a found piece, its places and its layer
abbrev pub seen_found : PlainFound → List (List (ℤ × ℕ) × Bool × (ℤ × ℕ)) × (ℕ × (ℕ × ℕ))
seen_found f = (seen_rows f.piece, (f.through, (f.to, f.layer)))

-- bad is x >= 2, near are 0 <= x < 1 and 1 <= x < 2, and x grows: the second near piece is found in layer 1, through itself into the bad piece, and
-- the first one in layer 2, through itself into the piece that was found
pub record ReachRows : Type 0 where
  pub found : map seen_found (reach frac_arithmetic 1 bad_part near_parts onward).value.found
      ≡ (seen_rows second_part, (2, (0, 1))) ∷ (seen_rows first_part, (1, (1, 2))) ∷ []
  pub layers : (reach frac_arithmetic 1 bad_part near_parts onward).value.layers ≡ 2
  pub unmarked : (reach frac_arithmetic 1 bad_part near_parts onward).pieces ≡ false

pub reach_rows : ReachRows
unfolding gcd ratio_suc ratio add mul neg sub whole lt nought unit inverse quot trim eliminate make minus cross layer_of reach
reach_rows = record { found = refl; layers = refl; unmarked = refl }
