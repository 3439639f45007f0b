-- Rows and lists of rows, as they are printed.
use Rattle.std.specs.Prelude.{◌≡◌, [], ◌∷◌, codes, true, false, pos, negsuc, refl}
use Rattle.std.specs.Fmt.{digits}
use Rattle.lhg_math.specs.Number.{ratio, ratio_suc, add, mul, neg, lt, nought, unit, whole}
use Rattle.lhg_math.specs.Gcd.{gcd}
use Rattle.lhg_row_text.specs.RowText.{row_text, rows_text}

-- a few rows and a list of none
pub record RowExamples : Type 0 where
  pub at_least : row_text (codes "x" ∷ []) (record { coefs = ratio (negsuc 0) 1 ∷ []; strict = false; bound = ratio (negsuc 17) 1 }) ≡ codes "x >= 18"
  pub strict : row_text (codes "x" ∷ []) (record { coefs = ratio (pos 1) 1 ∷ []; strict = true; bound = ratio (pos 7) 2 }) ≡ codes "x < 7/2"
  pub terms : row_text (codes "x" ∷ codes "y" ∷ []) (record { coefs = ratio (negsuc 1) 3 ∷ ratio (pos 1) 1 ∷ []; strict = true; bound = ratio (negsuc 0) 2 }) ≡ codes "2/3*x - y > 1/2"
  pub behind : row_text (codes "x" ∷ codes "y" ∷ []) (record { coefs = ratio (pos 0) 1 ∷ ratio (negsuc 2) 1 ∷ []; strict = false; bound = ratio (pos 0) 1 }) ≡ codes "3*y >= 0"
  pub none : rows_text (codes "x" ∷ []) [] ≡ codes "all"

-- they print so
pub row_examples : RowExamples
unfolding digits ratio ratio_suc gcd add mul neg lt nought unit whole
row_examples = record { at_least = refl; strict = refl; terms = refl; behind = refl; none = refl }
