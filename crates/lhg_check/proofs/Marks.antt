-- Marks that are not set.
use Rattle.std.proofs.Common.{◌≡◌, false, sym, ◌∙◌}
use Rattle.lhg_math.specs.Tests.{false_true, by_bool}
use Rattle.lhg_num.specs.Marked.{Marked}
use Rattle.lhg_num.specs.MarkedLaws.{IsPart}

-- the mark of pieces of a part is not set where that of the whole is not
pub part_unmarked : {A B : Type 0} (whole : Marked A) (part : Marked B) → IsPart whole part → whole.pieces ≡ false → part.pieces ≡ false
part_unmarked whole part p h = by_bool part.pieces (λ t. false_true (sym h ∙ p.pieces t)) (λ f. f)
