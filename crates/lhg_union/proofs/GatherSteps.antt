-- Steps of loops that join lists of pieces.
use Rattle.std.proofs.Common.{◌≡◌, List, ◌++◌, sym, ap, ◌∙◌, append_assoc}
use Rattle.std.proofs.lemmas.Bool.{or_left, or_right}
use Rattle.lhg_math.specs.Tests.{false_true}
use Rattle.lhg_num.specs.Marked.{Marked, and_then, valued}
use Rattle.lhg_num.specs.MarkedLaws.{IsPart, IsBuilt, part_part, and_then-part}
use Rattle.lhg_row.specs.Piece.{PlainPiece}
use Rattle.lhg_row.specs.Lists.{is_past_list, counted_pieces}
use Rattle.lhg_row.specs.ListLimits.{past-more}

module _ {A B : Type 0} (whole : Marked (List B)) (out : List B) (m : Marked A) (made : A → List B) (rest : Marked (List B)) (b : IsBuilt whole out (and_then m (λ y. valued (λ zs. made y ++ zs) rest))) where
  -- the marks of the next part are among those of the whole
  pub more-part : IsPart whole m
  more-part = record {
    wide = λ h. b.part.wide (or_left m.wide _ h);
    rows = λ h. b.part.rows (or_left m.rows _ h);
    pieces = λ h. b.part.pieces (or_left m.pieces _ h);
  }

  -- the next part is joined
  pub more-step : (y : A) → y ≡ m.value → IsBuilt whole (out ++ made y) rest
  more-step y e = record {
    same = append_assoc out (made y) rest.value ∙ ap (λ z. out ++ (made z ++ rest.value)) e ∙ b.same;
    part = record {
      wide = λ h. b.part.wide (or_right m.wide _ h);
      rows = λ h. b.part.rows (or_right m.rows _ h);
      pieces = λ h. b.part.pieces (or_right m.pieces _ h);
    };
  }

module _ (whole : Marked (List PlainPiece)) (out : List PlainPiece) (rest : Marked (List PlainPiece)) (b : IsBuilt whole out rest) where
  -- a list that is past its limits before all is joined is so in the end
  pub counted-part : IsPart (and_then whole counted_pieces) (counted_pieces out)
  counted-part = record {
    wide = λ h. false_true h;
    rows = λ h. false_true h;
    pieces = λ h. or_right whole.pieces _ (ap is_past_list (sym b.same) ∙ past-more out rest.value h);
  }

-- the marks of what is joined are among those of the list that is counted
pub joined-part : {B : Type 0} (whole : Marked (List PlainPiece)) (part : Marked B) → IsPart whole part → IsPart (and_then whole counted_pieces) part
joined-part whole part p = part_part (and_then whole counted_pieces) whole part (and_then-part whole counted_pieces) p
