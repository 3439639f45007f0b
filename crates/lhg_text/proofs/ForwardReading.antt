-- Forward sets of a plant have one reading.
use Rattle.std.proofs.Common.{◌≡◌, ◌≤◌, ℕ, List, [], ◌∷◌, ◌++◌, length, map, refl, sym, ap, ◌∙◌, subst, arith, codes, decimal}
use Rattle.std.proofs.Math.IntN.{pos}
use Rattle.std.specs.List.{flat_map}
use Rattle.std.proofs.lemmas.Grind.{flat_map-append}
use Rattle.lhg_math.specs.Number.{whole}
use Rattle.lhg_math.specs.Tests.{AllOf}
use Rattle.lhg_lex.specs.Lines.{lines_of}
use Rattle.lhg_lex.specs.Literal.{limit}
use Rattle.lhg_lex.specs.PlainToken.{word, number}
use Rattle.lhg_row.specs.Piece.{PlainPiece}
use Rattle.lhg_plant.specs.Plant.{PlainPlant}
use Rattle.lhg_plant.specs.Proper.{IsProper}
use Rattle.lhg_plant.specs.Region.{PlainRegion}
use Rattle.lhg_row_text.specs.PrintedLine.{line}
use Rattle.lhg_row_text.proofs.LinesBack.{lines_back}
use Rattle.lhg_ctl.specs.ControllerText.{piece_line, rounds_text}
use Rattle.lhg_ctl.specs.Draft.{placed_from}
use Rattle.lhg_ctl.proofs.PlacedRows.{placed_all}
use Rattle.lhg_text.specs.ForwardText.{forward_lines, forward_text, IsWrittenForward, SameForward}
use Rattle.lhg_text.proofs.LineValues.{ReportLine, rounds, piece, other, IsLineOf, AreLinesOf, one_values, lines-append}
use Rattle.lhg_text.proofs.LinesOfReport.{word_one, end_line, rounds_line, pieces_are}
use Rattle.lhg_text.proofs.OneReading.{lines_inner}
use Rattle.lhg_text.proofs.Placed.{same_lists}

-- the text, part by part
pub forward_parts : (a : PlainPlant) (region : PlainRegion) (n : ℕ) → forward_text a region n ≡ line (codes "reach 1") ++ (line (codes "rounds" ++ 32 ∷ decimal n) ++ (flat_map line (map (piece_line a) (placed_from 0 region)) ++ line (codes "end")))
forward_parts a region n = ap (λ t. line (codes "reach 1") ++ (line (codes "rounds" ++ 32 ∷ decimal n) ++ t)) (flat_map-append line (map (piece_line a) (placed_from 0 region)) (codes "end" ∷ []))

-- the values of the lines
abbrev values_of : PlainRegion → ℕ → List ReportLine
values_of region n = other ∷ rounds n ∷ (map (λ p. piece p) (placed_from 0 region) ++ other ∷ [])

-- pieces are found again in front of the end
pieces_found : (ps qs : List (ℕ × PlainPiece)) → map (λ p. piece p) ps ++ other ∷ [] ≡ map (λ p. piece p) qs ++ other ∷ [] → ps ≡ qs
pieces_found [] [] h = refl
pieces_found [] (q ∷ qs) h = absurd cc
pieces_found (p ∷ ps) [] h = absurd cc
pieces_found (p ∷ ps) (q ∷ qs) h =
    let first : p ≡ q = cc in
    let rest : map (λ x. piece x) ps ++ other ∷ [] ≡ map (λ x. piece x) qs ++ other ∷ [] = cc in
    ap (λ x. x ∷ ps) first ∙ ap (λ xs. q ∷ xs) (pieces_found ps qs rest)

module _ (a : PlainPlant) (proper : IsProper a) where
  head_line : IsLineOf a (codes "reach 1") other
  head_line = record { tokens = word (codes "reach") ∷ number (whole (pos 1)) ∷ []; says = word_one (codes "reach") refl; value_is = refl }

  -- the lines have these values
  values_are : (region : PlainRegion) (n : ℕ) → IsWrittenForward a region n → AreLinesOf a (forward_lines a region n) (values_of region n)
  values_are region n h =
      let ps = placed_from 0 region in
      let e = h.locs in
      let placed = placed_all (length a.vars) (length a.locs) 0 region (omega (arith, e)) h.pieces in (
        head_line,
        (rounds_line a proper n h.few_rounds, lines-append a (map (piece_line a) ps) (map (λ p. piece p) ps) (codes "end" ∷ []) (other ∷ []) (pieces_are a proper ps placed) (end_line a proper, tt)),
      )

  -- and are found again in the bytes
  lines_found : (region : PlainRegion) (n : ℕ) → IsWrittenForward a region n → lines_of (forward_text a region n) ≡ forward_lines a region n
  lines_found region n h = lines_back (forward_lines a region n) (lines_inner a (forward_lines a region n) (values_of region n) (values_are region n h))

  -- two of them with one text are the same
  pub one_forward : (r : PlainRegion) (m : ℕ) (s : PlainRegion) (n : ℕ) → IsWrittenForward a r m → IsWrittenForward a s n → forward_text a r m ≡ forward_text a s n → SameForward r m s n
  one_forward r m s n h k e =
      let lines : forward_lines a r m ≡ forward_lines a s n = sym (lines_found r m h) ∙ ap lines_of e ∙ lines_found s n k in
      let values : values_of r m ≡ values_of s n = one_values a (forward_lines a s n) (values_of r m) (values_of s n) (subst (λ x. AreLinesOf a x (values_of r m)) lines (values_are r m h)) (values_are s n k) in
      let pieces : map (λ p. piece p) (placed_from 0 r) ++ other ∷ [] ≡ map (λ p. piece p) (placed_from 0 s) ++ other ∷ [] = cc in
      record {
        region = same_lists 0 r s (h.locs ∙ sym k.locs) (pieces_found (placed_from 0 r) (placed_from 0 s) pieces);
        rounds = cc;
      }
