-- Why has a crossing exactly the points that have a straight flow?
use Rattle.std.specs.Prelude.{◌≡◌, ℕ, suc, ◌+◌, ◌-◌, [], ◌∷◌, ◌++◌, length, Option, Some, None}
use Rattle.std.proofs.Common.{refl, sym, ap, ◌∙◌, arith, subst, append_assoc}
use Rattle.std.proofs.lemmas.List.{length-append}
use Rattle.lhg_math.specs.Number.{half}
use Rattle.lhg_math.specs.PlacesLaws.{half_inner}
use Rattle.lhg_num.specs.Arithmetic.{Arithmetic, IsLawful}
use Rattle.lhg_row.specs.Row.{PlainPoint}
use Rattle.lhg_row.specs.Piece.{PlainPiece, InPiece}
use Rattle.lhg_row.specs.PieceLemmas.{in_piece_is}
use Rattle.lhg_row.specs.Width.{AllWide}
use Rattle.lhg_row.specs.HasValue.{Completes}
use Rattle.lhg_row.specs.Ends.{last_of}
use Rattle.lhg_motion.specs.Convex.{piece_ends, piece_between}
use Rattle.lhg_row.specs.Trim.{trim}
use Rattle.lhg_row.specs.TrimLaws.{trim-holds}
use Rattle.lhg_row.specs.WidthLaws.{trim-wide}
use Rattle.lhg_row.specs.Pieces.{project}
use Rattle.lhg_row.specs.PieceFacts.{IsProjection}
use Rattle.lhg_row.specs.ProjectLaws.{project-exact}
use Rattle.lhg_motion.specs.Crossing.{HasCrossing, HasMiddle}
use Rattle.lhg_motion.specs.CrossCalculus.{cross_rows, cross}
use Rattle.lhg_motion.specs.CrossFact.{IsCross, CrossIsExact}
use Rattle.lhg_motion.specs.CrossSystem.{cross_rows-wide, rows_middle, middle_rows}

-- ---- crossings by their ends and their middle
-- a segment inside a piece has its ends in the closure and its middle in the piece
pub to_middle : (start through into flow : PlainPiece) (x : PlainPoint) → HasCrossing start through into flow x → HasMiddle start through into flow x
to_middle start through into flow x c =
    let edges = piece_ends through x c.to c.legal.same_length c.passes in
    record { from_in = c.from_in; time = c.time; to = c.to; into_in = c.into_in; legal = c.legal; start_edge = edges.0; end_edge = edges.1; middle = c.passes half half_inner }

-- and such a segment is inside the piece
pub from_middle : (start through into flow : PlainPiece) (x : PlainPoint) → HasMiddle start through into flow x → HasCrossing start through into flow x
from_middle start through into flow x c =
    record { from_in = c.from_in; time = c.time; to = c.to; into_in = c.into_in; legal = c.legal; passes = λ p i. piece_between through x c.to half p c.legal.same_length c.start_edge c.end_edge half_inner c.middle i }

-- ---- exactness
module _ (a : Arithmetic) (n : ℕ) (start through into flow : PlainPiece) (laws : IsLawful a) (ws : AllWide n start) (wt : AllWide n through) (wi : AllWide n into) (wf : AllWide n flow) where
  abbrev rows : PlainPiece
  rows = (cross_rows a n start through into flow).value

  -- values of y and t that complete x to a point of the rows give a crossing
  completed_crosses : (x : PlainPoint) → length x ≡ n → Completes (n + n + 1 - n) (trim a rows).value x → HasCrossing start through into flow x
  completed_crosses x lx c =
      let many : length c.later ≡ suc n = c.many ∙ omega arith in
      let s = last_of n c.later many in
      let at : x ++ c.later ≡ x ++ s.front ++ s.last ∷ [] = ap (λ w. x ++ w) (sym s.joined) ∙ sym (append_assoc x s.front (s.last ∷ [])) in
      let h : InPiece rows (x ++ c.later) = (in_piece_is rows (x ++ c.later)).1 (sym (trim-holds a rows (x ++ c.later) laws) ∙ (in_piece_is (trim a rows).value (x ++ c.later)).0 c.inside) in
      from_middle start through into flow x (rows_middle a n start through into flow ws wt wi wf x s.front s.last lx s.many (subst (λ (z : PlainPoint). InPiece rows z) at h))

  -- and each crossing gives such values
  crosses_completed : (x : PlainPoint) → length x ≡ n → HasCrossing start through into flow x → Completes (n + n + 1 - n) (trim a rows).value x
  crosses_completed x lx c =
      let m = to_middle start through into flow x c in
      let later : PlainPoint = m.to ++ m.time ∷ [] in
      let at : x ++ m.to ++ m.time ∷ [] ≡ x ++ later = append_assoc x m.to (m.time ∷ []) in
      let h : InPiece rows (x ++ later) = subst (λ (z : PlainPoint). InPiece rows z) at (middle_rows a n start through into flow ws wt wi wf x lx m) in
      record {
        later = later;
        many = omega (arith, lx, m.legal.same_length, length-append m.to (m.time ∷ []));
        inside = (in_piece_is (trim a rows).value (x ++ later)).1 (trim-holds a rows (x ++ later) laws ∙ (in_piece_is rows (x ++ later)).0 h);
      }

  -- what projects the trimmed rows to x is the crossing
  pub crossed : (o : Option PlainPiece) → IsProjection a n (n + n + 1 - n) (trim a rows).value o → IsCross a n start through into flow o
  crossed None h = λ x l c. h x l (crosses_completed x l c)
  crossed (Some piece) h = record {
    points = λ x l. (λ i. completed_crosses x l ((h.points x l).0 i), λ c. (h.points x l).1 (crosses_completed x l c));
    poly = h.poly;
  }

-- crossings are exact
pub cross-exact : (a : Arithmetic) (n : ℕ) → IsLawful a → CrossIsExact a n
unfolding cross
cross-exact a n laws start through into flow ws wt wi wf =
    let rs = (cross_rows a n start through into flow).value in
    let wide = trim-wide a (n + n + 1) rs laws (cross_rows-wide a n start through into flow ws wt wi wf) in
    crossed a n start through into flow laws ws wt wi wf (project a (n + n + 1) n (trim a rs).value).value (project-exact a (n + n + 1) n (trim a rs).value laws (omega arith) wide)
