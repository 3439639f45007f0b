-- The flow that is found from a point is one, where there is one from it.
use Rattle.std.proofs.Common.{◌≡◌, ◌+◌, ℕ, [], ◌∷◌, ◌++◌, take, length, get_or, sym, ap, ◌∙◌, subst, arith, append_assoc}
use Rattle.std.proofs.lemmas.List.{length-append, length-take-le}
use Rattle.lhg_math.specs.Number.{nought}
use Rattle.lhg_num.specs.FracArithmetic.{frac_arithmetic}
use Rattle.lhg_row.specs.Row.{PlainPoint}
use Rattle.lhg_row.specs.Piece.{PlainPiece, InPiece}
use Rattle.lhg_row.specs.Width.{AllWide}
use Rattle.lhg_row.specs.HasValue.{HasPoint}
use Rattle.lhg_row.specs.PutInLaws.{put_in-to, put_in-from, put_in-wide}
use Rattle.lhg_motion.specs.Crossing.{HasCrossing}
use Rattle.lhg_motion.specs.CrossCalculus.{cross_rows}
use Rattle.lhg_motion.specs.CrossSystem.{cross_rows-wide, middle_rows}
use Rattle.lhg_motion.specs.CrossLaws.{to_middle}
use Rattle.lhg_loss.specs.Explanation.{sample_of, crossing_from, flow_from}
use Rattle.lhg_explain.proofs.FlowRows.{IsCrossingTo, rows_crossing}
use Rattle.lhg_explain.proofs.SamplePoints.{sample_of-in, last_split}

module _ (n : ℕ) (start through into flow : PlainPiece) (ws : AllWide n start) (wt : AllWide n through) (wi : AllWide n into) (wf : AllWide n flow) (x : PlainPoint) (lx : length x ≡ n) where
  abbrev rows : PlainPiece
  rows = (cross_rows frac_arithmetic n start through into flow).value

  -- the rows over the end and the time
  abbrev pub flows : PlainPiece
  flows = (crossing_from n flow x start through into).value

  pub rows-wide : AllWide (n + (n + 1)) rows
  rows-wide =
      let sum : n + n + 1 ≡ n + (n + 1) = omega arith in
      subst (λ k. AllWide k rows) sum (cross_rows-wide frac_arithmetic n start through into flow ws wt wi wf)

  pub flows-wide : AllWide (n + 1) flows
  flows-wide = put_in-wide frac_arithmetic x n (n + 1) rows lx rows-wide

  -- they hold at the end and the time of each flow
  pub flows-point : HasCrossing start through into flow x → HasPoint (n + 1) flows
  flows-point c =
      let m = to_middle start through into flow x c in
      let z : PlainPoint = m.to ++ m.time ∷ [] in
      let h : InPiece rows (x ++ z) = subst (λ (w : PlainPoint). InPiece rows w) (append_assoc x m.to (m.time ∷ [])) (middle_rows frac_arithmetic n start through into flow ws wt wi wf x lx m) in
      record {
        point = z;
        wide = (let l = length-append m.to (m.time ∷ []) in let k = m.legal.same_length in omega (arith, l, k, lx));
        holds = put_in-to frac_arithmetic x rows z h;
      }

  -- what is found is a flow
  pub flow_from-crosses : HasCrossing start through into flow x → IsCrossingTo through into flow x (flow_from n flow x start through into).value.time (flow_from n flow x start through into).value.to
  flow_from-crosses c =
      let yt = (sample_of (n + 1) flows).value in
      let p = sample_of-in (n + 1) flows flows-wide (flows-point c) in
      let y = take n yt in
      let t = get_or yt n nought in
      let parts : yt ≡ y ++ t ∷ [] = last_split n yt (p.wide ∙ omega arith) in
      let ly : length y ≡ n = length-take-le n yt (let w = p.wide in omega arith) in
      let at : x ++ yt ≡ x ++ y ++ t ∷ [] = ap (λ w. x ++ w) parts ∙ sym (append_assoc x y (t ∷ [])) in
      rows_crossing frac_arithmetic n start through into flow ws wt wi wf x y t lx ly (subst (λ (w : PlainPoint). InPiece rows w) at (put_in-from frac_arithmetic x rows yt p.inside))
