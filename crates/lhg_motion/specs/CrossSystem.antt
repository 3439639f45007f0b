-- What do the rows of a straight flow say of its two ends and its time?
use Rattle.std.specs.Prelude.{◌≡◌, ◌↔◌, ℕ, ◌+◌, Bool, true, [], ◌∷◌, ◌++◌, map, length}
use Rattle.std.proofs.Common.{refl, sym, ap, ◌∙◌, arith, subst, append_assoc}
use Rattle.lhg_math.specs.Number.{Number, lt, nought, half}
use Rattle.lhg_math.specs.Tests.{Every, all_of, every_from_all, all_from_every}
use Rattle.lhg_num.specs.Arithmetic.{Arithmetic}
use Rattle.lhg_num.specs.Marked.{each}
use Rattle.lhg_row.specs.Row.{PlainRow, PlainPoint, holds_at, relaxed}
use Rattle.lhg_row.specs.Piece.{PlainPiece, InPiece, in_piece, InClosure}
use Rattle.lhg_row.specs.PieceLemmas.{in_piece_is}
use Rattle.lhg_row.specs.Width.{AllWide}
use Rattle.lhg_row.specs.Members.{all_split}
use Rattle.lhg_row.specs.MeetLaws.{in_piece-both}
use Rattle.lhg_row.specs.WidthLaws.{append-wide}
use Rattle.lhg_motion.specs.Segment.{along}
use Rattle.lhg_motion.specs.Flow.{displacement, times, IsFlow}
use Rattle.lhg_motion.specs.SpeedLemmas.{speed_flow}
use Rattle.lhg_motion.specs.Crossing.{HasMiddle}
use Rattle.lhg_row.specs.Widened.{widened}
use Rattle.lhg_row.specs.WidenedLaws.{widened-wide, widened-piece}
use Rattle.lhg_row.specs.RelaxedLaws.{relaxed_widened-wide, relaxed_widened-hold}
use Rattle.lhg_motion.specs.MiddleLaws.{all_middle-wide, all_middle-hold}
use Rattle.lhg_motion.specs.FlowRowLaws.{all_flow-wide, all_flow-hold, forward-holds, forward-length}
use Rattle.lhg_motion.specs.CrossCalculus.{at_middle, at_flow, forward, cross_rows}

-- rows that hold exactly where all of a list pass a test say that each passes it
told : (rows old : PlainPiece) (z : PlainPoint) (test : PlainRow → Bool) → in_piece rows z ≡ all_of test old → InPiece rows z ↔ Every test old
told rows old z test e = (
  λ h. every_from_all test old (sym e ∙ (in_piece_is rows z).0 h),
  λ h. (in_piece_is rows z).1 (e ∙ all_from_every test old h),
)

module _ (a : Arithmetic) (n : ℕ) (start through into flow : PlainPiece) (ws : AllWide n start) (wt : AllWide n through) (wi : AllWide n into) (wf : AllWide n flow) where
  abbrev at_x : PlainPiece
  at_x = map (widened 0 (n + 1)) start

  abbrev at_y : PlainPiece
  at_y = map (widened n 1) into

  abbrev near_x : PlainPiece
  near_x = map (λ r. widened 0 (n + 1) (relaxed r)) through

  abbrev near_y : PlainPiece
  near_y = map (λ r. widened n 1 (relaxed r)) through

  abbrev at_half : PlainPiece
  at_half = (each (at_middle a) through).value

  abbrev by_speed : PlainPiece
  by_speed = map at_flow flow

  -- the rows are over two points and a time
  pub cross_rows-wide : AllWide (n + n + 1) (cross_rows a n start through into flow).value
  cross_rows-wide =
      let m = n + n + 1 in
      let first : 0 + n + (n + 1) ≡ m = omega arith in
      let w1 : AllWide m at_x = widened-wide 0 (n + 1) n m start (sym first) ws in
      let w2 : AllWide m at_y = widened-wide n 1 n m into refl wi in
      let w3 : AllWide m near_x = subst (λ k. AllWide k near_x) first (relaxed_widened-wide 0 (n + 1) n through wt) in
      let w4 : AllWide m near_y = relaxed_widened-wide n 1 n through wt in
      let w5 : AllWide m at_half = all_middle-wide a n through wt in
      let w6 : AllWide m by_speed = all_flow-wide n flow wf in
      append-wide m (at_x ++ at_y ++ near_x ++ near_y ++ at_half ++ by_speed) (forward n ∷ [])
      (append-wide m (at_x ++ at_y ++ near_x ++ near_y ++ at_half) by_speed
      (append-wide m (at_x ++ at_y ++ near_x ++ near_y) at_half
      (append-wide m (at_x ++ at_y ++ near_x) near_y
      (append-wide m (at_x ++ at_y) near_x (append-wide m at_x at_y w1 w2) w3) w4) w5) w6)
      (forward-length n, tt)

  module _ (x y : PlainPoint) (t : Number) (lx : length x ≡ n) (ly : length y ≡ n) where
    abbrev both : PlainPoint
    both = x ++ y ++ t ∷ []

    starts : InPiece at_x both ↔ InPiece start x
    starts =
        told at_x start both (λ r. holds_at r x)
        (ap (λ z. in_piece at_x z) (append_assoc x y (t ∷ [])) ∙ widened-piece 0 (n + 1) n start [] x (y ++ t ∷ []) refl lx ws)

    ends : InPiece at_y both ↔ InPiece into y
    ends = told at_y into both (λ r. holds_at r y) (widened-piece n 1 n into x y (t ∷ []) lx ly wi)

    edge_x : InPiece near_x both ↔ InClosure through x
    edge_x =
        told near_x through both (λ r. holds_at (relaxed r) x)
        (ap (λ z. in_piece near_x z) (append_assoc x y (t ∷ [])) ∙ relaxed_widened-hold 0 (n + 1) n through wt [] x (y ++ t ∷ []) refl lx)

    edge_y : InPiece near_y both ↔ InClosure through y
    edge_y = told near_y through both (λ r. holds_at (relaxed r) y) (relaxed_widened-hold n 1 n through wt x y (t ∷ []) lx ly)

    halfway : InPiece at_half both ↔ InPiece through (along x y half)
    halfway = told at_half through both (λ r. holds_at r (along x y half)) (all_middle-hold a n through wt x y t lx ly)

    speeds : (f : PlainPoint) → displacement x y ≡ times t f → lt nought t ≡ true → InPiece by_speed both ↔ InPiece flow f
    speeds f slope up = told by_speed flow both (λ r. holds_at r f) (all_flow-hold n flow wf x y f t lx ly slope up)

    -- without flow rows any time above 0 leads from x to y
    free : lt nought t ≡ true → IsFlow [] [] x t y
    free up = speed_flow [] [] x t y (record { takes_time = up; from_in = tt; to_in = tt; same_length = lx ∙ sym ly; allowed = tt })

    -- where the rows hold, a straight flow leads from x to y in the time t
    pub rows_middle : InPiece (cross_rows a n start through into flow).value both → HasMiddle start through into flow x
    rows_middle h =
        let P = λ (r : PlainRow). holds_at r both ≡ true in
        let s6 = all_split P (at_x ++ at_y ++ near_x ++ near_y ++ at_half ++ by_speed) (forward n ∷ []) h in
        let s5 = all_split P (at_x ++ at_y ++ near_x ++ near_y ++ at_half) by_speed s6.0 in
        let s4 = all_split P (at_x ++ at_y ++ near_x ++ near_y) at_half s5.0 in
        let s3 = all_split P (at_x ++ at_y ++ near_x) near_y s4.0 in
        let s2 = all_split P (at_x ++ at_y) near_x s3.0 in
        let s1 = all_split P at_x at_y s2.0 in
        let up : lt nought t ≡ true = sym (forward-holds n x y t lx ly) ∙ s6.1.0 in
        let by = free up in
        record {
          from_in = starts.0 s1.0;
          time = t;
          to = y;
          into_in = ends.0 s1.1;
          legal = record { takes_time = up; from_in = tt; to_in = tt; same_length = lx ∙ sym ly; speed = by.speed; slope = by.slope; allowed = (speeds by.speed by.slope up).0 s5.1 };
          start_edge = edge_x.0 s2.1;
          end_edge = edge_y.0 s3.1;
          middle = halfway.0 s4.1;
        }

    -- it is this one
    pub rows_middle-is : (h : InPiece (cross_rows a n start through into flow).value both) → ((rows_middle h).time ≡ t) × ((rows_middle h).to ≡ y)
    unfolding rows_middle
    rows_middle-is h = (refl, refl)

  -- the rows hold at the ends and the time of each straight flow
  pub middle_rows : (x : PlainPoint) → length x ≡ n → (m : HasMiddle start through into flow x) → InPiece (cross_rows a n start through into flow).value (x ++ m.to ++ m.time ∷ [])
  middle_rows x lx m =
      let y = m.to in
      let t = m.time in
      let z = both x y t lx (sym m.legal.same_length ∙ lx) in
      let ly : length y ≡ n = sym m.legal.same_length ∙ lx in
      let up = m.legal.takes_time in
      in_piece-both (at_x ++ at_y ++ near_x ++ near_y ++ at_half ++ by_speed) (forward n ∷ []) z
      (in_piece-both (at_x ++ at_y ++ near_x ++ near_y ++ at_half) by_speed z
      (in_piece-both (at_x ++ at_y ++ near_x ++ near_y) at_half z
      (in_piece-both (at_x ++ at_y ++ near_x) near_y z
      (in_piece-both (at_x ++ at_y) near_x z
      (in_piece-both at_x at_y z ((starts x y t lx ly).1 m.from_in) ((ends x y t lx ly).1 m.into_in))
      ((edge_x x y t lx ly).1 m.start_edge))
      ((edge_y x y t lx ly).1 m.end_edge))
      ((halfway x y t lx ly).1 m.middle))
      ((speeds x y t lx ly m.legal.speed m.legal.slope up).1 m.legal.allowed))
      (forward-holds n x y t lx ly ∙ up, tt)
