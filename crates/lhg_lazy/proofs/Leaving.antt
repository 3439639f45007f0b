-- A flow all of whose later points are in some pieces goes at first through one of them, and may stop there.
use Rattle.std.proofs.Common.{◌≡◌, true, inl, List, [], refl, sym, ap, ◌∙◌, subst}
use Rattle.lhg_math.specs.Number.{Number, mul, lt, nought, unit, mid, half}
use Rattle.lhg_math.specs.NumberOrder.{nought_unit, lt_trans}
use Rattle.lhg_math.specs.Interpolate.{interpolate}
use Rattle.lhg_math.specs.Places.{IsPlace}
use Rattle.lhg_math.specs.PlacesLaws.{inner_place, start_place, half_inner}
use Rattle.lhg_row.specs.Row.{PlainPoint, PlainRow}
use Rattle.lhg_row.specs.Piece.{PlainPiece, InPiece, InSome}
use Rattle.lhg_row.specs.Members.{SomeOf}
use Rattle.lhg_row.specs.SomeLists.{some_map, in_some_of}
use Rattle.lhg_motion.specs.Segment.{along}
use Rattle.lhg_motion.specs.SegmentLemmas.{along_start, along_twice}
use Rattle.lhg_motion.specs.Flow.{IsFlow}
use Rattle.lhg_motion.specs.Join.{flow_upto}
use Rattle.lhg_motion.specs.CheckPoint.{rows_of}
use Rattle.lhg_motion.specs.CheckLemmas.{inside_place}
use Rattle.lhg_motion.specs.CheckPlaces.{mid_between}
use Rattle.lhg_motion.specs.NextCut.{NextCut, inner_between, cut_through, next_cut}
use Rattle.lhg_motion.specs.Crossing.{GoesThrough, HasCrossing}
use Rattle.lhg_lazy.specs.RimFacts.{LeavesThrough}

-- from x to halfway to z, where the way to z leads through a piece
half_through : (piece flow from : PlainPiece) (x z : PlainPoint) (t : Number) → InPiece from x → IsFlow [] flow x t z → GoesThrough piece x z → HasCrossing from piece piece flow x
half_through piece flow from x z t start f through = record {
  from_in = start;
  time = mul half t;
  to = along x z half;
  into_in = through half half_inner;
  legal = flow_upto [] flow x z t half f (inner_place half half_inner) half_inner.above;
  passes = λ r i.
      let b = inner_between nought half r half_inner.above i in
      let at : along x z (interpolate nought half r) ≡ along x (along x z half) r = sym (along_twice x z nought half r f.same_length) ∙ ap (λ (w : PlainPoint). along w (along x z half) r) (along_start x z f.same_length) in
      subst (λ (w : PlainPoint). InPiece piece w) at (through (interpolate nought half r) (record { above = b.left; below = lt_trans (interpolate nought half r) half unit b.right half_inner.below }));
}

module _ (flow : PlainPiece) (ways : List PlainPiece) (x y : PlainPoint) (t : Number) (f : IsFlow [] flow x t y) (gone : (p : Number) → IsPlace p → lt nought p ≡ true → InSome ways (along x y p)) where
  abbrev rows : List PlainRow
  rows = rows_of ways

  -- up to the first cut after the start it stays in one piece
  first_cut : NextCut rows x y nought
  first_cut = next_cut rows x y f.same_length nought (record { place = start_place; why = inl refl }) nought_unit

  module _ (n : NextCut rows x y nought) where
    up : lt nought n.at ≡ true
    up = n.neighbours.order

    middle : InSome ways (along x y (mid nought n.at))
    middle =
        let b = mid_between nought n.at up in
        gone (mid nought n.at) (inside_place nought n.at (mid nought n.at) start_place n.neighbours.right.place b) b.left

    first_through : SomeOf (λ w. GoesThrough w x (along x y n.at)) ways
    first_through =
        subst (λ (v : PlainPoint). SomeOf (λ w. GoesThrough w v (along x y n.at)) ways) (along_start x y f.same_length)
        (cut_through ways x y nought n.at f.same_length n.neighbours middle)

    crossed : (here : List PlainPiece) → InSome here x → LeavesThrough flow here ways x
    crossed here h =
        let g = flow_upto [] flow x y t n.at f n.neighbours.right.place up in
        some_map (λ s. InPiece s x) (λ s. SomeOf (λ q. HasCrossing s q q flow x) ways)
        (λ s i. some_map (λ w. GoesThrough w x (along x y n.at)) (λ q. HasCrossing s q q flow x) (λ w k. half_through w flow s x (along x y n.at) (mul n.at t) i g k) ways first_through)
        here ((in_some_of here x).0 h)

  -- so it leaves through one of them
  pub leaves : (here : List PlainPiece) → InSome here x → LeavesThrough flow here ways x
  leaves = crossed first_cut
