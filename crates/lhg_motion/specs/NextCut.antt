-- A segment goes through one piece between neighbouring cuts, and each cut before the end has a next one.
use Rattle.std.specs.Prelude.{◌≡◌, ◌⊎◌, ◌<◌, ◌≤◌, ℕ, zero, suc, Bool, true, false, cond, List, [], ◌∷◌, length}
use Rattle.std.proofs.Common.{refl, sym, ap, ◌∙◌, inl, inr, arith, subst}
use Rattle.lhg_math.specs.Number.{Number, lt, nought, unit, mid}
use Rattle.lhg_math.specs.NumberOrder.{lt_trans, lt_irrefl}
use Rattle.lhg_math.specs.Interpolate.{interpolate}
use Rattle.lhg_math.specs.InterpolateLaws.{interpolate_start, interpolate_end, interpolate-lt}
use Rattle.lhg_math.specs.Places.{IsInner}
use Rattle.lhg_math.specs.PlacesLaws.{end_place}
use Rattle.lhg_math.specs.Tests.{AllOf, false_true}
use Rattle.lhg_row.specs.Row.{PlainRow, PlainPoint, holds_at}
use Rattle.lhg_row.specs.Piece.{PlainPiece, InPiece, InSome}
use Rattle.lhg_motion.specs.Segment.{along}
use Rattle.lhg_motion.specs.SegmentLemmas.{along_twice}
use Rattle.lhg_motion.specs.CheckPoint.{rows_of, IsCut, AreNeighbours, IsBetween}
use Rattle.lhg_row.specs.Decisions.{clash}
use Rattle.lhg_motion.specs.CheckLemmas.{neighbours_truth, piece_carried}
use Rattle.lhg_motion.specs.CheckList.{CutPlace, all_cuts}
use Rattle.lhg_motion.specs.CheckPlaces.{mid_between, Least, find_least}
use Rattle.lhg_row.specs.Members.{SomeOf, all_some, all_split}
use Rattle.lhg_motion.specs.Crossing.{GoesThrough}

-- an inner part of a segment lies strictly between its ends
pub inner_between : (a b r : Number) → lt a b ≡ true → IsInner r → IsBetween a b (interpolate a b r)
inner_between a b r h i = record {
  left = ap (λ w. lt w (interpolate a b r)) (sym (interpolate_start a b)) ∙ interpolate-lt a b nought r h ∙ i.above;
  right = ap (λ w. lt (interpolate a b r) w) (sym (interpolate_end a b)) ∙ interpolate-lt a b r unit h ∙ i.below;
}

-- the piece that holds one point holds all points at which its rows have the same truth
carried_each : (pieces : List PlainPiece) (a : PlainPoint) (at : Number → PlainPoint) → ((r : Number) → IsInner r → AllOf (λ row. holds_at row a ≡ holds_at row (at r)) (rows_of pieces)) → InSome pieces a
    → SomeOf (λ piece. (r : Number) → IsInner r → InPiece piece (at r)) pieces
carried_each [] a at same h = absurd h
carried_each (piece ∷ pieces) a at same (inl h) = inl (λ r i. piece_carried piece a (at r) (all_split (λ row. holds_at row a ≡ holds_at row (at r)) piece (rows_of pieces) (same r i)).0 h)
carried_each (piece ∷ pieces) a at same (inr h) = inr (carried_each pieces a at (λ r i. (all_split (λ row. holds_at row a ≡ holds_at row (at r)) piece (rows_of pieces) (same r i)).1) h)

-- between neighbouring cuts a segment lies in one piece, the one that holds the middle
pub cut_through : (ways : List PlainPiece) (x y : PlainPoint) (p q : Number) → length x ≡ length y → AreNeighbours (rows_of ways) x y p q → InSome ways (along x y (mid p q)) → SomeOf (λ w. GoesThrough w (along x y p) (along x y q)) ways
cut_through ways x y p q e n h =
    carried_each ways (along x y (mid p q)) (λ r. along (along x y p) (along x y q) r)
    (λ r i. subst (λ (w : PlainPoint). AllOf (λ row. holds_at row (along x y (mid p q)) ≡ holds_at row w) (rows_of ways)) (sym (along_twice x y p q r e))
    (neighbours_truth (rows_of ways) x y p q (mid p q) (interpolate p q r) e n (mid_between p q n.order) (inner_between p q r n.order i))) h

module _ (rows : List PlainRow) (x y : PlainPoint) where
  -- how many cuts lie above the place
  abbrev pub above : Number → List (CutPlace rows x y) → ℕ
  above p [] = zero
  above p (c ∷ cs) = cond (lt p c.at) (suc (above p cs)) (above p cs)

-- counts by two tests, of which the first says less
count_le : (a b : Bool) (m n : ℕ) → (a ≡ true → b ≡ true) → m ≤ n → cond a (suc m) m ≤ cond b (suc n) n
count_le true true m n f h = omega arith
count_le true false m n f h = false_true (f refl)
count_le false true m n f h = omega arith
count_le false false m n f h = h

-- the same where there were fewer before
count_more : (a b : Bool) (m n : ℕ) → (a ≡ true → b ≡ true) → m < n → cond a (suc m) m < cond b (suc n) n
count_more true true m n f h = omega arith
count_more true false m n f h = false_true (f refl)
count_more false true m n f h = omega arith
count_more false false m n f h = h

-- and where the second test alone passes
count_lt : (a b : Bool) (m n : ℕ) → a ≡ false → b ≡ true → m ≤ n → cond a (suc m) m < cond b (suc n) n
count_lt true b m n e f h = false_true (sym e)
count_lt false true m n e f h = omega arith
count_lt false false m n e f h = false_true f

-- above a greater place lie no more cuts
above_le : (rows : List PlainRow) (x y : PlainPoint) (p q : Number) → lt p q ≡ true → (cs : List (CutPlace rows x y)) → above rows x y q cs ≤ above rows x y p cs
above_le rows x y p q h [] = omega arith
above_le rows x y p q h (c ∷ cs) = count_le (lt q c.at) (lt p c.at) (above rows x y q cs) (above rows x y p cs) (λ e. lt_trans p q c.at h e) (above_le rows x y p q h cs)

-- a cut at q lies above p and not above q
pub above_lt : (rows : List PlainRow) (x y : PlainPoint) (p q : Number) → lt p q ≡ true → (cs : List (CutPlace rows x y)) → SomeOf (λ c. c.at ≡ q) cs → above rows x y q cs < above rows x y p cs
above_lt rows x y p q h [] k = absurd k
above_lt rows x y p q h (c ∷ cs) (inl e) = count_lt (lt q c.at) (lt p c.at) (above rows x y q cs) (above rows x y p cs) (ap (λ w. lt q w) e ∙ lt_irrefl q) (ap (λ w. lt p w) e ∙ h) (above_le rows x y p q h cs)
above_lt rows x y p q h (c ∷ cs) (inr k) = count_more (lt q c.at) (lt p c.at) (above rows x y q cs) (above rows x y p cs) (λ e. lt_trans p q c.at h e) (above_lt rows x y p q h cs k)

-- the next cut above a place
pub record NextCut (rows : List PlainRow) (x y : PlainPoint) (p : Number) : Type 0 where
  pub at : Number
  pub neighbours : AreNeighbours rows x y p at

-- a test passes or does not
true_decided : (b : Bool) → (b ≡ true) ⊎ ¬ (b ≡ true)
true_decided true = inl refl
true_decided false = inr (λ e. false_true e)

-- the next cut after a cut that isn't the end
pub next_cut : (rows : List PlainRow) (x y : PlainPoint) (same : length x ≡ length y) (p : Number) → IsCut rows x y p → lt p unit ≡ true → NextCut rows x y p
next_cut rows x y same p cut less = found (find_least (λ c. c.at) (λ c. lt p c.at ≡ true) (λ c. true_decided (lt p c.at)) (all_cuts x y same rows).cuts)
  where
    last : IsCut rows x y unit
    last = record { place = end_place; why = inr (inl refl) }

    found : AllOf (λ c. ¬ (lt p c.at ≡ true)) (all_cuts x y same rows).cuts ⊎ Least (λ c. c.at) (λ c. lt p c.at ≡ true) (all_cuts x y same rows).cuts → NextCut rows x y p
    found (inl none) = all_some (λ c. ¬ (lt p c.at ≡ true)) (λ c. c.at ≡ unit) (NextCut rows x y p) (λ c f e. absurd (f (ap (λ w. lt p w) e ∙ less))) (all_cuts x y same rows).cuts none ((all_cuts x y same rows).all unit last)
    found (inr l) = record {
      at = l.member.at;
      neighbours = record {
        left = cut;
        right = l.member.cut;
        order = l.holds;
        clear = λ q c f g. all_some (λ d. lt p d.at ≡ true → lt d.at l.member.at ≡ false) (λ d. d.at ≡ q) ⊥
            (λ d k e. clash (lt q l.member.at) g (ap (λ w. lt w l.member.at) (sym e) ∙ k (ap (λ w. lt p w) e ∙ f))) (all_cuts x y same rows).cuts l.least ((all_cuts x y same rows).all q c);
      };
    }
