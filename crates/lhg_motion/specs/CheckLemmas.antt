-- Between two neighbouring check points no row changes its truth, and each place is a check point or lies between two.
use Rattle.std.specs.Prelude.{◌≡◌, true, List, [], ◌∷◌, length}
use Rattle.std.proofs.Common.{sym, ap, ◌∙◌, inl, inr}
use Rattle.lhg_math.specs.Number.{Number, add, neg, lt, nought, unit}
use Rattle.lhg_math.specs.NumberRing.{add-neg}
use Rattle.lhg_math.specs.NumberOrder.{lt-neg, lt_irrefl, lt_asym, lt_antisymm, le-lt_trans, lt-le_trans, lt-difference, difference-lt}
use Rattle.lhg_math.specs.Interpolate.{interpolate}
use Rattle.lhg_math.specs.InterpolateLaws.{interpolate_less, interpolate_same, interpolate_twice}
use Rattle.lhg_math.specs.Places.{IsPlace}
use Rattle.lhg_math.specs.PlacesLaws.{inner_place, negative_at, interpolate-neg}
use Rattle.lhg_math.specs.Crossings.{same_sign, same_sign_self}
use Rattle.lhg_row.specs.Row.{PlainRow, PlainPoint, value_at, holds_at, IsTight}
use Rattle.lhg_row.specs.Piece.{PlainPiece, InPiece, InSome}
use Rattle.lhg_motion.specs.Segment.{along}
use Rattle.lhg_motion.specs.SegmentLemmas.{excess, excess_along, same_truth}
use Rattle.lhg_row.specs.Members.{all_split}
use Rattle.lhg_math.specs.Tests.{AllOf}
use Rattle.lhg_row.specs.Decisions.{number_decided}
use Rattle.lhg_motion.specs.CheckPoint.{rows_of, IsTurn, SomeTurn, AreNeighbours, IsBetween}

-- a number between two that are below b is below b
below_both : (b u v r : Number) → lt u b ≡ true → lt v b ≡ true → IsPlace r → lt (interpolate u v r) b ≡ true
below_both b u v r h k i =
    sym (difference-lt b (interpolate u v r)) ∙ ap (λ w. lt w nought) (interpolate_less u v b r)
    ∙ negative_at (add u (neg b)) (add v (neg b)) r (difference-lt b u ∙ h) (difference-lt b v ∙ k) i

-- a number between two that are above a is above a
above_both : (a u v r : Number) → lt a u ≡ true → lt a v ≡ true → IsPlace r → lt a (interpolate u v r) ≡ true
above_both a u v r h k i =
    sym (lt-neg (interpolate u v r) a) ∙ ap (λ w. lt w (neg a)) (sym (interpolate-neg u v r))
    ∙ below_both (neg a) (neg u) (neg v) r (lt-neg u a ∙ h) (lt-neg v a ∙ k) i

-- a row whose excess is 0 holds with equality
pub tight_of : (r : PlainRow) (p : PlainPoint) → excess r p ≡ nought → IsTight r p
tight_of r p e =
    lt_antisymm (value_at r p) r.bound
    (sym (difference-lt r.bound (value_at r p)) ∙ ap (λ w. lt w nought) e ∙ lt_irrefl nought)
    (sym (lt-difference r.bound (value_at r p)) ∙ ap (λ w. lt nought w) e ∙ lt_irrefl nought)

-- the excess is 0 where a row holds with equality
pub excess_tight : (r : PlainRow) (p : PlainPoint) → IsTight r p → excess r p ≡ nought
excess_tight r p t = ap (λ w. add w (neg r.bound)) t ∙ add-neg r.bound

-- a row that does not turn strictly between two places keeps its truth there
pub still_truth : (r : PlainRow) (x y : PlainPoint) (a b u v : Number) → length x ≡ length y → ((p : Number) → IsBetween a b p → ¬ IsTurn r x y p)
    → IsBetween a b u → IsBetween a b v
    → holds_at r (along x y u) ≡ holds_at r (along x y v)
still_truth r x y a b u v e none i j =
    let ex = excess r x in
    let ey = excess r y in
    let eu = excess_along r x y u e in
    let ev = excess_along r x y v e in
    elim (number_decided (value_at r x) (value_at r y)) [
      | inl same ↦
          (let flat : ex ≡ ey = ap (λ w. add w (neg r.bound)) same in
          let at_u : interpolate ex ey u ≡ ex = ap (λ w. interpolate ex w u) (sym flat) ∙ interpolate_same ex u in
          let at_v : interpolate ex ey v ≡ ex = ap (λ w. interpolate ex w v) (sym flat) ∙ interpolate_same ex v in
          same_truth r _ _ (same_sign_self _ _ (eu ∙ at_u ∙ sym (ev ∙ at_v))))
      | inr moves ↦
          same_truth r _ _ (same_sign _ _
          (λ z. none u i (record { moves = moves; tight = tight_of r _ z }))
          (λ z. none v j (record { moves = moves; tight = tight_of r _ z }))
          (λ c.
          let w = interpolate u v c.at in
          let at_w : excess r (along x y w) ≡ nought = excess_along r x y w e ∙ interpolate_twice ex ey u v c.at ∙ ap (λ k. interpolate k (interpolate ex ey v) c.at) (sym eu) ∙ ap (λ k. interpolate (excess r (along x y u)) k c.at) (sym ev) ∙ c.level in
          let place = inner_place c.at c.inner in
          none w (record { left = above_both a u v c.at i.left j.left place; right = below_both b u v c.at i.right j.right place }) (record { moves = moves; tight = tight_of r _ at_w })))
    ]

-- the same of each row of a list
each_still : (rows : List PlainRow) (x y : PlainPoint) (a b u v : Number) → length x ≡ length y
    → ((p : Number) → IsBetween a b p → ¬ SomeTurn rows x y p) → IsBetween a b u → IsBetween a b v
    → AllOf (λ r. holds_at r (along x y u) ≡ holds_at r (along x y v)) rows
each_still [] x y a b u v e none i j = tt
each_still (r ∷ rows) x y a b u v e none i j =
    (still_truth r x y a b u v e (λ p k t. none p k (inl t)) i j, each_still rows x y a b u v e (λ p k t. none p k (inr t)) i j)

-- what lies strictly between two places is a place
pub inside_place : (a b p : Number) → IsPlace a → IsPlace b → IsBetween a b p → IsPlace p
inside_place a b p i j h = record { from = lt_asym nought p (le-lt_trans nought a p i.from h.left); upto = lt_asym p unit (lt-le_trans p b unit h.right j.upto) }

-- between two neighbours each row keeps its truth
pub neighbours_truth : (rows : List PlainRow) (x y : PlainPoint) (a b u v : Number) → length x ≡ length y → AreNeighbours rows x y a b
    → IsBetween a b u → IsBetween a b v
    → AllOf (λ r. holds_at r (along x y u) ≡ holds_at r (along x y v)) rows
neighbours_truth rows x y a b u v e n i j =
    each_still rows x y a b u v e (λ p k t. n.clear p (record { place = inside_place a b p n.left.place n.right.place k; why = inr (inr t) }) k.left k.right) i j

-- a piece whose rows have one truth at two points holds at the second where it holds at the first
pub piece_carried : (rows : PlainPiece) (p q : PlainPoint) → AllOf (λ r. holds_at r p ≡ holds_at r q) rows → InPiece rows p → InPiece rows q
piece_carried [] p q same h = tt
piece_carried (r ∷ rows) p q same h = (sym same.0 ∙ h.0, piece_carried rows p q same.1 h.1)

-- the same of a list of pieces
pub some_carried : (pieces : List PlainPiece) (p q : PlainPoint) → AllOf (λ r. holds_at r p ≡ holds_at r q) (rows_of pieces) → InSome pieces p
    → InSome pieces q
some_carried [] p q same h = absurd h
some_carried (piece ∷ pieces) p q same (inl h) = inl (piece_carried piece p q (all_split _ piece (rows_of pieces) same).0 h)
some_carried (piece ∷ pieces) p q same (inr h) = inr (some_carried pieces p q (all_split _ piece (rows_of pieces) same).1 h)
