-- What has a play is found, where a further layer adds nothing.
use Rattle.std.specs.Prelude.{◌≡◌, ◌≤◌, ℕ, zero, suc, false, List, [], ◌∷◌, ◌++◌, length}
use Rattle.std.proofs.Common.{refl, sym, ap, ◌∙◌, inl, inr, arith, subst}
use Rattle.lhg_math.specs.Number.{Number, add, mul, neg, lt, nought, unit, mid}
use Rattle.lhg_math.specs.NumberOrder.{lt_antisymm}
use Rattle.lhg_math.specs.Places.{IsPlace}
use Rattle.lhg_math.specs.PlacesLaws.{start_place}
use Rattle.lhg_math.specs.Tests.{by_bool}
use Rattle.lhg_row.specs.Row.{PlainPoint}
use Rattle.lhg_row.specs.Piece.{PlainPiece, InSome}
use Rattle.lhg_motion.specs.Segment.{along}
use Rattle.lhg_motion.specs.SegmentLemmas.{along_start, along_end}
use Rattle.lhg_motion.specs.Flow.{IsFlow}
use Rattle.lhg_motion.specs.Join.{flow_part}
use Rattle.lhg_motion.specs.Play.{PlainMove, IsPlay, last_point, EachPoint}
use Rattle.lhg_motion.specs.CheckPoint.{rows_of, IsCut, AreNeighbours}
use Rattle.lhg_motion.specs.CheckLemmas.{inside_place}
use Rattle.lhg_motion.specs.CheckList.{all_cuts}
use Rattle.lhg_motion.specs.CheckPlaces.{mid_between}
use Rattle.lhg_row.specs.Members.{SomeOf}
use Rattle.lhg_motion.specs.Crossing.{GoesThrough}
use Rattle.lhg_motion.specs.Reach.{HasPlay, IsSettled}
use Rattle.lhg_row.specs.SomeLists.{in_left, in_either}
use Rattle.lhg_motion.specs.PlayPoints.{inside_flow, inside_rest}
use Rattle.lhg_motion.specs.StepLemmas.{to_step}
use Rattle.lhg_motion.specs.NextCut.{cut_through, above, above_lt, next_cut}

-- a set of points that every crossing into it starts in
abbrev pub GoesBack : List PlainPiece → PlainPiece → (PlainPoint → Type 0) → Type 0
GoesBack ways flow K = (a b : PlainPoint) (s : Number) → IsFlow [] flow a s b → InSome ways a → SomeOf (λ w. GoesThrough w a b) ways → K b → K a

module _ (ways : List PlainPiece) (flow : PlainPiece) (K : PlainPoint → Type 0) (back : GoesBack ways flow K) (x y : PlainPoint) (t : Number) (legal : IsFlow [] flow x t y) (inside : (p : Number) → IsPlace p → InSome ways (along x y p)) (last : K y) where
  at_end : (p : Number) → IsPlace p → lt p unit ≡ false → K (along x y p)
  at_end p i f = subst (λ (w : PlainPoint). K w) (sym (ap (λ w. along x y w) (lt_antisymm p unit f i.upto) ∙ along_end x y legal.same_length)) last

  -- from the end of a part to its start
  part_back : (p q : Number) → AreNeighbours (rows_of ways) x y p q → K (along x y q) → K (along x y p)
  part_back p q n k =
      back (along x y p) (along x y q) (mul (add q (neg p)) t) (flow_part [] flow x y t p q legal n.left.place n.right.place n.order) (inside p n.left.place)
      (cut_through ways x y p q legal.same_length n (inside (mid p q) (inside_place p q (mid p q) n.left.place n.right.place (mid_between p q n.order)))) k

  -- from the last cut back to the first
  walk : (n : ℕ) (p : Number) → IsCut (rows_of ways) x y p → above (rows_of ways) x y p (all_cuts x y legal.same_length (rows_of ways)).cuts ≤ n → K (along x y p)
  walk zero p cut bound =
      by_bool (lt p unit)
      (λ less.
      let next = next_cut (rows_of ways) x y legal.same_length p cut less in
      let fewer = above_lt (rows_of ways) x y p next.at next.neighbours.order (all_cuts x y legal.same_length (rows_of ways)).cuts ((all_cuts x y legal.same_length (rows_of ways)).all next.at next.neighbours.right) in
      absurd (omega arith))
      (λ f. at_end p cut.place f)
  walk (suc n) p cut bound =
      by_bool (lt p unit)
      (λ less.
      let next = next_cut (rows_of ways) x y legal.same_length p cut less in
      let fewer = above_lt (rows_of ways) x y p next.at next.neighbours.order (all_cuts x y legal.same_length (rows_of ways)).cuts ((all_cuts x y legal.same_length (rows_of ways)).all next.at next.neighbours.right) in
      part_back p next.at next.neighbours (walk n next.at next.neighbours.right (omega arith)))
      (λ f. at_end p cut.place f)

  -- from the end of the flow to its start
  pub flow_back : K x
  flow_back =
      subst (λ (w : PlainPoint). K w) (along_start x y legal.same_length)
      (walk (above (rows_of ways) x y nought (all_cuts x y legal.same_length (rows_of ways)).cuts) nought (record { place = start_place; why = inl refl }) (omega arith))

-- from the last flow back to the first
pub play_back : (ways : List PlainPiece) (flow : PlainPiece) (K : PlainPoint → Type 0) → GoesBack ways flow K → (x : PlainPoint) (moves : List PlainMove) → IsPlay [] flow x moves → EachPoint (λ p. InSome ways p) x moves → K (last_point x moves) → K x
play_back ways flow K back x [] l h k = k
play_back ways flow K back x (m ∷ ms) l h k =
    flow_back ways flow K back x m.to m.time l.0 (inside_flow (λ p. InSome ways p) x m ms l.0.same_length h) (play_back ways flow K back m.to ms l.1 (inside_rest (λ p. InSome ways p) x m ms h) k)

-- where a further layer adds nothing, what has a play is known
pub known_whole : (d : ℕ) (bad near known : List PlainPiece) (flow : PlainPiece) → ((x : PlainPoint) → InSome bad x → InSome known x) → IsSettled d near (bad ++ near) known flow → (x : PlainPoint) → length x ≡ d → HasPlay bad near flow x → InSome known x
known_whole d bad near known flow sub settled x e h =
    play_back (bad ++ near) flow (λ p. length p ≡ d → InSome known p)
    (λ a b s f i g k l. elim (in_either bad near a i) [
      | inl j ↦ sub a j
      | inr j ↦ settled a l (to_step near (bad ++ near) known flow a (record { from_in = j; time = s; to = b; legal = f; passes = g; into = k (sym f.same_length ∙ l) }))
    ])
    x h.moves h.legal h.inside (λ l. sub (last_point x h.moves) h.ends) e

-- where a further layer adds nothing, what has a play is in a bad or found piece
pub reach_whole : (d : ℕ) (bad near found : List PlainPiece) (flow : PlainPiece) → IsSettled d near (bad ++ near) (bad ++ found) flow → (x : PlainPoint) → length x ≡ d → HasPlay bad near flow x → InSome (bad ++ found) x
reach_whole d bad near found flow settled = known_whole d bad near (bad ++ found) flow (in_left bad found) settled
