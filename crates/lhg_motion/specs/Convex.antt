-- What holds at the ends of a segment holds between them: pieces are convex, between lies inside, one crossing place per row.
use Rattle.std.specs.Prelude.{◌≡◌, ◌↔◌, Bool, true, false, not, [], ◌∷◌, length}
use Rattle.std.proofs.Common.{sym, ap, ◌∙◌}
use Rattle.std.proofs.lemmas.Bool.{not-true}
use Rattle.lhg_math.specs.Number.{Number, lt, nought, unit}
use Rattle.lhg_math.specs.NumberOrder.{lt_asym}
use Rattle.lhg_math.specs.Interpolate.{interpolate}
use Rattle.lhg_math.specs.InterpolateLaws.{interpolate_same}
use Rattle.lhg_math.specs.Places.{IsPlace, IsInner}
use Rattle.lhg_math.specs.PlacesLaws.{nonpos_at, negative_at, negative_left, negative_inside, start_nonpos, inner_place}
use Rattle.lhg_math.specs.Crossings.{SameSign, one_crossing, end_nonpos}
use Rattle.lhg_math.specs.Tests.{by_bool, false_true}
use Rattle.lhg_row.specs.Row.{PlainRow, PlainPoint, value_at, holds_at, relaxed}
use Rattle.lhg_row.specs.Piece.{PlainPiece, InPiece, InClosure}
use Rattle.lhg_motion.specs.Segment.{along, HasOneTurn}
use Rattle.lhg_motion.specs.SegmentLemmas.{excess, fits_sign, holds_excess, excess_along, same_truth, value_along, along_end}

-- the sign tests
strict_sign : (s : Bool) (e : Number) → s ≡ true → fits_sign s e ≡ true → lt e nought ≡ true
strict_sign true e i h = h
strict_sign false e i h = false_true i

-- no row holds where its excess is above 0
weak_sign : (s : Bool) (e : Number) → fits_sign s e ≡ true → lt nought e ≡ false
weak_sign true e h = lt_asym e nought h
weak_sign false e h = not-true (lt nought e) h

-- a strict row holds where its excess is below 0
sign_strict : (s : Bool) (e : Number) → s ≡ true → lt e nought ≡ true → fits_sign s e ≡ true
sign_strict true e i h = h
sign_strict false e i h = false_true i

-- a weak row holds where its excess is not above 0
sign_weak : (s : Bool) (e : Number) → s ≡ false → lt nought e ≡ false → fits_sign s e ≡ true
sign_weak true e i h = false_true (sym i)
sign_weak false e i h = ap not h

-- a row that holds at both ends holds at each place between them
pub row_convex : (r : PlainRow) (x y : PlainPoint) (p : Number) → length x ≡ length y → holds_at r x ≡ true → holds_at r y ≡ true → IsPlace p
    → holds_at r (along x y p) ≡ true
row_convex r x y p e h k i =
    let a = excess r x in
    let b = excess r y in
    let ha : fits_sign r.strict a ≡ true = sym (holds_excess r x) ∙ h in
    let kb : fits_sign r.strict b ≡ true = sym (holds_excess r y) ∙ k in
    holds_excess r (along x y p) ∙ ap (fits_sign r.strict) (excess_along r x y p e)
    ∙ by_bool r.strict
    (λ s. sign_strict r.strict (interpolate a b p) s (negative_at a b p (strict_sign r.strict a s ha) (strict_sign r.strict b s kb) i))
    (λ s. sign_weak r.strict (interpolate a b p) s (nonpos_at a b p (weak_sign r.strict a ha) (weak_sign r.strict b kb) i))

-- a row that holds relaxed at both ends and at one inner place holds at each inner place
pub row_between : (r : PlainRow) (x y : PlainPoint) (p q : Number) → length x ≡ length y → holds_at (relaxed r) x ≡ true
    → holds_at (relaxed r) y ≡ true → IsInner p → holds_at r (along x y p) ≡ true → IsInner q
    → holds_at r (along x y q) ≡ true
row_between r x y p q e h k i m j =
    let a = excess r x in
    let b = excess r y in
    let ha = weak_sign false a (sym (holds_excess (relaxed r) x) ∙ h) in
    let kb = weak_sign false b (sym (holds_excess (relaxed r) y) ∙ k) in
    let mp : fits_sign r.strict (interpolate a b p) ≡ true = ap (fits_sign r.strict) (sym (excess_along r x y p e)) ∙ sym (holds_excess r (along x y p)) ∙ m in
    holds_excess r (along x y q) ∙ ap (fits_sign r.strict) (excess_along r x y q e)
    ∙ by_bool r.strict
    (λ s. sign_strict r.strict (interpolate a b q) s (negative_inside a b p q ha kb i (strict_sign r.strict (interpolate a b p) s mp) j))
    (λ s. sign_weak r.strict (interpolate a b q) s (nonpos_at a b q ha kb (inner_place q j)))

-- a row that holds at the start and relaxed at the end holds at each inner place
row_towards : (r : PlainRow) (x y : PlainPoint) (p : Number) → length x ≡ length y → holds_at r x ≡ true → holds_at (relaxed r) y ≡ true → IsInner p
    → holds_at r (along x y p) ≡ true
row_towards r x y p e h k i =
    let a = excess r x in
    let b = excess r y in
    let ha : fits_sign r.strict a ≡ true = sym (holds_excess r x) ∙ h in
    let kb = weak_sign false b (sym (holds_excess (relaxed r) y) ∙ k) in
    holds_excess r (along x y p) ∙ ap (fits_sign r.strict) (excess_along r x y p e)
    ∙ by_bool r.strict
    (λ s. sign_strict r.strict (interpolate a b p) s (negative_left a b p (strict_sign r.strict a s ha) kb i))
    (λ s. sign_weak r.strict (interpolate a b p) s (nonpos_at a b p (weak_sign r.strict a ha) kb (inner_place p i)))

-- a row that holds at each inner place holds relaxed at both ends
pub row_ends : (r : PlainRow) (x y : PlainPoint) → length x ≡ length y → ((p : Number) → IsInner p → holds_at r (along x y p) ≡ true)
    → (holds_at (relaxed r) x ≡ true) × (holds_at (relaxed r) y ≡ true)
row_ends r x y e h =
    let a = excess r x in
    let b = excess r y in
    let inside : (p : Number) → IsInner p → lt nought (interpolate a b p) ≡ false = λ (p : Number) (i : IsInner p). weak_sign r.strict (interpolate a b p) (ap (fits_sign r.strict) (sym (excess_along r x y p e)) ∙ sym (holds_excess r (along x y p)) ∙ h p i) in
    (holds_excess (relaxed r) x ∙ ap not (start_nonpos a b inside), holds_excess (relaxed r) y ∙ ap not (end_nonpos a b inside))

-- a piece that holds at both ends holds at each place between them
pub piece_convex : (rows : PlainPiece) (x y : PlainPoint) (p : Number) → length x ≡ length y → InPiece rows x → InPiece rows y → IsPlace p
    → InPiece rows (along x y p)
piece_convex [] x y p e h k i = tt
piece_convex (r ∷ rows) x y p e h k i = (row_convex r x y p e h.0 k.0 i, piece_convex rows x y p e h.1 k.1 i)

-- between lies inside
pub piece_between : (rows : PlainPiece) (x y : PlainPoint) (p q : Number) → length x ≡ length y → InClosure rows x → InClosure rows y → IsInner p
    → InPiece rows (along x y p) → IsInner q → InPiece rows (along x y q)
piece_between [] x y p q e h k i m j = tt
piece_between (r ∷ rows) x y p q e h k i m j = (row_between r x y p q e h.0 k.0 i m.0 j, piece_between rows x y p q e h.1 k.1 i m.1 j)

-- a piece that holds at the start and relaxed at the end holds at each inner place
pub piece_towards : (rows : PlainPiece) (x y : PlainPoint) (p : Number) → length x ≡ length y → InPiece rows x → InClosure rows y → IsInner p
    → InPiece rows (along x y p)
piece_towards [] x y p e h k i = tt
piece_towards (r ∷ rows) x y p e h k i = (row_towards r x y p e h.0 k.0 i, piece_towards rows x y p e h.1 k.1 i)

-- a piece that holds at each inner place holds relaxed at both ends
pub piece_ends : (rows : PlainPiece) (x y : PlainPoint) → length x ≡ length y → ((p : Number) → IsInner p → InPiece rows (along x y p))
    → InClosure rows x × InClosure rows y
piece_ends [] x y e h = (tt, tt)
piece_ends (r ∷ rows) x y e h =
    let s = row_ends r x y e (λ p i. (h p i).0) in
    let t = piece_ends rows x y e (λ p i. (h p i).1) in
    ((s.0, t.0), (s.1, t.1))

-- the signs of the excess at two places are those of the numbers that move evenly between its ends
carried : (r : PlainRow) (x y : PlainPoint) (p q : Number) → length x ≡ length y
    → SameSign (interpolate (excess r x) (excess r y) p) (interpolate (excess r x) (excess r y) q)
    → SameSign (excess r (along x y p)) (excess r (along x y q))
carried r x y p q e h =
    let ep = excess_along r x y p e in
    let eq = excess_along r x y q e in
    record {
      below = ap (λ w. lt w nought) ep ∙ h.below ∙ ap (λ w. lt w nought) (sym eq);
      above = ap (λ w. lt nought w) ep ∙ h.above ∙ ap (λ w. lt nought w) (sym eq);
    }

-- a row changes its truth at one place at most
pub row_turns : (r : PlainRow) (x y : PlainPoint) → length x ≡ length y → HasOneTurn r x y
row_turns r x y e =
    let c = one_crossing (excess r x) (excess r y) in
    record {
      at = c.at;
      before = λ p q i j. same_truth r _ _ (carried r x y p q e (c.before p q i j));
      after = λ p q i j. same_truth r _ _ (carried r x y p q e (c.after p q i j));
    }

-- a row has one value along a segment exactly where it has one value at the ends
pub row_constant : (r : PlainRow) (x y : PlainPoint) → length x ≡ length y
    → (value_at r x ≡ value_at r y) ↔ ((p : Number) → value_at r (along x y p) ≡ value_at r x)
row_constant r x y e = (
  λ same p. value_along r x y p e ∙ ap (λ w. interpolate (value_at r x) w p) (sym same) ∙ interpolate_same (value_at r x) p,
  λ all. sym (all unit) ∙ ap (value_at r) (along_end x y e),
)
