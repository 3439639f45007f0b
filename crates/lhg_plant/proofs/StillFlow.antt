-- A flow at which the rows of stillness hold ends where it began.
use Rattle.std.proofs.Common.{◌≡◌, ◌<◌, ◌≤◌, ◌+◌, ℕ, zero, suc, false, List, [], ◌∷◌, length, get_or, replicate, refl, sym, ap, ◌∙◌, inl, inr, arith}
use Rattle.std.proofs.lemmas.Bool.{not-true}
use Rattle.lhg_math.specs.Number.{Number, add, mul, neg, sub, lt, nought, unit}
use Rattle.lhg_math.specs.NumberRing.{add-nought, nought-add, nought-mul, mul-nought, neg-mul}
use Rattle.lhg_math.specs.NumberOrder.{lt_irrefl, lt_antisymm, lt-nought_neg, lt-difference, difference-lt}
use Rattle.lhg_math.specs.InterpolateLaws.{interpolate_same, unit-mul}
use Rattle.lhg_row.specs.Row.{PlainPoint, row_value}
use Rattle.lhg_row.specs.Piece.{PlainPiece, InPiece}
use Rattle.lhg_motion.specs.Segment.{along}
use Rattle.lhg_motion.specs.Flow.{displacement, times, IsFlow}
use Rattle.lhg_math.specs.NumberRing.{sub_is}
use Rattle.lhg_motion.specs.Join.{length-speed}
use Rattle.lhg_row.specs.Decisions.{nat_decided}
use Rattle.lhg_plant.specs.Still.{axis, still_from, still_rows}

-- coefficients 0 add nothing
zeros_value : (n : ℕ) (s : Number) (f : List Number) → row_value s (replicate n nought) f ≡ s
zeros_value zero s f = refl
zeros_value (suc n) s [] = refl
zeros_value (suc n) s (x ∷ f) = zeros_value n (add s (mul nought x)) f ∙ ap (λ w. add s w) (nought-mul x) ∙ add-nought s

-- a row of one variable has its coefficient times that variable as its value
axis_value : (n v : ℕ) (c s : Number) (f : List Number) → length f ≡ n → row_value s (axis n v c) f ≡ add s (mul c (get_or f v nought))
axis_value zero v c s [] e = sym (ap (λ w. add s w) (mul-nought c) ∙ add-nought s)
axis_value zero v c s (x ∷ f) e = absurd (omega arith)
axis_value (suc n) v c s [] e = absurd (omega arith)
axis_value (suc n) zero c s (x ∷ f) e = zeros_value n (add s (mul c x)) f
axis_value (suc n) (suc v) c s (x ∷ f) e =
    axis_value n v c (add s (mul nought x)) f (omega arith) ∙ ap (λ w. add w (mul c (get_or f v nought))) (ap (λ w. add s w) (nought-mul x) ∙ add-nought s)

-- the rows v <= 0 and -v <= 0 leave the one value 0
only_nought : (n v : ℕ) (f : List Number) → length f ≡ n → lt nought (row_value nought (axis n v unit) f) ≡ false
    → lt nought (row_value nought (axis n v (neg unit)) f) ≡ false
    → get_or f v nought ≡ nought
only_nought n v f e h k =
    let x = get_or f v nought in
    let up : row_value nought (axis n v unit) f ≡ x = axis_value n v unit nought f e ∙ nought-add (mul unit x) ∙ unit-mul x in
    let down : row_value nought (axis n v (neg unit)) f ≡ neg x = axis_value n v (neg unit) nought f e ∙ nought-add (mul (neg unit) x) ∙ neg-mul unit x ∙ ap neg (unit-mul x) in
    lt_antisymm x nought (sym (lt-nought_neg x) ∙ ap (λ w. lt nought w) (sym down) ∙ k) (ap (λ w. lt nought w) (sym up) ∙ h)

-- at a point of the rows of m variables from v on, each of these variables is 0
nought_from : (n v m : ℕ) (f : List Number) → length f ≡ n → InPiece (still_from n v m) f → (k : ℕ) → v ≤ k → k < v + m → get_or f k nought ≡ nought
nought_from n v zero f e h k low high = absurd (omega arith)
nought_from n v (suc m) f e h k low high =
    elim (nat_decided k v) [
      | inl same ↦ (let here : get_or f v nought ≡ nought = only_nought n v f e (not-true _ h.0) (not-true _ h.1.0) in ap (λ (w : ℕ). get_or f w nought) same ∙ here)
      | inr other ↦ nought_from n (suc v) m f e h.1.1 k (omega arith) (omega arith)
    ]

-- at a point of all rows of stillness each variable is 0
each_nought : (n : ℕ) (f : List Number) → length f ≡ n → InPiece (still_rows n) f → (k : ℕ) → k < length f → get_or f k nought ≡ nought
each_nought n f e h k less = nought_from n zero n f e h k (omega arith) (omega arith)

-- where the difference is 0 the numbers are equal
same_number : (a b : Number) → sub b a ≡ nought → b ≡ a
same_number a b e =
    let d : add b (neg a) ≡ nought = sym (sub_is b a) ∙ e in
    lt_antisymm b a
    (sym (difference-lt a b) ∙ ap (λ w. lt w nought) d ∙ lt_irrefl nought)
    (sym (lt-difference a b) ∙ ap (λ w. lt nought w) d ∙ lt_irrefl nought)

-- a displacement that is a multiple of zeros leads nowhere
same_end : (x y : PlainPoint) (t : Number) (f : List Number) → length x ≡ length y → displacement x y ≡ times t f
    → ((k : ℕ) → k < length f → get_or f k nought ≡ nought) → y ≡ x
same_end [] [] t f l e h = refl
same_end [] (b ∷ y) t f l e h = absurd (omega arith)
same_end (a ∷ x) [] t f l e h = absurd (omega arith)
same_end (a ∷ x) (b ∷ y) t [] l e h = absurd (let n : suc (length (displacement x y)) ≡ 0 = ap length e in omega arith)
same_end (a ∷ x) (b ∷ y) t (c ∷ f) l e h =
    let head : sub b a ≡ mul t c = cc in
    let tail : displacement x y ≡ times t f = cc in
    let here : b ≡ a = same_number a b (head ∙ ap (λ w. mul t w) (h zero (omega arith)) ∙ mul-nought t) in
    ap (λ w. w ∷ y) here ∙ ap (λ w. a ∷ w) (same_end x y t f (omega arith) tail (λ k less. h (suc k) (omega arith)))

-- a flow in a still location ends where it began
pub still_end : (inv : PlainPiece) (n : ℕ) (x : PlainPoint) (t : Number) (y : PlainPoint) → length x ≡ n → IsFlow inv (still_rows n) x t y → y ≡ x
still_end inv n x t y e h = same_end x y t h.speed h.same_length h.slope (each_nought n h.speed (length-speed h ∙ e) h.allowed)

-- each place of a segment from a point to itself is that point
pub along_same : (x : PlainPoint) (p : Number) → along x x p ≡ x
along_same [] p = refl
along_same (a ∷ x) p = ap (λ w. w ∷ along x x p) (interpolate_same a p) ∙ ap (λ w. a ∷ w) (along_same x p)
