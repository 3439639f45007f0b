-- Where does a row hold that asks of the middle of two points?
use Rattle.std.specs.Prelude.{◌≡◌, ℕ, ◌+◌, true, not, cond, [], ◌∷◌, ◌++◌, length}
use Rattle.std.proofs.Common.{sym, ap, ◌∙◌, arith, subst}
use Rattle.std.proofs.lemmas.List.{length-append}
use Rattle.lhg_math.specs.Number.{Number, add, mul, neg, lt, nought, unit, half}
use Rattle.lhg_math.specs.NumberRing.{add_comm, add_assoc, add_left_comm, add-nought, nought-mul, add-mul, add-neg}
use Rattle.lhg_math.specs.NumberOrder.{lt-mul, lt_asym, nought_unit}
use Rattle.lhg_math.specs.Quotients.{half-half}
use Rattle.lhg_math.specs.SumSigns.{add_positive}
use Rattle.lhg_math.specs.Interpolate.{interpolate}
use Rattle.lhg_math.specs.InterpolateLaws.{interpolate_is, unit-mul}
use Rattle.lhg_num.specs.Arithmetic.{Arithmetic}
use Rattle.lhg_num.specs.Marked.{each}
use Rattle.lhg_num.specs.MarkedLaws.{each-value}
use Rattle.lhg_row.specs.Row.{PlainRow, PlainPoint, row_value, value_at, holds_at}
use Rattle.lhg_row.specs.Piece.{PlainPiece, in_piece}
use Rattle.lhg_row.specs.Width.{AllWide}
use Rattle.lhg_motion.specs.Segment.{along}
use Rattle.lhg_motion.specs.SegmentLemmas.{value_along}
use Rattle.lhg_row.specs.MappedLaws.{in_piece-mapped, mapped-wide}
use Rattle.lhg_row.specs.WidenedLaws.{value-append}
use Rattle.lhg_motion.specs.JoinedLaws.{fits_value, value_from, doubled-length}
use Rattle.lhg_motion.specs.CrossCalculus.{at_middle}

-- ---- twice a number
abbrev two : Number
two = add unit unit

two_positive : lt nought two ≡ true
two_positive = add_positive unit unit nought_unit (lt_asym nought unit nought_unit)

double : (v : Number) → mul two v ≡ add v v
double v = add-mul v unit unit ∙ ap (λ w. add w w) (unit-mul v)

apart : (a h : Number) → add (add a h) (add a h) ≡ add (add a a) (add h h)
apart a h = simp (add_assoc, add_left_comm)

regrouped : (a b : Number) → add (add a a) (add b (neg a)) ≡ add (add b a) (add a (neg a))
regrouped a b = simp (add_assoc, add_left_comm, add_comm)

-- twice the middle is the sum
double_middle : (a b : Number) → mul two (interpolate a b half) ≡ add b a
double_middle a b =
    let d = add b (neg a) in
    let both : add (mul half d) (mul half d) ≡ d = sym (add-mul d half half) ∙ ap (λ w. mul w d) half-half ∙ unit-mul d in
    double (interpolate a b half) ∙ ap (λ w. add w w) (interpolate_is a b half) ∙ apart a (mul half d) ∙ ap (λ w. add (add a a) w) both
    ∙ regrouped a b ∙ ap (λ w. add (add b a) w) (add-neg a) ∙ add-nought (add b a)

-- ---- rows at the middle
-- the row over x, y and t holds where the row holds at the middle of x and y
pub middle-holds : (a : Arithmetic) (r : PlainRow) (x y : PlainPoint) (t : Number) → length x ≡ length y → length r.coefs ≡ length x
    → holds_at (at_middle a r).value (x ++ y ++ t ∷ []) ≡ holds_at r (along x y half)
middle-holds a r x y t e l =
    let vx = value_at r x in
    let vy = value_at r y in
    let m = value_at r (along x y half) in
    let sum : row_value nought (r.coefs ++ r.coefs ++ nought ∷ []) (x ++ y ++ t ∷ []) ≡ mul two m =
    value-append nought (r.coefs ++ r.coefs) (nought ∷ []) (x ++ y) (t ∷ []) (doubled-length r.coefs r.coefs x y l (l ∙ e))
    ∙ ap (λ w. add (row_value nought (r.coefs ++ r.coefs) (x ++ y)) w) (nought-mul t) ∙ add-nought (row_value nought (r.coefs ++ r.coefs) (x ++ y))
    ∙ value-append nought r.coefs r.coefs x y l
    ∙ value_from vx r.coefs y
    ∙ sym (double_middle vx vy)
    ∙ ap (λ w. mul two w) (sym (value_along r x y half e)) in
    ap (fits_value r.strict (mul two r.bound)) sum
    ∙ ap (λ b. cond r.strict b (not (lt (mul two r.bound) (mul two m)))) (lt-mul two m r.bound two_positive)
    ∙ ap (λ b. cond r.strict (lt m r.bound) (not b)) (lt-mul two r.bound m two_positive)

-- it has two coefficients for each, and one more
middle-length : (a : Arithmetic) (n : ℕ) (r : PlainRow) → length r.coefs ≡ n → length (at_middle a r).value.coefs ≡ n + n + 1
middle-length a n r e = omega (arith, e, length-append (r.coefs ++ r.coefs) (nought ∷ []), length-append r.coefs r.coefs)

module _ (a : Arithmetic) (n : ℕ) (rows : PlainPiece) (wide : AllWide n rows) where
  -- so have the rows of a list
  pub all_middle-wide : AllWide (n + n + 1) (each (at_middle a) rows).value
  all_middle-wide = subst (AllWide (n + n + 1)) (sym (each-value (at_middle a) rows)) (mapped-wide n (n + n + 1) (λ r. (at_middle a r).value) (λ r e. middle-length a n r e) rows wide)

  -- and they hold where the list holds at the middle
  pub all_middle-hold : (x y : PlainPoint) (t : Number) → length x ≡ n → length y ≡ n → in_piece (each (at_middle a) rows).value (x ++ y ++ t ∷ []) ≡ in_piece rows (along x y half)
  all_middle-hold x y t lx ly =
      ap (λ rs. in_piece rs (x ++ y ++ t ∷ [])) (each-value (at_middle a) rows)
      ∙ in_piece-mapped n (λ r. (at_middle a r).value) (λ r. holds_at r (along x y half)) (x ++ y ++ t ∷ []) (λ r e. middle-holds a r x y t (lx ∙ sym ly) (e ∙ sym lx)) rows wide
