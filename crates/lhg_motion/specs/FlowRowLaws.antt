-- Where does a row hold that asks of the speed between two points?
use Rattle.std.specs.Prelude.{◌≡◌, ℕ, ◌+◌, true, not, cond, List, [], ◌∷◌, ◌++◌, map, length, replicate}
use Rattle.std.proofs.Common.{refl, sym, ap, ◌∙◌, arith}
use Rattle.std.proofs.lemmas.List.{length-append, length-replicate, length-map}
use Rattle.lhg_math.specs.Number.{Number, add, mul, neg, lt, nought, unit}
use Rattle.lhg_math.specs.NumberRing.{sums, mul-add, mul_left_comm, mul_comm, mul-nought, neg-mul, neg-add, add-neg, add_assoc, nought-add}
use Rattle.lhg_math.specs.NumberOrder.{lt-mul, lt-difference, difference-lt, neg-lt_nought}
use Rattle.lhg_math.specs.InterpolateLaws.{unit-mul}
use Rattle.lhg_row.specs.Row.{PlainRow, PlainPoint, row_value, value_at, holds_at}
use Rattle.lhg_row.specs.Piece.{PlainPiece, in_piece}
use Rattle.lhg_row.specs.Width.{AllWide}
use Rattle.lhg_motion.specs.Flow.{displacement, times}
use Rattle.lhg_math.specs.NumberRing.{sub_is}
use Rattle.lhg_row.specs.MappedLaws.{in_piece-mapped, mapped-wide}
use Rattle.lhg_row.specs.WidenedLaws.{value-append, value-noughts}
use Rattle.lhg_motion.specs.JoinedLaws.{fits_value, value_from, doubled-length}
use Rattle.lhg_motion.specs.CrossCalculus.{at_flow, forward}

-- ---- values
less_step : (s u c x : Number) → add (add s (neg u)) (mul (neg c) x) ≡ add s (neg (add u (mul c x)))
less_step s u c x = ap (λ w. add (add s (neg u)) w) (neg-mul c x) ∙ add_assoc s (neg u) (neg (mul c x)) ∙ ap (λ w. add s w) (sym (neg-add u (mul c x)))

-- negated coefficients take the value away
value_less : (s u : Number) (cs : List Number) (xs : PlainPoint) → row_value (add s (neg u)) (map neg cs) xs ≡ add s (neg (row_value u cs xs))
value_less s u [] xs = refl
value_less s u (c ∷ cs) [] = refl
value_less s u (c ∷ cs) (x ∷ xs) = ap (λ w. row_value w (map neg cs) xs) (less_step s u c x) ∙ value_less s (add u (mul c x)) cs xs

gap_step : (s t c x y : Number) → add (add t (neg s)) (mul c (add y (neg x))) ≡ add (add t (mul c y)) (neg (add s (mul c x)))
gap_step s t c x y = simp sums

-- the value on the differences is the difference of the values
pub value_gap : (s t : Number) (cs : List Number) (xs ys : PlainPoint) → length xs ≡ length ys → row_value (add t (neg s)) cs (displacement xs ys) ≡ add (row_value t cs ys) (neg (row_value s cs xs))
value_gap s t [] xs ys e = refl
value_gap s t (c ∷ cs) [] [] e = refl
value_gap s t (c ∷ cs) [] (y ∷ ys) e = absurd (omega arith)
value_gap s t (c ∷ cs) (x ∷ xs) [] e = absurd (omega arith)
value_gap s t (c ∷ cs) (x ∷ xs) (y ∷ ys) e =
    ap (λ w. row_value w cs (displacement xs ys)) (ap (λ w. add (add t (neg s)) (mul c w)) (sub_is y x) ∙ gap_step s t c x y) ∙ value_gap (add s (mul c x)) (add t (mul c y)) cs xs ys (omega arith)

times_step : (t s c x : Number) → add (mul t s) (mul c (mul t x)) ≡ mul t (add s (mul c x))
times_step t s c x = ap (λ w. add (mul t s) w) (mul_left_comm c t x) ∙ sym (mul-add t s (mul c x))

-- the value on a multiple is the multiple of the value
value_times : (t s : Number) (cs f : List Number) → row_value (mul t s) cs (times t f) ≡ mul t (row_value s cs f)
value_times t s [] f = refl
value_times t s (c ∷ cs) [] = refl
value_times t s (c ∷ cs) (x ∷ f) = ap (λ w. row_value w cs (times t f)) (times_step t s c x) ∙ value_times t (add s (mul c x)) cs f

-- ---- flow rows
-- the row over x, y and t holds where the row holds at the speed that leads from x to y in the time t
pub flow-holds : (r : PlainRow) (x y f : PlainPoint) (t : Number) → length x ≡ length y → length r.coefs ≡ length x → displacement x y ≡ times t f → lt nought t ≡ true
    → holds_at (at_flow r) (x ++ y ++ t ∷ []) ≡ holds_at r f
flow-holds r x y f t e l slope up =
    let vx = value_at r x in
    let vy = value_at r y in
    let vf = value_at r f in
    let cs = map neg r.coefs in
    let lc : length cs ≡ length x = length-map r.coefs neg ∙ l in
    let back : row_value nought cs x ≡ neg vx = ap (λ w. row_value w cs x) (sym (add-neg nought)) ∙ value_less nought nought r.coefs x ∙ nought-add (neg vx) in
    let gap : add vy (neg vx) ≡ mul t vf =
    sym (value_gap nought nought r.coefs x y e) ∙ ap (λ w. row_value w r.coefs (displacement x y)) (add-neg nought) ∙ ap (λ w. row_value nought r.coefs w) slope
    ∙ ap (λ w. row_value w r.coefs (times t f)) (sym (mul-nought t)) ∙ value_times t nought r.coefs f in
    let sum : row_value nought (cs ++ r.coefs ++ neg r.bound ∷ []) (x ++ y ++ t ∷ []) ≡ add (mul t vf) (neg (mul t r.bound)) =
    value-append nought (cs ++ r.coefs) (neg r.bound ∷ []) (x ++ y) (t ∷ []) (doubled-length cs r.coefs x y lc (l ∙ e))
    ∙ ap (λ w. add w (mul (neg r.bound) t)) (value-append nought cs r.coefs x y lc ∙ ap (λ w. row_value w r.coefs y) back ∙ value_from (neg vx) r.coefs y ∙ gap)
    ∙ ap (λ w. add (mul t vf) w) (neg-mul r.bound t ∙ ap neg (mul_comm r.bound t)) in
    ap (fits_value r.strict nought) sum
    ∙ ap (λ b. cond r.strict b (not (lt nought (add (mul t vf) (neg (mul t r.bound)))))) (difference-lt (mul t r.bound) (mul t vf) ∙ lt-mul t vf r.bound up)
    ∙ ap (λ b. cond r.strict (lt vf r.bound) (not b)) (lt-difference (mul t r.bound) (mul t vf) ∙ lt-mul t r.bound vf up)

-- it has two coefficients for each, and one more
flow-length : (n : ℕ) (r : PlainRow) → length r.coefs ≡ n → length (at_flow r).coefs ≡ n + n + 1
flow-length n r e = omega (arith, e, length-append (map neg r.coefs ++ r.coefs) (neg r.bound ∷ []), length-append (map neg r.coefs) r.coefs, length-map r.coefs neg)

module _ (n : ℕ) (rows : PlainPiece) (wide : AllWide n rows) where
  -- so have the rows of a list
  pub all_flow-wide : AllWide (n + n + 1) (map at_flow rows)
  all_flow-wide = mapped-wide n (n + n + 1) at_flow (λ r e. flow-length n r e) rows wide

  -- and they hold where the list holds at the speed
  pub all_flow-hold : (x y f : PlainPoint) (t : Number) → length x ≡ n → length y ≡ n → displacement x y ≡ times t f → lt nought t ≡ true → in_piece (map at_flow rows) (x ++ y ++ t ∷ []) ≡ in_piece rows f
  all_flow-hold x y f t lx ly slope up = in_piece-mapped n at_flow (λ r. holds_at r f) (x ++ y ++ t ∷ []) (λ r e. flow-holds r x y f t (lx ∙ sym ly) (e ∙ sym lx) slope up) rows wide

-- ---- time
-- -t < 0 holds where t is above 0
pub forward-holds : (n : ℕ) (x y : PlainPoint) (t : Number) → length x ≡ n → length y ≡ n → holds_at (forward n) (x ++ y ++ t ∷ []) ≡ lt nought t
forward-holds n x y t lx ly =
    let zs : List Number = replicate (n + n) nought in
    let long : length zs ≡ length (x ++ y) = omega (arith, lx, ly, length-replicate (n + n) nought, length-append x y) in
    let e : row_value nought (zs ++ neg unit ∷ []) (x ++ y ++ t ∷ []) ≡ neg t =
    value-append nought zs (neg unit ∷ []) (x ++ y) (t ∷ []) long
    ∙ ap (λ w. add w (mul (neg unit) t)) (value-noughts (n + n) nought (x ++ y))
    ∙ nought-add (mul (neg unit) t) ∙ neg-mul unit t ∙ ap neg (unit-mul t) in
    ap (λ w. lt w nought) e ∙ neg-lt_nought t

-- it has two coefficients for each variable, and one more
pub forward-length : (n : ℕ) → length (forward n).coefs ≡ n + n + 1
forward-length n = omega (arith, length-append (replicate (n + n) nought) (neg unit ∷ []), length-replicate (n + n) nought)
