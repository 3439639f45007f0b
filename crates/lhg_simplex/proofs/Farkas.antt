-- Why has a list of rows no point where a sum of them, each times a number, is false everywhere?
use Rattle.std.specs.Prelude.{◌≡◌, ℕ, zero, suc, ◌<◌, ◌≤◌, ◌+◌, ◌⊎◌, nat_eq, replicate, Bool, true, false, not, cond, ◌&&◌, ◌||◌, List, [], ◌∷◌, length, map, get_or}
use Rattle.std.proofs.Common.{refl, sym, ap, ◌∙◌, arith, inl, inr}
use Rattle.std.proofs.Math.Bool.{or_assoc, or-false, and-true}
use Rattle.std.proofs.Math.Nat.{eq-or-lt_of_le}
use Rattle.std.proofs.lemmas.Bool.{and_parts}
use Rattle.std.proofs.lemmas.List.{length-replicate}
use Rattle.lhg_math.specs.Number.{Number, add, mul, lt, nought}
use Rattle.lhg_math.specs.NumberRing.{sums, add_comm, add-nought, nought-mul, mul-nought}
use Rattle.lhg_math.specs.NumberOrder.{lt-add, lt-mul, lt_irrefl, lt_asym, lt-le_trans, le_trans}
use Rattle.lhg_math.specs.Signs.{is_nought, lead}
use Rattle.lhg_math.specs.SignLaws.{nought_is, is_nought-nought}
use Rattle.lhg_math.specs.Tests.{by_bool, false_true}
use Rattle.lhg_row.specs.Row.{PlainRow, PlainPoint, row_value, value_at, row_with, Holds}
use Rattle.lhg_row.specs.Piece.{PlainPiece, InPiece}
use Rattle.lhg_row.specs.Width.{AllWide}
use Rattle.lhg_row.specs.Column.{coef_at}
use Rattle.lhg_row.specs.ValueLaws.{no_value}
use Rattle.lhg_row.specs.ConstantLaws.{noughts-lead}
use Rattle.lhg_row.specs.NothingLaws.{noughts-get_or}
use Rattle.lhg_simplex.specs.Mixed.{bound_of, mixed, mixes_strict, none_negative, vanish, is_false_bound, refutes}

-- ---- row by row
-- the coefficients, and to each the multiple of another row's
abbrev pub plus_coefs : Number → List Number → List Number → List Number
plus_coefs m [] ds = []
plus_coefs m (c ∷ cs) [] = c ∷ cs
plus_coefs m (c ∷ cs) (d ∷ ds) = add c (mul m d) ∷ plus_coefs m cs ds

-- a row, and to it the multiple of another; it is strict where the first is, or the second is and has a multiplier other than 0
abbrev pub plus_row : Number → PlainRow → PlainRow → PlainRow
plus_row m r s = record { coefs = plus_coefs m r.coefs s.coefs; strict = r.strict || (s.strict && not (is_nought m)); bound = add r.bound (mul m s.bound) }

-- a row, and to it the multiples of others
abbrev pub plus_rows : PlainRow → List Number → PlainPiece → PlainRow
plus_rows r [] rows = r
plus_rows r (m ∷ ms) [] = r
plus_rows r (m ∷ ms) (s ∷ rows) = plus_rows (plus_row m r s) ms rows

-- ---- what holds of a sum
regroup : (s c x m d t : Number) → add (add s (mul m t)) (mul (add c (mul m d)) x) ≡ add (add s (mul c x)) (mul m (add t (mul d x)))
regroup s c x m d t = simp sums

-- the value of a sum is the sum of the values
value-plus : (m s t : Number) (cs ds : List Number) (x : PlainPoint) → length ds ≡ length cs
    → row_value (add s (mul m t)) (plus_coefs m cs ds) x ≡ add (row_value s cs x) (mul m (row_value t ds x))
value-plus m s t [] [] x e = refl
value-plus m s t [] (d ∷ ds) x e = absurd (omega arith)
value-plus m s t (c ∷ cs) [] x e = absurd (omega arith)
value-plus m s t (c ∷ cs) (d ∷ ds) [] e = refl
value-plus m s t (c ∷ cs) (d ∷ ds) (x ∷ xs) e =
    ap (λ w. row_value w (plus_coefs m cs ds) xs) (regroup s c x m d t) ∙ value-plus m (add s (mul c x)) (add t (mul d x)) cs ds xs (omega arith)

-- the value of a row plus a multiple at a point
value_at-plus : (m : Number) (r s : PlainRow) (x : PlainPoint) → length s.coefs ≡ length r.coefs → value_at (plus_row m r s) x ≡ add (value_at r x) (mul m (value_at s x))
value_at-plus m r s x e =
    ap (λ w. row_value w (plus_coefs m r.coefs s.coefs) x) (sym (add-nought nought) ∙ ap (λ w. add nought w) (sym (mul-nought m))) ∙ value-plus m nought nought r.coefs s.coefs x e

-- the length of a sum is that of its first row
plus_coefs-length : (m : Number) (cs ds : List Number) → length (plus_coefs m cs ds) ≡ length cs
plus_coefs-length m [] ds = refl
plus_coefs-length m (c ∷ cs) [] = refl
plus_coefs-length m (c ∷ cs) (d ∷ ds) = ap (λ n. suc n) (plus_coefs-length m cs ds)

-- ---- the parts of a sum of rows
-- a coefficient of a row plus a multiple
plus_coefs-get : (m : Number) (k : ℕ) (cs ds : List Number) → length ds ≡ length cs → get_or (plus_coefs m cs ds) k nought ≡ add (get_or cs k nought) (mul m (get_or ds k nought))
plus_coefs-get m k [] [] e = sym (add-nought nought) ∙ ap (λ w. add nought w) (sym (mul-nought m))
plus_coefs-get m k [] (d ∷ ds) e = absurd (omega arith)
plus_coefs-get m k (c ∷ cs) [] e = absurd (omega arith)
plus_coefs-get m zero (c ∷ cs) (d ∷ ds) e = refl
plus_coefs-get m (suc k) (c ∷ cs) (d ∷ ds) e = plus_coefs-get m k cs ds (omega arith)

-- a coefficient of a sum is the sum of the products
plus_rows-coef : (n k : ℕ) (r : PlainRow) (ms : List Number) (rows : PlainPiece) → length r.coefs ≡ n → AllWide n rows
    → coef_at k (plus_rows r ms rows) ≡ row_value (coef_at k r) ms (map (coef_at k) rows)
plus_rows-coef n k r [] rows e w = refl
plus_rows-coef n k r (m ∷ ms) [] e w = refl
plus_rows-coef n k r (m ∷ ms) (s ∷ rows) e w =
    plus_rows-coef n k (plus_row m r s) ms rows (plus_coefs-length m r.coefs s.coefs ∙ e) w.1
    ∙ ap (λ t. row_value t ms (map (coef_at k) rows)) (plus_coefs-get m k r.coefs s.coefs (w.0 ∙ sym e))

-- the bound of a sum is the sum of the products
plus_rows-bound : (r : PlainRow) (ms : List Number) (rows : PlainPiece) → (plus_rows r ms rows).bound ≡ row_value r.bound ms (map bound_of rows)
plus_rows-bound r [] rows = refl
plus_rows-bound r (m ∷ ms) [] = refl
plus_rows-bound r (m ∷ ms) (s ∷ rows) = plus_rows-bound (plus_row m r s) ms rows

-- a sum is strict where its first row is or some other adds a strict one
plus_rows-strict : (r : PlainRow) (ms : List Number) (rows : PlainPiece) → (plus_rows r ms rows).strict ≡ (r.strict || mixes_strict ms rows)
plus_rows-strict r [] rows = sym (or-false r.strict)
plus_rows-strict r (m ∷ ms) [] = sym (or-false r.strict)
plus_rows-strict r (m ∷ ms) (s ∷ rows) = plus_rows-strict (plus_row m r s) ms rows ∙ or_assoc r.strict (s.strict && not (is_nought m)) (mixes_strict ms rows)

-- the length of a sum is that of its first row
plus_rows-length : (r : PlainRow) (ms : List Number) (rows : PlainPiece) → length (plus_rows r ms rows).coefs ≡ length r.coefs
plus_rows-length r [] rows = refl
plus_rows-length r (m ∷ ms) [] = refl
plus_rows-length r (m ∷ ms) (s ∷ rows) = plus_rows-length (plus_row m r s) ms rows ∙ plus_coefs-length m r.coefs s.coefs

-- ---- order
-- a bound that holds and one that is at most
add_lt : (v b w d : Number) → lt v b ≡ true → lt d w ≡ false → lt (add v w) (add b d) ≡ true
add_lt v b w d h k =
    lt-le_trans (add v w) (add b w) (add b d) (lt-add v b w ∙ h) (ap (λ y. lt y (add b w)) (add_comm b d) ∙ ap (λ y. lt (add d b) y) (add_comm b w) ∙ lt-add d w b ∙ k)

-- two that are at most
add_le : (v b w d : Number) → lt b v ≡ false → lt d w ≡ false → lt (add b d) (add v w) ≡ false
add_le v b w d h k =
    le_trans (add v w) (add b w) (add b d) (lt-add b v w ∙ h) (ap (λ y. lt y (add b w)) (add_comm b d) ∙ ap (λ y. lt (add d b) y) (add_comm b w) ∙ lt-add d w b ∙ k)

-- the value fits the bound, as a row's kind asks
abbrev fits : Bool → Number → Number → Bool
fits strict v b = cond strict (lt v b) (not (lt b v))

-- what fits strictly fits
fits_weak : (v b : Number) → lt v b ≡ true → lt b v ≡ false
fits_weak v b h = lt_asym v b h

not_true : (b : Bool) → not b ≡ true → b ≡ false
not_true true h = false_true h
not_true false h = refl

-- sums of values fit sums of bounds
fits_sum : (s t : Bool) (v b w d : Number) → fits s v b ≡ true → fits t w d ≡ true → fits (s || t) (add v w) (add b d) ≡ true
fits_sum true true v b w d h k = add_lt v b w d h (fits_weak w d k)
fits_sum true false v b w d h k = add_lt v b w d h (not_true (lt d w) k)
fits_sum false true v b w d h k =
    ap (λ y. lt y (add b d)) (add_comm v w) ∙ ap (λ y. lt (add w v) y) (add_comm b d) ∙ add_lt w d v b k (not_true (lt b v) h)
fits_sum false false v b w d h k = ap not (add_le v b w d (not_true (lt b v) h) (not_true (lt d w) k))

-- a positive factor keeps a value below its bound
fits_times : (t : Bool) (m w d : Number) → lt nought m ≡ true → fits t w d ≡ true → fits t (mul m w) (mul m d) ≡ true
fits_times true m w d p h = lt-mul m w d p ∙ h
fits_times false m w d p h = ap not (lt-mul m d w p) ∙ h

-- ---- one row more
-- what is added to a row that holds holds too
plus_row-holds : (m : Number) (r s : PlainRow) (x : PlainPoint) → length s.coefs ≡ length r.coefs → not (lt m nought) ≡ true → Holds r x → Holds s x → Holds (plus_row m r s) x
plus_row-holds m r s x e p h k =
    let v = value_at r x in
    let w = value_at s x in
    ap (λ y. fits (r.strict || (s.strict && not (is_nought m))) y (add r.bound (mul m s.bound))) (value_at-plus m r s x e)
    ∙ by_bool (is_nought m)
    (λ z. rw z (none z))
    (λ z. rw z (some z))
  where
    none : is_nought m ≡ true → fits (r.strict || (s.strict && false)) (add (value_at r x) (mul m (value_at s x))) (add r.bound (mul m s.bound)) ≡ true
    none z =
        let zero_m = nought_is m z in
        let a : add (value_at r x) (mul m (value_at s x)) ≡ value_at r x = ap (λ y. add (value_at r x) (mul y (value_at s x))) zero_m ∙ ap (λ y. add (value_at r x) y) (nought-mul (value_at s x)) ∙ add-nought (value_at r x) in
        let b : add r.bound (mul m s.bound) ≡ r.bound = ap (λ y. add r.bound (mul y s.bound)) zero_m ∙ ap (λ y. add r.bound y) (nought-mul s.bound) ∙ add-nought r.bound in
        ap (λ y. fits (r.strict || (s.strict && false)) y (add r.bound (mul m s.bound))) a ∙ ap (λ y. fits (r.strict || (s.strict && false)) (value_at r x) y) b
        ∙ ap (λ t. fits t (value_at r x) r.bound) (weak r.strict s.strict) ∙ h
      where
        weak : (a b : Bool) → (a || (b && false)) ≡ a
        weak true b = refl
        weak false true = refl
        weak false false = refl

    some : is_nought m ≡ false → fits (r.strict || (s.strict && true)) (add (value_at r x) (mul m (value_at s x))) (add r.bound (mul m s.bound)) ≡ true
    some z =
        let up : lt nought m ≡ true = positive m (not_true (lt m nought) p) z in
        let same : (s.strict && true) ≡ s.strict = and-true s.strict in
        ap (λ t. fits (r.strict || t) (add (value_at r x) (mul m (value_at s x))) (add r.bound (mul m s.bound))) same
        ∙ fits_sum r.strict s.strict (value_at r x) r.bound (mul m (value_at s x)) (mul m s.bound) h (fits_times s.strict m (value_at s x) s.bound up k)
      where
        positive : (m : Number) → lt m nought ≡ false → is_nought m ≡ false → lt nought m ≡ true
        positive m h z = by_bool (lt nought m) (λ e. e) (λ e. let t : true ≡ false = rw (h, e) at z in false_true (sym t))

-- a sum of rows that hold holds
plus_rows-holds : (n : ℕ) (r : PlainRow) (ms : List Number) (rows : PlainPiece) (x : PlainPoint) → length r.coefs ≡ n → AllWide n rows → none_negative ms ≡ true → Holds r x → InPiece rows x
    → Holds (plus_rows r ms rows) x
plus_rows-holds n r [] rows x e w p h i = h
plus_rows-holds n r (m ∷ ms) [] x e w p h i = h
plus_rows-holds n r (m ∷ ms) (s ∷ rows) x e w p h i =
    let q = and_parts (not (lt m nought)) (none_negative ms) p in
    plus_rows-holds n (plus_row m r s) ms rows x (plus_coefs-length m r.coefs s.coefs ∙ e) w.1 q.1 (plus_row-holds m r s x (w.0 ∙ sym e) q.0 h i.0) i.1

-- ---- coefficients that are all 0
-- a list whose members are all 0 leads with 0
lead_noughts : (cs : List Number) → ((k : ℕ) → k < length cs → get_or cs k nought ≡ nought) → is_nought (lead cs) ≡ true
lead_noughts [] h = is_nought-nought
lead_noughts (c ∷ cs) h =
    let z : is_nought c ≡ true = ap is_nought (h 0 (omega arith)) ∙ is_nought-nought in
    rw z (lead_noughts cs (λ k l. h (suc k) (omega arith)))

either : {A B : Type 0} → A ⊎ B → (P : Type 0) → (A → P) → (B → P) → P
either (inl a) P f g = f a
either (inr b) P f g = g b

-- what the test of the coefficients says of one of them
vanish-at : (j count k : ℕ) (ms : List Number) (rows : PlainPiece) → vanish j count ms rows ≡ true → j ≤ k → k < j + count → mixed (coef_at k) ms rows ≡ nought
vanish-at j zero k ms rows h l u = absurd (omega arith)
vanish-at j (suc count) k ms rows h l u =
    let q = and_parts (is_nought (mixed (coef_at j) ms rows)) (vanish (suc j) count ms rows) h in
    by_place j k (mixed (coef_at k) ms rows ≡ nought) l
    (λ e. ap (λ i. mixed (coef_at i) ms rows) (sym e) ∙ nought_is (mixed (coef_at j) ms rows) q.0)
    (λ m. vanish-at (suc j) count k ms rows q.1 (omega arith) (omega arith))
  where
    by_place : (j k : ℕ) (P : Type 0) → j ≤ k → (j ≡ k → P) → (j < k → P) → P
    by_place j k P l f g = either (eq-or-lt_of_le l) P f g

-- ---- the law
-- the row 0 <= 0
abbrev zero_row : ℕ → PlainRow
zero_row n = row_with (replicate n nought) false nought

zero_row-holds : (n : ℕ) (x : PlainPoint) → Holds (zero_row n) x
zero_row-holds n x =
    ap (λ v. not (lt nought v)) (no_value nought (replicate n nought) x (noughts-lead n)) ∙ ap not (lt_irrefl nought)

-- rows that multipliers refute have no point
pub refutes_empty : (n : ℕ) (rows : PlainPiece) (ms : List Number) → AllWide n rows → refutes n rows ms ≡ true → (x : PlainPoint) → length x ≡ n → ¬ InPiece rows x
refutes_empty n rows ms w h x l i =
    let p = and_parts (nat_eq (length ms) (length rows)) _ h in
    let q = and_parts (none_negative ms) _ p.1 in
    let r = and_parts (vanish 0 n ms rows) (is_false_bound (mixes_strict ms rows) (mixed bound_of ms rows)) q.1 in
    let sum = plus_rows (zero_row n) ms rows in
    let long : length (zero_row n).coefs ≡ n = length-replicate n nought in
    let holds : Holds sum x = plus_rows-holds n (zero_row n) ms rows x long w q.0 (zero_row-holds n x) i in
    let many : length sum.coefs ≡ n = plus_rows-length (zero_row n) ms rows ∙ long in
    let none : is_nought (lead sum.coefs) ≡ true =
    lead_noughts sum.coefs (λ k u. plus_rows-coef n k (zero_row n) ms rows long w ∙ ap (λ t. row_value t ms (map (coef_at k) rows)) (noughts-get_or n k) ∙ vanish-at 0 n k ms rows r.0 (omega arith) (omega arith)) in
    let value : value_at sum x ≡ nought = no_value nought sum.coefs x none in
    let told : fits (mixes_strict ms rows) nought (mixed bound_of ms rows) ≡ true =
    ap (λ b. fits (mixes_strict ms rows) nought b) (sym (plus_rows-bound (zero_row n) ms rows)) ∙ ap (λ s. fits s nought sum.bound) (sym (plus_rows-strict (zero_row n) ms rows)) ∙ ap (λ v. fits sum.strict v sum.bound) (sym value) ∙ holds in
    let t : false ≡ true = rw told at r.1 in
    false_true t
