-- At which points do a negated, a shifted and a renamed row hold?
use Rattle.std.specs.Prelude.{◌≡◌, ◌≢◌, ℕ, zero, suc, ◌+◌, ◌<◌, not, cond, nat_eq, List, [], ◌∷◌, map, length, get_or, All, AllPairs}
use Rattle.std.specs.List.{range_with_len}
use Rattle.std.proofs.Common.{refl, sym, ap, ◌∙◌, arith}
use Rattle.std.proofs.lemmas.Bool.{eq-eqb, ne_eqb}
use Rattle.std.proofs.Math.Bool.{not-not}
use Rattle.lhg_math.specs.Number.{Number, add, sub, mul, neg, lt, nought}
use Rattle.lhg_math.specs.NumberRing.{sums, add_comm, add_assoc, add-neg, add-nought, nought-mul, mul-nought, nought-add, neg_nought, neg-mul, neg-add}
use Rattle.lhg_math.specs.NumberOrder.{lt-add, lt-neg}
use Rattle.lhg_math.specs.Tests.{by_bool}
use Rattle.lhg_num.specs.Arithmetic.{Arithmetic}
use Rattle.lhg_row.specs.Row.{PlainRow, PlainPoint, row_value, value_at, holds_at}
use Rattle.lhg_math.specs.NumberRing.{sub_is}
use Rattle.lhg_row.specs.Values.{shift}
use Rattle.lhg_row.specs.ValueLaws.{marked_value-value, value_onto}
use Rattle.lhg_row.specs.Moves.{negated, moved, coef_for, renamed, picked}

-- ---- negate
value-neg : (s : Number) (cs : List Number) (x : PlainPoint) → row_value (neg s) (map neg cs) x ≡ neg (row_value s cs x)
value-neg s [] x = refl
value-neg s (c ∷ cs) [] = refl
value-neg s (c ∷ cs) (y ∷ x) =
    ap (λ w. row_value w (map neg cs) x) (ap (λ w. add (neg s) w) (neg-mul c y) ∙ sym (neg-add s (mul c y))) ∙ value-neg (add s (mul c y)) cs x

-- the negated row holds exactly where the row does not
pub negated-holds : (r : PlainRow) (x : PlainPoint) → holds_at (negated r) x ≡ not (holds_at r x)
negated-holds r x =
    let v = value_at r x in
    let e : row_value nought (map neg r.coefs) x ≡ neg v = ap (λ w. row_value w (map neg r.coefs) x) (sym neg_nought) ∙ value-neg nought r.coefs x in
    by_bool r.strict
    (λ s. rw (s, e, lt-neg r.bound v) refl)
    (λ s. rw (s, e, lt-neg v r.bound) (sym (not-not (lt r.bound v))))

-- ---- shift
move_step : (s t m c x d : Number) → add (add s (mul m t)) (mul c (add x (mul m d))) ≡ add (add s (mul c x)) (mul m (add t (mul c d)))
move_step s t m c x d = simp sums

-- the value of a row at a moved point is that at the point and m times that of the direction
value-moved : (s t m : Number) (cs : List Number) (x by : PlainPoint) → length x ≡ length by
    → row_value (add s (mul m t)) cs (moved x m by) ≡ add (row_value s cs x) (mul m (row_value t cs by))
value-moved s t m [] x by e = refl
value-moved s t m (c ∷ cs) [] [] e = refl
value-moved s t m (c ∷ cs) [] (d ∷ by) e = absurd (omega arith)
value-moved s t m (c ∷ cs) (y ∷ x) [] e = absurd (omega arith)
value-moved s t m (c ∷ cs) (y ∷ x) (d ∷ by) e =
    ap (λ w. row_value w cs (moved x m by)) (move_step s t m c y d) ∙ value-moved (add s (mul c y)) (add t (mul c d)) m cs x by (omega arith)

-- a sum less its first part is the second
cancel : (r m : Number) → add (add r m) (neg r) ≡ m
cancel r m = ap (λ w. add w (neg r)) (add_comm r m) ∙ add_assoc m r (neg r) ∙ ap (λ w. add m w) (add-neg r) ∙ add-nought m

-- a summand goes to the other side
pub lt_move : (r m b : Number) → lt (add r m) b ≡ lt m (add b (neg r))
lt_move r m b = sym (lt-add (add r m) b (neg r)) ∙ ap (λ w. lt w (add b (neg r))) (cancel r m)

-- what is added on one side of an order may be taken from the other
pub move_lt : (r m b : Number) → lt b (add r m) ≡ lt (add b (neg r)) m
move_lt r m b = sym (lt-add b (add r m) (neg r)) ∙ ap (λ w. lt (add b (neg r)) w) (cancel r m)

-- the shifted row holds at x exactly where the row holds at x + m * by
pub shift-holds : (a : Arithmetic) (r : PlainRow) (by : PlainPoint) (m : Number) (x : PlainPoint) → length x ≡ length by
    → holds_at (shift a r by m).value x ≡ holds_at r (moved x m by)
shift-holds a r by m x e =
    let w = mul m (value_at r by) in
    let v = value_at r x in
    let b : (shift a r by m).value.bound ≡ add r.bound (neg w) = ap (λ u. sub r.bound (mul m u)) (marked_value-value a nought r.coefs by) ∙ sub_is r.bound w in
    let s : nought ≡ add nought (mul m nought) = sym (ap (λ u. add nought u) (mul-nought m) ∙ nought-add nought) in
    let at_moved : value_at r (moved x m by) ≡ add w v = ap (λ u. row_value u r.coefs (moved x m by)) s ∙ value-moved nought nought m r.coefs x by e ∙ add_comm v w in
    ap (λ u. cond r.strict (lt v u) (not (lt u v))) b
    ∙ sym (ap (λ u. cond r.strict (lt u r.bound) (not (lt r.bound u))) at_moved ∙ rw (lt_move w v r.bound, move_lt w v r.bound) refl)

-- ---- rename
-- the coefficients of a row over the places from a on
abbrev named : (ℕ → Number) → ℕ → ℕ → List Number
named g a n = map g (range_with_len a n)

-- two ways of naming that agree at each place name the same numbers
named-same : (f g : ℕ → Number) (a n : ℕ) → ((j : ℕ) → a < j + 1 → f j ≡ g j) → named f a n ≡ named g a n
named-same f g a zero h = refl
named-same f g a (suc n) h = ap (λ y. y ∷ named f (a + 1) n) (h a (omega arith)) ∙ ap (λ ys. g a ∷ ys) (named-same f g (a + 1) n (λ j k. h j (omega (arith, k))))

-- where all coefficients are 0 the sum stays at its start
named-nought : (s : Number) (a n : ℕ) (x : PlainPoint) → row_value s (named (λ j. nought) a n) x ≡ s
named-nought s a zero x = refl
named-nought s a (suc n) [] = refl
named-nought s a (suc n) (y ∷ x) =
    ap (λ w. row_value w (named (λ j. nought) (a + 1) n) x) (ap (λ w. add s w) (nought-mul y) ∙ add-nought s) ∙ named-nought s (a + 1) n x

-- one coefficient more, at a place that had none
one_more : (s c : Number) (g : ℕ → Number) (p a i n : ℕ) (x : PlainPoint) → p ≡ a + i → i < n → length x ≡ n → g p ≡ nought
    → row_value s (named (λ j. cond (nat_eq j p) c (g j)) a n) x ≡ add (row_value s (named g a n) x) (mul c (get_or x i nought))
one_more s c g p a i zero x e h l z = absurd (omega arith)
one_more s c g p a i (suc n) [] e h l z = absurd (omega arith)
one_more s c g p a zero (suc n) (y ∷ x) e h l z =
    let here : p ≡ a = omega arith in
    let f = λ (j : ℕ). cond (nat_eq j p) c (g j) in
    let first : f a ≡ c = ap (λ b. cond b c (g a)) (eq-eqb a p (omega arith)) in
    let none : g a ≡ nought = ap g (sym here) ∙ z in
    let same : named f (a + 1) n ≡ named g (a + 1) n = named-same f g (a + 1) n (λ j k. ap (λ b. cond b c (g j)) (ne_eqb j p (λ q. omega (arith, k, q)))) in
    let zero_first : add s (mul (g a) y) ≡ s = ap (λ w. add s w) (ap (λ w. mul w y) none ∙ nought-mul y) ∙ add-nought s in
    ap (λ w. row_value (add s (mul w y)) (named f (a + 1) n) x) first ∙ ap (λ cs. row_value (add s (mul c y)) cs x) same
    ∙ value_onto s (mul c y) (named g (a + 1) n) x ∙ ap (λ w. add (row_value w (named g (a + 1) n) x) (mul c y)) (sym zero_first)
one_more s c g p a (suc i) (suc n) (y ∷ x) e h l z =
    let f = λ (j : ℕ). cond (nat_eq j p) c (g j) in
    let first : f a ≡ g a = ap (λ b. cond b c (g a)) (ne_eqb a p (λ q. omega arith)) in
    ap (λ w. row_value (add s (mul w y)) (named f (a + 1) n) x) first ∙ one_more (add s (mul (g a) y)) c g p (a + 1) i n x (omega arith) (omega arith) (omega arith) z

-- no place of the list is p
abbrev IsNoPlace : ℕ → List ℕ → Type 0
IsNoPlace p ps = (i d : ℕ) → i < length ps → p ≢ get_or ps i d

-- a place that no coefficient has gets 0
not_placed : (p : ℕ) (ps : List ℕ) (cs : List Number) → IsNoPlace p ps → coef_for p ps cs ≡ nought
not_placed p [] cs h = refl
not_placed p (q ∷ ps) [] h = refl
not_placed p (q ∷ ps) (c ∷ cs) h =
    ap (λ b. cond b c (coef_for p ps cs)) (ne_eqb p q (h 0 0 (omega arith))) ∙ not_placed p ps cs (λ i d k. h (suc i) d (omega arith))

-- the value of the renamed row is that of the old one at the entries that its coefficients came to
value-renamed : (n : ℕ) (ps : List ℕ) (cs : List Number) (x : PlainPoint) → length ps ≡ length cs → length x ≡ n → All (λ p. p < n) ps → AllPairs (λ p q. p ≢ q) ps
    → row_value nought (named (λ j. coef_for j ps cs) 0 n) x ≡ row_value nought cs (picked ps x)
value-renamed n [] [] x e l h d = named-nought nought 0 n x
value-renamed n [] (c ∷ cs) x e l h d = absurd (omega arith)
value-renamed n (p ∷ ps) [] x e l h d = absurd (omega arith)
value-renamed n (p ∷ ps) (c ∷ cs) x e l h d =
    let m = mul c (get_or x p nought) in
    one_more nought c (λ j. coef_for j ps cs) p 0 p n x (omega arith) (h 0 0 (omega arith)) l (not_placed p ps cs (λ i w k. d 0 (suc i) w (omega arith) (omega arith)))
    ∙ ap (λ w. add w m) (value-renamed n ps cs x (omega arith) l (λ k w i. h (suc k) w (omega arith)) (λ i j w k q. d (suc i) (suc j) w (omega arith) (omega arith)))
    ∙ sym (value_onto nought m cs (picked ps x))

-- the renamed row holds at a point exactly where the row holds at the coordinates at its places
pub renamed-holds : (places : List ℕ) (n : ℕ) (r : PlainRow) (x : PlainPoint) → length places ≡ length r.coefs → All (λ p. p < n) places → AllPairs (λ p q. p ≢ q) places → length x ≡ n
    → holds_at (renamed places n r) x ≡ holds_at r (picked places x)
renamed-holds places n r x e h d l =
    ap (λ v. cond r.strict (lt v r.bound) (not (lt r.bound v))) (value-renamed n places r.coefs x e l h d)
