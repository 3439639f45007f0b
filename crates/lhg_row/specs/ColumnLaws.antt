-- What does a row say of one variable at fixed values of the others, and what does a combination say of them?
use Rattle.std.specs.Prelude.{◌≡◌, ℕ, zero, suc, ◌<◌, true, not, cond, ◌||◌, List, [], ◌∷◌, length, get_or, insert, remove}
use Rattle.std.proofs.Common.{refl, sym, ap, ◌∙◌, arith}
use Rattle.lhg_math.specs.Number.{Number, add, mul, neg, lt, nought}
use Rattle.lhg_math.specs.NumberRing.{sums, add-nought, mul-nought}
use Rattle.lhg_math.specs.NumberOrder.{lt_asym, lt-difference, difference-lt}
use Rattle.lhg_math.specs.Signs.{size_of}
use Rattle.lhg_num.specs.Arithmetic.{Arithmetic}
use Rattle.lhg_row.specs.Row.{PlainRow, PlainPoint, row_value, holds_at}
use Rattle.lhg_row.specs.Column.{coef_at, drop_column}
use Rattle.lhg_row.specs.Combine.{entries, comb}
use Rattle.lhg_row.specs.ValueLaws.{value_onto}
use Rattle.lhg_row.specs.MoveLaws.{lt_move, move_lt}
use Rattle.lhg_row.specs.Bars.{Bar, meets, stands, comb_bar}

-- ---- one row
-- the row as a constraint on variable k, at the values x of the others
abbrev pub bar_at : ℕ → PlainPoint → PlainRow → Bar
bar_at k x r = record { coef = coef_at k r; slack = add r.bound (neg (row_value nought (remove r.coefs k) x)); strict = r.strict }

-- the value at a point is the value at the other coordinates and one product
value-insert : (s v : Number) (k : ℕ) (cs : List Number) (x : PlainPoint) → k < length cs → length cs ≡ suc (length x)
    → row_value s cs (insert x k v) ≡ add (row_value s (remove cs k) x) (mul (get_or cs k nought) v)
value-insert s v k [] x h e = absurd (omega arith)
value-insert s v zero (c ∷ cs) x h e = value_onto s (mul c v) cs x
value-insert s v (suc k) (c ∷ cs) [] h e = absurd (omega arith)
value-insert s v (suc k) (c ∷ cs) (y ∷ x) h e = value-insert (add s (mul c y)) v k cs x (omega arith) (omega arith)

-- a row holds at a point exactly where its constraint is met
pub holds-insert : (r : PlainRow) (k : ℕ) (v : Number) (x : PlainPoint) → k < length r.coefs → length r.coefs ≡ suc (length x)
    → holds_at r (insert x k v) ≡ meets (bar_at k x r) v
holds-insert r k v x h e =
    let rest = row_value nought (remove r.coefs k) x in
    let m = mul (coef_at k r) v in
    let w : row_value nought r.coefs (insert x k v) ≡ add rest m = value-insert nought v k r.coefs x h e in
    rw (w, lt_move rest m r.bound, move_lt rest m r.bound) refl

-- a row over the other variables holds exactly where its constraint stands
pub holds-drop_column : (r : PlainRow) (k : ℕ) (x : PlainPoint) → holds_at (drop_column k r) x ≡ stands (bar_at k x r)
holds-drop_column r k x =
    let rest = row_value nought (remove r.coefs k) x in
    rw (lt-difference rest r.bound, difference-lt rest r.bound) refl

-- ---- combinations
lin_step : (f g s t c d x : Number) → add (add (mul f s) (mul g t)) (mul (add (mul f c) (mul g d)) x) ≡ add (mul f (add s (mul c x))) (mul g (add t (mul d x)))
lin_step f g s t c d x = simp sums

-- the value of a combination is the combination of the values
value-entries : (a : Arithmetic) (f g s t : Number) (cs ds : List Number) (x : PlainPoint) → length cs ≡ length ds
    → row_value (add (mul f s) (mul g t)) (entries a f g cs ds).value x ≡ add (mul f (row_value s cs x)) (mul g (row_value t ds x))
value-entries a f g s t [] [] x e = refl
value-entries a f g s t [] (d ∷ ds) x e = absurd (omega arith)
value-entries a f g s t (c ∷ cs) [] x e = absurd (omega arith)
value-entries a f g s t (c ∷ cs) (d ∷ ds) [] e = refl
value-entries a f g s t (c ∷ cs) (d ∷ ds) (y ∷ x) e =
    ap (λ w. row_value w (entries a f g cs ds).value x) (lin_step f g s t c d y) ∙ value-entries a f g (add s (mul c y)) (add t (mul d y)) cs ds x (omega arith)

-- without a column, combined entries are the combination of the entries without it
remove-entries : (a : Arithmetic) (f g : Number) (k : ℕ) (cs ds : List Number) → length cs ≡ length ds → k < length cs
    → remove (entries a f g cs ds).value k ≡ (entries a f g (remove cs k) (remove ds k)).value
remove-entries a f g k [] ds e h = absurd (omega arith)
remove-entries a f g k (c ∷ cs) [] e h = absurd (omega arith)
remove-entries a f g zero (c ∷ cs) (d ∷ ds) e h = refl
remove-entries a f g (suc k) (c ∷ cs) (d ∷ ds) e h = ap (λ ys. add (mul f c) (mul g d) ∷ ys) (remove-entries a f g k cs ds (omega arith) (omega arith))

-- two lists of one length have one without a place
same_length : (k : ℕ) (cs ds : List Number) → length cs ≡ length ds → k < length cs → length (remove cs k) ≡ length (remove ds k)
same_length k [] ds e h = absurd (omega arith)
same_length k (c ∷ cs) [] e h = absurd (omega arith)
same_length zero (c ∷ cs) (d ∷ ds) e h = omega arith
same_length (suc k) (c ∷ cs) (d ∷ ds) e h = ap suc (same_length k cs ds (omega arith) (omega arith))

-- the slack of a combination is the combination of the slacks
comb_slack : (f g bu bl ru rl : Number) → add (add (mul f bu) (mul g bl)) (neg (add (mul f ru) (mul g rl))) ≡ add (mul f (add bu (neg ru))) (mul g (add bl (neg rl)))
comb_slack f g bu bl ru rl = simp sums

-- the combination over the other variables holds exactly where that of the constraints stands
pub holds-comb : (a : Arithmetic) (u l : PlainRow) (k : ℕ) (x : PlainPoint) → length u.coefs ≡ length l.coefs → k < length u.coefs
    → lt nought (coef_at k u) ≡ true → lt (coef_at k l) nought ≡ true
    → holds_at (drop_column k (comb a u l k).value) x ≡ stands (comb_bar (bar_at k x u) (bar_at k x l))
holds-comb a u l k x e i h j =
    let cu = coef_at k u in
    let cl = coef_at k l in
    let ru = row_value nought (remove u.coefs k) x in
    let rl = row_value nought (remove l.coefs k) x in
    let g_is : size_of cu ≡ cu = rw (lt_asym nought cu h) refl in
    let f_is : size_of cl ≡ neg cl = rw j refl in
    let f = size_of cl in
    let g = size_of cu in
    let start : nought ≡ add (mul f nought) (mul g nought) = sym (ap (λ w. add w (mul g nought)) (mul-nought f) ∙ ap (λ w. add nought w) (mul-nought g) ∙ add-nought nought) in
    let cs = remove (entries a f g u.coefs l.coefs).value k in
    let rest : row_value nought cs x ≡ add (mul f ru) (mul g rl) =
    ap (λ ys. row_value nought ys x) (remove-entries a f g k u.coefs l.coefs e i) ∙ ap (λ w. row_value w (entries a f g (remove u.coefs k) (remove l.coefs k)).value x) start ∙ value-entries a f g nought nought (remove u.coefs k) (remove l.coefs k) x (same_length k u.coefs l.coefs e i) in
    let slack : add (add (mul f u.bound) (mul g l.bound)) (neg (row_value nought cs x)) ≡ add (mul (neg cl) (add u.bound (neg ru))) (mul cu (add l.bound (neg rl))) =
    ap (λ w. add (add (mul f u.bound) (mul g l.bound)) (neg w)) rest ∙ comb_slack f g u.bound l.bound ru rl ∙ ap (λ w. add (mul w (add u.bound (neg ru))) (mul g (add l.bound (neg rl)))) f_is ∙ ap (λ w. add (mul (neg cl) (add u.bound (neg ru))) (mul w (add l.bound (neg rl)))) g_is in
    let b = add (mul f u.bound) (mul g l.bound) in
    let r = row_value nought cs x in
    let p1 : lt r b ≡ lt nought (add b (neg r)) = sym (lt-difference r b) in
    let p2 : lt b r ≡ lt (add b (neg r)) nought = sym (difference-lt r b) in
    ap (λ w. cond (u.strict || l.strict) w (not (lt b r))) p1 ∙ ap (λ w. cond (u.strict || l.strict) (lt nought (add b (neg r))) (not w)) p2 ∙ ap (λ w. cond (u.strict || l.strict) (lt nought w) (not (lt w nought))) slack
