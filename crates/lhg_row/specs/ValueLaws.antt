-- How does the value of a row change with its start and with a factor, and is it the value that is formed with marks?
use Rattle.std.specs.Prelude.{◌≡◌, Bool, true, false, not, cond, List, [], ◌∷◌, map}
use Rattle.std.proofs.Common.{refl, sym, ap, ◌∙◌}
use Rattle.lhg_math.specs.Number.{Number, add, mul, lt, nought, compare}
use Rattle.lhg_math.specs.NumberRing.{add_comm, add_assoc, add-nought, mul-nought, nought-mul, mul-add, mul_assoc}
use Rattle.lhg_math.specs.NumberOrder.{lt-mul, lt_asym}
use Rattle.lhg_math.specs.Signs.{is_nought, lead}
use Rattle.lhg_math.specs.SignLaws.{nought_is}
use Rattle.lhg_math.specs.Tests.{by_bool, false_true}
use Rattle.lhg_num.specs.Arithmetic.{Arithmetic}
use Rattle.lhg_row.specs.Row.{PlainRow, PlainPoint, row_value, value_at, holds_at}
use Rattle.lhg_row.specs.Values.{plus_product, marked_value, fits_order, truth}

-- ---- with marks
-- the value that is formed with marks is the value
pub marked_value-value : (a : Arithmetic) (s : Number) (cs : List Number) (xs : PlainPoint) → (marked_value a s cs xs).value ≡ row_value s cs xs
marked_value-value a s [] xs = refl
marked_value-value a s (c ∷ cs) [] = refl
marked_value-value a s (c ∷ cs) (x ∷ xs) = marked_value-value a (add s (mul c x)) cs xs

-- a choice between two falsehoods
all_false : (s : Bool) → false ≡ cond s false false
all_false true = refl
all_false false = refl

-- the order of a value against a bound tells the truth
pub fits_order-compare : (strict : Bool) (v b : Number) → fits_order strict (compare v b) ≡ cond strict (lt v b) (not (lt b v))
fits_order-compare strict v b =
    by_bool (lt v b)
    (λ e. rw (e, lt_asym v b e) (all_true strict))
    (λ e. by_bool (lt b v) (λ f. rw (e, f) (all_false strict)) (λ f. rw (e, f) (at_tie strict)))
  where
    all_true : (s : Bool) → true ≡ cond s true true
    all_true true = refl
    all_true false = refl

    at_tie : (s : Bool) → not s ≡ cond s false true
    at_tie true = refl
    at_tie false = refl

-- the truth that is formed with marks is whether the row holds
pub truth-value : (a : Arithmetic) (r : PlainRow) (x : PlainPoint) → (truth a r x).value ≡ holds_at r x
truth-value a r x =
    ap (λ v. fits_order r.strict (compare v r.bound)) (marked_value-value a nought r.coefs x) ∙ fits_order-compare r.strict (value_at r x) r.bound

-- ---- products that are 0
-- where the factor is 0 nothing is added
pub plus-no_multiple : (a : Arithmetic) (s c x : Number) → is_nought c ≡ true → s ≡ (plus_product a s c x).value
plus-no_multiple a s c x h = sym (ap (λ w. add s (mul w x)) (nought_is c h) ∙ ap (λ w. add s w) (nought-mul x) ∙ add-nought s)

-- where the entry is 0 nothing is added
pub plus-no_entry : (a : Arithmetic) (s c x : Number) → is_nought x ≡ true → s ≡ (plus_product a s c x).value
plus-no_entry a s c x h = sym (ap (λ w. add s (mul c w)) (nought_is x h) ∙ ap (λ w. add s w) (mul-nought c) ∙ add-nought s)

-- ---- the start of the sum
regroup : (s c x m : Number) → add (add s m) (mul c x) ≡ add (add s (mul c x)) m
regroup s c x m = simp (add_assoc, add_comm)

-- what the sum starts with comes out of it
pub value_onto : (s m : Number) (cs : List Number) (xs : PlainPoint) → row_value (add s m) cs xs ≡ add (row_value s cs xs) m
value_onto s m [] xs = refl
value_onto s m (c ∷ cs) [] = refl
value_onto s m (c ∷ cs) (x ∷ xs) = ap (λ w. row_value w cs xs) (regroup s c x m) ∙ value_onto (add s (mul c x)) m cs xs

-- coefficients that are all 0 add nothing
pub no_value : (s : Number) (cs : List Number) (xs : PlainPoint) → is_nought (lead cs) ≡ true → row_value s cs xs ≡ s
no_value s [] xs h = refl
no_value s (c ∷ cs) [] h = refl
no_value s (c ∷ cs) (x ∷ xs) h =
    by_bool (is_nought c)
    (λ e. let t : is_nought (lead cs) ≡ true = rw e at h in
    ap (λ w. row_value w cs xs) (ap (λ w. add s w) (ap (λ w. mul w x) (nought_is c e) ∙ nought-mul x) ∙ add-nought s) ∙ no_value s cs xs t)
    (λ e. let t : is_nought c ≡ true = rw e at h in false_true (sym e ∙ t))

-- ---- positive multiples
-- the row with each number times k
abbrev pub scaled_row : Number → PlainRow → PlainRow
scaled_row k r = record { coefs = map (λ c. mul k c) r.coefs; strict = r.strict; bound = mul k r.bound }

-- a factor comes out of the value
pub value-scaled : (k s : Number) (cs : List Number) (xs : PlainPoint) → row_value (mul k s) (map (λ c. mul k c) cs) xs ≡ mul k (row_value s cs xs)
value-scaled k s [] xs = refl
value-scaled k s (c ∷ cs) [] = refl
value-scaled k s (c ∷ cs) (x ∷ xs) =
    ap (λ w. row_value w (map (λ d. mul k d) cs) xs) (ap (λ w. add (mul k s) w) (mul_assoc k c x) ∙ sym (mul-add k s (mul c x)))
    ∙ value-scaled k (add s (mul c x)) cs xs

-- a row and its positive multiples hold at the same points
pub holds-scaled : (k : Number) (r : PlainRow) (x : PlainPoint) → lt nought k ≡ true → holds_at (scaled_row k r) x ≡ holds_at r x
holds-scaled k r x h =
    let v = value_at r x in
    let e : row_value nought (map (λ c. mul k c) r.coefs) x ≡ mul k v = ap (λ w. row_value w (map (λ c. mul k c) r.coefs) x) (sym (mul-nought k)) ∙ value-scaled k nought r.coefs x in
    rw (e, lt-mul k v r.bound h, lt-mul k r.bound v h) refl
