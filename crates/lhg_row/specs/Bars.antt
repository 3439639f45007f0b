-- Fourier and Motzkin: when have constraints on one variable a common value?
use Rattle.std.specs.Prelude.{◌≡◌, Bool, true, false, not, cond, ◌||◌, ◌&&◌, List, [], ◌∷◌, map, filter}
use Rattle.std.proofs.Common.{refl, sym, ap, ◌∙◌}
use Rattle.std.proofs.Math.Bool.{or_comm}
use Rattle.lhg_math.specs.Number.{Number, add, mul, neg, lt, nought, quot}
use Rattle.lhg_math.specs.NumberRing.{sums, mul-nought, nought-mul}
use Rattle.lhg_math.specs.NumberOrder.{lt_asym, lt-mul, lt-mul_negative, mul_positive, lt-difference, difference-lt, lt-nought_neg}
use Rattle.lhg_math.specs.Quotients.{mul-quot, abs_pos_of_lt, abs_pos_of_gt}
use Rattle.lhg_math.specs.Signs.{is_nought}
use Rattle.lhg_math.specs.SignLaws.{nought_is}
use Rattle.lhg_math.specs.Tests.{Every, all_of, all_from_every, by_bool}
use Rattle.lhg_math.specs.Bounds.{Bound, under, over, fits, some_between, fits_of_between}
use Rattle.lhg_row.specs.Members.{all-filter}

-- coef * v is at most the slack, or below it where strict: a row at fixed values of the other variables
pub record Bar : Type 0 where
  pub coef : Number
  pub slack : Number
  pub strict : Bool

-- the value meets the constraint
abbrev pub meets : Bar → Number → Bool
meets b v = cond b.strict (lt (mul b.coef v) b.slack) (not (lt b.slack (mul b.coef v)))

-- the constraint is met where its coefficient is 0
abbrev pub stands : Bar → Bool
stands b = cond b.strict (lt nought b.slack) (not (lt b.slack nought))

-- the combination of an upper and a lower constraint, in which the variable cancels
abbrev pub comb_bar : Bar → Bar → Bar
comb_bar u l = record { coef = nought; slack = add (mul (neg l.coef) u.slack) (mul u.coef l.slack); strict = u.strict || l.strict }

-- ---- bounds
-- the bound that a constraint gives to the variable
abbrev pub bound_of : Bar → Bound
bound_of b = record { at = quot b.slack b.coef; strict = b.strict }

-- a constraint with a positive coefficient is met below its bound
pub meets_upper : (b : Bar) (v : Number) → lt nought b.coef ≡ true → meets b v ≡ under (bound_of b) v
meets_upper b v h =
    let q = quot b.slack b.coef in
    let e : mul b.coef q ≡ b.slack = mul-quot b.slack b.coef (abs_pos_of_lt b.coef h) in
    let p : lt (mul b.coef v) b.slack ≡ lt v q = ap (λ w. lt (mul b.coef v) w) (sym e) ∙ lt-mul b.coef v q h in
    let r : lt b.slack (mul b.coef v) ≡ lt q v = ap (λ w. lt w (mul b.coef v)) (sym e) ∙ lt-mul b.coef q v h in
    rw (p, r) refl

-- one with a negative coefficient is met above its bound
pub meets_lower : (b : Bar) (v : Number) → lt b.coef nought ≡ true → meets b v ≡ over (bound_of b) v
meets_lower b v h =
    let q = quot b.slack b.coef in
    let e : mul b.coef q ≡ b.slack = mul-quot b.slack b.coef (abs_pos_of_gt b.coef h) in
    let p : lt (mul b.coef v) b.slack ≡ lt q v = ap (λ w. lt (mul b.coef v) w) (sym e) ∙ lt-mul_negative b.coef v q h in
    let r : lt b.slack (mul b.coef v) ≡ lt v q = ap (λ w. lt w (mul b.coef v)) (sym e) ∙ lt-mul_negative b.coef q v h in
    rw (p, r) refl

-- the slack of a combination of two bars is a positive multiple of the distance of their bounds
slack_split : (cu cl q r : Number) → add (mul (neg cl) (mul cu q)) (mul cu (mul cl r)) ≡ mul (mul (neg cl) cu) (add q (neg r))
slack_split cu cl q r = simp sums

-- the combination stands exactly where the two bounds leave room between them
pub stands_comb : (u l : Bar) → lt nought u.coef ≡ true → lt l.coef nought ≡ true → stands (comb_bar u l) ≡ fits (bound_of l) (bound_of u)
stands_comb u l h k =
    let q = quot u.slack u.coef in
    let r = quot l.slack l.coef in
    let e : mul u.coef q ≡ u.slack = mul-quot u.slack u.coef (abs_pos_of_lt u.coef h) in
    let f : mul l.coef r ≡ l.slack = mul-quot l.slack l.coef (abs_pos_of_gt l.coef k) in
    let c = mul (neg l.coef) u.coef in
    let some : lt nought c ≡ true = mul_positive (neg l.coef) u.coef (lt-nought_neg l.coef ∙ k) h in
    let s : add (mul (neg l.coef) u.slack) (mul u.coef l.slack) ≡ mul c (add q (neg r)) =
    ap (λ w. add (mul (neg l.coef) w) (mul u.coef l.slack)) (sym e) ∙ ap (λ w. add (mul (neg l.coef) (mul u.coef q)) (mul u.coef w)) (sym f) ∙ slack_split u.coef l.coef q r in
    let p : lt nought (mul c (add q (neg r))) ≡ lt r q = ap (λ w. lt w (mul c (add q (neg r)))) (sym (mul-nought c)) ∙ lt-mul c nought (add q (neg r)) some ∙ lt-difference r q in
    let t : lt (mul c (add q (neg r))) nought ≡ lt q r = ap (λ w. lt (mul c (add q (neg r))) w) (sym (mul-nought c)) ∙ lt-mul c (add q (neg r)) nought some ∙ difference-lt r q in
    ap (λ w. cond (u.strict || l.strict) (lt nought w) (not (lt w nought))) s ∙ rw (p, t, or_comm u.strict l.strict) refl

-- ---- kinds of constraints
-- a constraint that bounds the variable from above
abbrev pub is_upper : Bar → Bool
is_upper b = lt nought b.coef

-- one that bounds it from below
abbrev pub is_lower : Bar → Bool
is_lower b = lt b.coef nought

-- one that says nothing of it
abbrev pub is_level : Bar → Bool
is_level b = is_nought b.coef

-- a constraint that says nothing of the variable is met by each value where it stands
pub level_meets : (b : Bar) (v : Number) → is_level b ≡ true → meets b v ≡ stands b
level_meets b v h = let e : mul b.coef v ≡ nought = ap (λ w. mul w v) (nought_is b.coef h) ∙ nought-mul v in rw e refl

-- ---- lists and tests
-- what a filter keeps passes its test
pub filter_every : {A : Type 0} (p : A → Bool) (xs : List A) → Every p (filter p xs)
filter_every p [] = tt
filter_every p (x ∷ xs) = by_bool (p x) (λ e. rw e (e, filter_every p xs)) (λ e. rw e (filter_every p xs))

-- a change of test on members that pass p
pub every_same : {A : Type 0} (p f g : A → Bool) (xs : List A) → ((x : A) → p x ≡ true → f x ≡ g x) → Every p xs → Every f xs → Every g xs
every_same p f g [] e k h = tt
every_same p f g (x ∷ xs) e k h = (sym (e x k.0) ∙ h.0, every_same p f g xs e k.1 h.1)

-- a test of images is a test of members
pub every-map : {A B : Type 0} (t : A → B) (f : B → Bool) (xs : List A) → Every (λ x. f (t x)) xs → Every f (map t xs)
every-map t f [] h = tt
every-map t f (x ∷ xs) h = (h.0, every-map t f xs h.1)

-- what each image passes, each member passes by its image
pub map-every : {A B : Type 0} (t : A → B) (f : B → Bool) (xs : List A) → Every f (map t xs) → Every (λ x. f (t x)) xs
map-every t f [] h = tt
map-every t f (x ∷ xs) h = (h.0, map-every t f xs h.1)

-- and the test of all
pub all_of-map : {A B : Type 0} (t : A → B) (f : B → Bool) (xs : List A) → all_of f (map t xs) ≡ all_of (λ x. f (t x)) xs
all_of-map t f [] = refl
all_of-map t f (x ∷ xs) = ap (λ b. f (t x) && b) (all_of-map t f xs)

-- two tests that agree on members that pass a third
pub all_same : {A : Type 0} (p f g : A → Bool) (xs : List A) → ((x : A) → p x ≡ true → f x ≡ g x) → Every p xs → all_of f xs ≡ all_of g xs
all_same p f g [] e k = refl
all_same p f g (x ∷ xs) e k = ap (λ b. b && all_of f xs) (e x k.0) ∙ ap (λ b. g x && b) (all_same p f g xs e k.1)

-- what holds of the constraints of each kind holds of all
merge : (f : Bar → Bool) (bs : List Bar) → Every f (filter is_level bs) → Every f (filter is_upper bs) → Every f (filter is_lower bs) → Every f bs
merge f [] z u l = tt
merge f (b ∷ bs) z u l =
    by_bool (lt nought b.coef)
    (λ e. let n : lt b.coef nought ≡ false = lt_asym nought b.coef e in
    let u' : (f b ≡ true) × Every f (filter is_upper bs) = rw e at u in
    let z' : Every f (filter is_level bs) = rw (n, e) at z in
    let l' : Every f (filter is_lower bs) = rw n at l in
    (u'.0, merge f bs z' u'.1 l'))
    (λ e. by_bool (lt b.coef nought)
    (λ n. let l' : (f b ≡ true) × Every f (filter is_lower bs) = rw n at l in
    let z' : Every f (filter is_level bs) = rw n at z in
    let u' : Every f (filter is_upper bs) = rw e at u in
    (l'.0, merge f bs z' u' l'.1))
    (λ n. let z' : (f b ≡ true) × Every f (filter is_level bs) = rw (n, e) at z in
    let u' : Every f (filter is_upper bs) = rw e at u in
    let l' : Every f (filter is_lower bs) = rw n at l in
    (z'.0, merge f bs z'.1 u' l')))

-- ---- the fact of Fourier and Motzkin
-- all constraints that say nothing of the variable stand, and all combinations
pub record AreEliminated (bs : List Bar) : Type 0 where
  pub levels : Every stands (filter is_level bs)
  pub pairs : Every (λ u. all_of (λ l. stands (comb_bar u l)) (filter is_lower bs)) (filter is_upper bs)

-- then some value meets all constraints
pub eliminated_has_value : (bs : List Bar) → AreEliminated bs → (v : Number) × Every (λ b. meets b v) bs
eliminated_has_value bs h =
    let lows = filter is_lower bs in
    let ups = filter is_upper bs in
    let low = filter_every is_lower bs in
    let up = filter_every is_upper bs in
    let inner : (u : Bar) → is_upper u ≡ true → all_of (λ l. stands (comb_bar u l)) lows ≡ all_of (λ l. fits l (bound_of u)) (map bound_of lows) =
    λ u e. all_same is_lower (λ l. stands (comb_bar u l)) (λ l. fits (bound_of l) (bound_of u)) lows (λ l k. stands_comb u l e k) low ∙ sym (all_of-map bound_of (λ l. fits l (bound_of u)) lows) in
    let fit = every-map bound_of (λ u. all_of (λ l. fits l u) (map bound_of lows)) ups (every_same is_upper (λ u. all_of (λ l. stands (comb_bar u l)) lows) (λ u. all_of (λ l. fits l (bound_of u)) (map bound_of lows)) ups inner up h.pairs) in
    let r = some_between (map bound_of lows) (map bound_of ups) fit in
    let v = r.0 in (
      v,
      merge (λ b. meets b v) bs
          (every_same is_level stands (λ b. meets b v) (filter is_level bs) (λ b e. sym (level_meets b v e)) (filter_every is_level bs) h.levels)
          (every_same is_upper (λ b. under (bound_of b) v) (λ b. meets b v) ups (λ b e. sym (meets_upper b v e)) up (map-every bound_of (λ u. under u v) ups r.2))
          (every_same is_lower (λ b. over (bound_of b) v) (λ b. meets b v) lows (λ b e. sym (meets_lower b v e)) low (map-every bound_of (λ l. over l v) lows r.1)),
    )

-- where one value meets all bars, each lower one fits each upper one
pairs_stand : (us ls : List Bar) (v : Number) → Every is_upper us → Every is_lower ls → Every (λ b. meets b v) us → Every (λ b. meets b v) ls → Every (λ u. all_of (λ l. stands (comb_bar u l)) ls) us
pairs_stand [] ls v p q h k = tt
pairs_stand (u ∷ us) ls v p q h k = (all_from_every (λ l. stands (comb_bar u l)) ls (one ls q k), pairs_stand us ls v p.1 q h.1 k)
  where
    one : (ls : List Bar) → Every is_lower ls → Every (λ b. meets b v) ls → Every (λ l. stands (comb_bar u l)) ls
    one [] q k = tt
    one (l ∷ ls) q k =
        (stands_comb u l p.0 q.0 ∙ fits_of_between (bound_of l) (bound_of u) v (sym (meets_lower l v q.0) ∙ k.0) (sym (meets_upper u v p.0) ∙ h.0), one ls q.1 k.1)

-- and where some value meets all constraints, all that say nothing of the variable stand, and all combinations
pub value_is_eliminated : (bs : List Bar) (v : Number) → Every (λ b. meets b v) bs → AreEliminated bs
value_is_eliminated bs v h = record {
  levels = every_same is_level (λ b. meets b v) stands (filter is_level bs) (λ b e. level_meets b v e) (filter_every is_level bs) (all-filter (λ b. meets b v ≡ true) is_level bs h);
  pairs = pairs_stand (filter is_upper bs) (filter is_lower bs) v (filter_every is_upper bs) (filter_every is_lower bs) (all-filter (λ b. meets b v ≡ true) is_upper bs h) (all-filter (λ b. meets b v ≡ true) is_lower bs h);
}
