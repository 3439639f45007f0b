-- What holds of the number at a place between two numbers?
use Rattle.std.specs.Prelude.{◌≡◌, true}
use Rattle.std.proofs.Common.{refl, sym, ap, ◌∙◌}
use Rattle.lhg_math.specs.Number.{Number, add, mul, neg, sub, lt, nought, unit}
use Rattle.lhg_math.specs.NumberRing.{sums, add_comm, add_assoc, add-nought, add-neg, mul-unit, mul_comm, mul-nought, nought-mul}
use Rattle.lhg_math.specs.NumberOrder.{lt-mul, lt-difference}
use Rattle.lhg_math.specs.Interpolate.{interpolate}

-- the start and the share p of the difference
pub interpolate_is : (a b p : Number) → interpolate a b p ≡ add a (mul p (add b (neg a)))
unfolding interpolate sub
interpolate_is a b p = refl

-- a bound taken from both ends leaves their difference
pub cancel : (a b c : Number) → add (add b (neg c)) (neg (add a (neg c))) ≡ add b (neg a)
cancel a b c =
    let s1 : add (add b (neg c)) (neg (add a (neg c))) ≡ add (add b (neg a)) (add c (neg c)) = simp sums in
    s1 ∙ ap (λ w. add (add b (neg a)) w) (add-neg c) ∙ add-nought (add b (neg a))

-- 1 times a number is the number
pub unit-mul : (a : Number) → mul unit a ≡ a
unit-mul a = mul_comm unit a ∙ mul-unit a

-- (1 - p) * a + p * b
pub interpolate_mix : (a b p : Number) → interpolate a b p ≡ add (mul (add unit (neg p)) a) (mul p b)
interpolate_mix a b p =
    let s : add (mul unit a) (mul p (add b (neg a))) ≡ add (mul (add unit (neg p)) a) (mul p b) = simp sums in
    interpolate_is a b p ∙ ap (λ w. add w (mul p (add b (neg a)))) (sym (unit-mul a)) ∙ s

-- at 0 it is the start
pub interpolate_start : (a b : Number) → interpolate a b nought ≡ a
interpolate_start a b = interpolate_is a b nought ∙ ap (λ w. add a w) (nought-mul _) ∙ add-nought a

-- at 1 it is the end
pub interpolate_end : (a b : Number) → interpolate a b unit ≡ b
interpolate_end a b =
    let s : add a (add b (neg a)) ≡ add b (add a (neg a)) = simp sums in
    interpolate_is a b unit ∙ ap (λ w. add a w) (unit-mul _) ∙ s ∙ ap (λ w. add b w) (add-neg a) ∙ add-nought b

-- a number that does not move is everywhere itself
pub interpolate_same : (a p : Number) → interpolate a a p ≡ a
interpolate_same a p = interpolate_is a a p ∙ ap (λ w. add a (mul p w)) (add-neg a) ∙ ap (λ w. add a w) (mul-nought p) ∙ add-nought a

-- less a bound
pub interpolate_less : (a b c p : Number) → add (interpolate a b p) (neg c) ≡ interpolate (add a (neg c)) (add b (neg c)) p
interpolate_less a b c p =
    let s : add (add a (mul p (add b (neg a)))) (neg c) ≡ add (add a (neg c)) (mul p (add b (neg a))) = simp (add_assoc, add_comm) in
    ap (λ w. add w (neg c)) (interpolate_is a b p) ∙ s ∙ ap (λ w. add (add a (neg c)) (mul p w)) (sym (cancel a b c)) ∙ sym (interpolate_is (add a (neg c)) (add b (neg c)) p)

-- sums and multiples
pub interpolate-add : (a b c d p : Number) → interpolate (add a c) (add b d) p ≡ add (interpolate a b p) (interpolate c d p)
interpolate-add a b c d p =
    let s : add (add a c) (mul p (add (add b d) (neg (add a c)))) ≡ add (add a (mul p (add b (neg a)))) (add c (mul p (add d (neg c)))) = simp sums in
    interpolate_is (add a c) (add b d) p ∙ s ∙ ap (λ w. add w (add c (mul p (add d (neg c))))) (sym (interpolate_is a b p)) ∙ ap (λ w. add (interpolate a b p) w) (sym (interpolate_is c d p))

-- a factor of both ends comes out
pub interpolate-mul : (k a b p : Number) → interpolate (mul k a) (mul k b) p ≡ mul k (interpolate a b p)
interpolate-mul k a b p =
    let s : add (mul k a) (mul p (add (mul k b) (neg (mul k a)))) ≡ mul k (add a (mul p (add b (neg a)))) = simp sums in
    interpolate_is (mul k a) (mul k b) p ∙ s ∙ ap (λ w. mul k w) (sym (interpolate_is a b p))

-- a step between two places is that part of the whole step
pub interpolate_step : (a b u v : Number) → add (interpolate a b v) (neg (interpolate a b u)) ≡ mul (add v (neg u)) (add b (neg a))
interpolate_step a b u v =
    let d = add b (neg a) in
    let s : add (add a (mul v d)) (neg (add a (mul u d))) ≡ add (mul (add v (neg u)) d) (add a (neg a)) = step a v u d in
    ap (λ w. add w (neg (interpolate a b u))) (interpolate_is a b v) ∙ ap (λ w. add (add a (mul v d)) (neg w)) (interpolate_is a b u)
    ∙ s ∙ ap (λ w. add (mul (add v (neg u)) d) w) (add-neg a) ∙ add-nought _
  where
    step : (a v u d : Number) → add (add a (mul v d)) (neg (add a (mul u d))) ≡ add (mul (add v (neg u)) d) (add a (neg a))
    step a v u d = simp sums

-- a place between two places
pub interpolate_twice : (a b u v r : Number) → interpolate a b (interpolate u v r) ≡ interpolate (interpolate a b u) (interpolate a b v) r
interpolate_twice a b u v r =
    let d = add b (neg a) in
    let s : add a (mul (add u (mul r (add v (neg u)))) d) ≡ add (add a (mul u d)) (mul r (mul (add v (neg u)) d)) = two a u v r d in
    interpolate_is a b (interpolate u v r) ∙ ap (λ w. add a (mul w d)) (interpolate_is u v r) ∙ s
    ∙ ap (λ w. add (add a (mul u d)) (mul r w)) (sym (interpolate_step a b u v))
    ∙ ap (λ w. add w (mul r (add (interpolate a b v) (neg (interpolate a b u))))) (sym (interpolate_is a b u))
    ∙ sym (interpolate_is (interpolate a b u) (interpolate a b v) r)
  where
    two : (a u v r d : Number) → add a (mul (add u (mul r (add v (neg u)))) d) ≡ add (add a (mul u d)) (mul r (mul (add v (neg u)) d))
    two a u v r d = simp sums

-- the order of two places is that of the numbers there, where the numbers rise
pub interpolate-lt : (a b u v : Number) → lt a b ≡ true → lt (interpolate a b u) (interpolate a b v) ≡ lt u v
interpolate-lt a b u v h =
    let d = add b (neg a) in
    let up : lt nought d ≡ true = lt-difference a b ∙ h in
    sym (lt-difference (interpolate a b u) (interpolate a b v)) ∙ ap (λ w. lt nought w) (interpolate_step a b u v ∙ mul_comm (add v (neg u)) d)
    ∙ ap (λ w. lt w (mul d (add v (neg u)))) (sym (mul-nought d)) ∙ lt-mul d nought (add v (neg u)) up ∙ lt-difference u v
