-- The ring and order laws of the whole numbers that std lacks.
use Rattle.std.proofs.Common.{◌≡◌, ℕ, ◌+◌, ◌*◌, ◌<◌, ◌≤◌, arith, ap, sym, ◌∙◌}
use Rattle.std.proofs.Math.IntN.{ℤ, pos, neg_ℤ, ◌+ℤ◌, ◌*ℤ◌, *ℤ_comm, *ℤ-zero, +ℤ_comm, +ℤ_assoc, +ℤ_invr}
use Rattle.std.proofs.lemmas.Int.{ints, by_lt_z}
use Rattle.std.specs.Int.RustNames.{int_lt}
use Rattle.std.proofs.Common.{true, false}
use Rattle.std.proofs.Math.Nat.{mul-le-mul_right, mul-lt-mul_of_pos_right, eq_of_mul-eq-mul_right}
use borrow.Author.Differences.{up, down, product_is, sum_is_lem}
use Rattle.std.specs.Prelude.{◌≤ℤ◌, ◌<ℤ◌}

-- products are associative
pub mul_assoc_ℤ : (a b c : ℤ) → (a *ℤ b) *ℤ c ≡ a *ℤ (b *ℤ c)
mul_assoc_ℤ a b c =
    let p = product_is a b in
    let q = product_is b c in
    let p1 = ap (λ x. x * up c) p.0 in
    let p2 = ap (λ x. x * down c) p.0 in
    let p3 = ap (λ x. x * up c) p.1 in
    let p4 = ap (λ x. x * down c) p.1 in
    let q1 = ap (λ x. up a * x) q.0 in
    let q2 = ap (λ x. down a * x) q.0 in
    let q3 = ap (λ x. up a * x) q.1 in
    let q4 = ap (λ x. down a * x) q.1 in
    omega (arith, ints)

-- a product with a sum is the sum of the products
pub mul-add_ℤ : (a b c : ℤ) → a *ℤ (b +ℤ c) ≡ a *ℤ b +ℤ a *ℤ c
mul-add_ℤ a b c =
    let s = sum_is_lem b c in
    let s1 = ap (λ x. up a * x) s in
    let s2 = ap (λ x. down a * x) s in
    omega (arith, ints)

-- the same from the right
pub add-mul_ℤ : (a b c : ℤ) → (b +ℤ c) *ℤ a ≡ b *ℤ a +ℤ c *ℤ a
add-mul_ℤ a b c = *ℤ_comm (b +ℤ c) a ∙ mul-add_ℤ a b c ∙ ap (λ x. x +ℤ a *ℤ c) (*ℤ_comm a b) ∙ ap (λ x. b *ℤ a +ℤ x) (*ℤ_comm a c)

-- factors change places
pub mul_left_comm_ℤ : (a b c : ℤ) → a *ℤ (b *ℤ c) ≡ b *ℤ (a *ℤ c)
mul_left_comm_ℤ a b c = sym (mul_assoc_ℤ a b c) ∙ ap (λ x. x *ℤ c) (*ℤ_comm a b) ∙ mul_assoc_ℤ b a c

-- summands change places
pub add_left_comm_ℤ : (a b c : ℤ) → a +ℤ (b +ℤ c) ≡ b +ℤ (a +ℤ c)
add_left_comm_ℤ a b c = omega (arith, ints)

-- identities of a commutative ring, sorted
pub ruleset ring = (mul-add_ℤ, add-mul_ℤ, mul_assoc_ℤ, mul_left_comm_ℤ, *ℤ_comm, +ℤ_assoc, add_left_comm_ℤ, +ℤ_comm)

-- the sign of a factor comes out
pub mul-neg_ℤ : (a b : ℤ) → a *ℤ neg_ℤ b ≡ neg_ℤ (a *ℤ b)
mul-neg_ℤ a b = cancel a b (mul-add_ℤ a b (neg_ℤ b))
  where
    cancel : (a b : ℤ) → a *ℤ (b +ℤ neg_ℤ b) ≡ a *ℤ b +ℤ a *ℤ neg_ℤ b → a *ℤ neg_ℤ b ≡ neg_ℤ (a *ℤ b)
    cancel a b h = let z : a *ℤ (b +ℤ neg_ℤ b) ≡ pos 0 = rw +ℤ_invr (*ℤ-zero a) in omega (arith, ints)

-- a factor that is not negative keeps the order
pub le-mul_ℤ : (a b : ℤ) (n : ℕ) → a ≤ℤ b → (a *ℤ pos n) ≤ℤ (b *ℤ pos n)
le-mul_ℤ a b n p =
    let q : up a + down b ≤ up b + down a = omega (arith, ints) in
    let r : (up a + down b) * n ≤ (up b + down a) * n = mul-le-mul_right n q in
    omega (arith, ints)

-- a positive factor keeps the strict order
pub lt-mul_ℤ : (a b : ℤ) (n : ℕ) → 0 < n → a <ℤ b → (a *ℤ pos n) <ℤ (b *ℤ pos n)
lt-mul_ℤ a b n some p =
    let q : up a + down b < up b + down a = omega (arith, ints) in
    let r : (up a + down b) * n < (up b + down a) * n = mul-lt-mul_of_pos_right q some in
    omega (arith, ints)

-- a positive factor cancels
pub mul_cancel_ℤ : (a b : ℤ) (n : ℕ) → 0 < n → a *ℤ pos n ≡ b *ℤ pos n → a ≡ b
mul_cancel_ℤ a b n some e =
    let q : (up a + down b) * n ≡ (up b + down a) * n = omega (arith, ints) in
    let r : up a + down b ≡ up b + down a = eq_of_mul-eq-mul_right n some _ _ q in
    omega (arith, ints)

-- the sign of the first factor comes out
pub neg-mul_ℤ : (a b : ℤ) → neg_ℤ a *ℤ b ≡ neg_ℤ (a *ℤ b)
neg-mul_ℤ a b = *ℤ_comm (neg_ℤ a) b ∙ mul-neg_ℤ b a ∙ ap neg_ℤ (*ℤ_comm b a)

-- a negative number times a natural one
pub neg_times : (q g : ℕ) → neg_ℤ (pos q) *ℤ pos g ≡ neg_ℤ (pos (q * g))
neg_times q g = neg-mul_ℤ (pos q) (pos g)

-- a factor moves to the first number
pub swap : (t b g : ℤ) → t *ℤ (b *ℤ g) ≡ (t *ℤ g) *ℤ b
swap t b g = simp ring

-- ---- tests
pub int_lt-add : (a b c : ℤ) → int_lt (a +ℤ c) (b +ℤ c) ≡ int_lt a b
int_lt-add a b c = grind (arith, ints)

-- negation turns the test
pub int_lt-neg : (a b : ℤ) → int_lt (neg_ℤ a) (neg_ℤ b) ≡ int_lt b a
int_lt-neg a b = grind (arith, ints)

-- the test says true where the order holds
pub int_lt-yes : (a b : ℤ) → a <ℤ b → int_lt a b ≡ true
int_lt-yes a b h = grind (arith, ints)

-- the test says false where it does not
pub int_lt-no : (a b : ℤ) → b ≤ℤ a → int_lt a b ≡ false
int_lt-no a b h = grind (arith, ints)

-- a positive factor keeps the test
pub int_lt-mul : (a b : ℤ) (n : ℕ) → 0 < n → int_lt (a *ℤ pos n) (b *ℤ pos n) ≡ int_lt a b
int_lt-mul a b n some = by_lt_z a b
    (λ h. int_lt-yes _ _ (lt-mul_ℤ a b n some h) ∙ sym (int_lt-yes a b h))
    (λ h. int_lt-no _ _ (le-mul_ℤ b a n h) ∙ sym (int_lt-no a b h))
