-- Which equalities are decidable?
use Rattle.std.specs.Prelude.{◌≡◌, ◌⊎◌, ℕ, zero, suc, Bool, true, false}
use Rattle.std.proofs.Common.{refl, sym, ap, ◌∙◌, inl, inr, arith}
use Rattle.lhg_math.specs.Number.{Number, lt}
use Rattle.lhg_math.specs.NumberOrder.{lt_irrefl, lt_antisymm}
use Rattle.lhg_math.specs.Tests.{by_bool, false_true}

-- two whole numbers are equal or not
pub nat_decided : (m n : ℕ) → (m ≡ n) ⊎ ¬ (m ≡ n)
nat_decided zero zero = inl refl
nat_decided zero (suc n) = inr (λ e. omega arith)
nat_decided (suc m) zero = inr (λ e. omega arith)
nat_decided (suc m) (suc n) = elim (nat_decided m n) [ inl e ↦ inl (omega arith) | inr e ↦ inr (λ f. e (omega arith)) ]

-- a test is not both true and false
pub clash : {P : Type 0} (b : Bool) → b ≡ true → b ≡ false → P
clash b e f = false_true (sym f ∙ e)

-- two numbers are equal or not
pub number_decided : (a b : Number) → (a ≡ b) ⊎ ¬ (a ≡ b)
number_decided a b =
    by_bool (lt a b)
    (λ e. inr (λ h. clash (lt a b) e (ap (λ w. lt w b) h ∙ lt_irrefl b)))
    (λ e. by_bool (lt b a) (λ f. inr (λ h. clash (lt b a) f (ap (λ w. lt b w) h ∙ lt_irrefl b))) (λ f. inl (lt_antisymm a b e f)))
