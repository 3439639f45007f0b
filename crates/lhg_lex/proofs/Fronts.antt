-- The longest front of a list that passes a test.
use Rattle.std.proofs.Common.{◌≡◌, ◌<◌, ◌≤◌, ◌+◌, ℕ, zero, suc, List, [], ◌∷◌, length, take, refl, Bool, true, false, cond, arith}
use Rattle.lhg_math.specs.Tests.{by_bool}
use Rattle.std.specs.List.{list_all, prefix_len}

-- one more before, as one more
pub suc_is : (n : ℕ) → 1 + n ≡ suc n
suc_is n = omega arith

-- the same of one more element
front_by : (p : ℕ → Bool) (b : ℕ) (w : List ℕ) (t : Bool) → p b ≡ t → list_all p (take (prefix_len p w) w) ≡ true → list_all p (take (cond t (1 + prefix_len p w) 0) (b ∷ w)) ≡ true
front_by p b w true e h = rw (suc_is (prefix_len p w), e) h
front_by p b w false e h = refl

-- the longest front that passes does
pub front_passes : (p : ℕ → Bool) (w : List ℕ) → list_all p (take (prefix_len p w) w) ≡ true
front_passes p [] = refl
front_passes p (b ∷ w) = front_by p b w (p b) refl (front_passes p w)

-- and no longer front does
pub front_fails : (p : ℕ → Bool) (w : List ℕ) (k : ℕ) → prefix_len p w < k → k ≤ length w → list_all p (take k w) ≡ false
front_fails p [] k h n = absurd (omega arith)
front_fails p (b ∷ w) zero h n = absurd (omega arith)
front_fails p (b ∷ w) (suc k) h n =
    by_bool (p b)
    (λ e. let g : 1 + prefix_len p w < suc k = rw e at h in rw e (front_fails p w k (omega arith) (omega arith)))
    (λ e. rw e refl)
