-- Numbers and rounds of the members of a list of records.
use Rattle.std.proofs.Common.{◌≡◌, ◌⊎◌, ◌<◌, ◌+◌, ℕ, zero, suc, List, [], ◌∷◌, ◌++◌, Some, slice_get, length, get_or, sym, ap, ◌∙◌, inl, inr, subst, arith}
use Rattle.std.specs.Prelude.{Contains}
use Rattle.lhg_math.specs.Tests.{AllOf}
use Rattle.lhg_plant.specs.Loss.{PlainLoss}
use Rattle.lhg_loss.specs.RoundFacts.{AreNumbered}

-- what holds of all members holds of one at a place
all_at : {A : Type 0} (P : A → Type 0) (xs : List A) (k : ℕ) (d : A) → AllOf P xs → k < length xs → P (get_or xs k d)
all_at P [] k d h l = absurd (omega arith)
all_at P (x ∷ xs) zero d h l = h.0
all_at P (x ∷ xs) (suc k) d h l = all_at P xs k d h.1 (omega arith)

-- and of each that the list contains
pub all_contained : {A : Type 0} (P : A → Type 0) (xs : List A) (x : A) → AllOf P xs → Contains xs x → P x
all_contained P xs x h c = subst P c.2 (all_at P xs c.0 x h c.1)

-- an empty list contains no record
pub no_member : (loss : PlainLoss) → Contains [] loss → ⊥
no_member loss there = let less = there.1 in omega arith

-- all records of a list have its round
pub all_rounds : (round first : ℕ) (losses : List PlainLoss) → AreNumbered round first losses → AllOf (λ r. r.round ≡ round) losses
all_rounds round first [] h = tt
all_rounds round first (r ∷ rs) h = (h.1, all_rounds round (first + 1) rs h.2)

-- a record of the list has its round
pub numbered_round : (round first : ℕ) (losses : List PlainLoss) (loss : PlainLoss) → AreNumbered round first losses → Contains losses loss → loss.round ≡ round
numbered_round round first losses loss h c = all_contained (λ r. r.round ≡ round) losses loss (all_rounds round first losses h) c

-- its number is that of its place
pub numbered_at : (round first : ℕ) (losses : List PlainLoss) (k : ℕ) (loss : PlainLoss) → AreNumbered round first losses → slice_get losses k ≡ Some loss → loss.number ≡ first + k
numbered_at round first [] k loss h e = cc
numbered_at round first (r ∷ rs) zero loss h e = let same : r ≡ loss = cc in ap (λ (w : PlainLoss). w.number) (sym same) ∙ h.0 ∙ omega arith
numbered_at round first (r ∷ rs) (suc k) loss h e = let n = numbered_at round (first + 1) rs k loss h.2 e in omega arith

-- a member of two lists together is one of the first, or of the second at a later place
pub split_there : (xs ys : List PlainLoss) (k : ℕ) (x : PlainLoss) → slice_get (xs ++ ys) k ≡ Some x → (slice_get xs k ≡ Some x) ⊎ ((j : ℕ) × (k ≡ length xs + j) × (slice_get ys j ≡ Some x))
split_there [] ys k x e = inr (k, omega arith, e)
split_there (y ∷ xs) ys zero x e = inl e
split_there (y ∷ xs) ys (suc k) x e = elim (split_there xs ys k x e) [ inl h ↦ inl h | inr h ↦ inr (h.0, (let s = h.1 in omega arith), h.2) ]

-- two lists of records, numbered one after the other, are numbered together
pub numbered_append : (round first : ℕ) (xs ys : List PlainLoss) → AreNumbered round first xs → AreNumbered round (first + length xs) ys → AreNumbered round first (xs ++ ys)
numbered_append round first [] ys h k = subst (λ (w : ℕ). AreNumbered round w ys) (omega arith) k
numbered_append round first (x ∷ xs) ys h k = (h.0, h.1, numbered_append round (first + 1) xs ys h.2 (subst (λ (w : ℕ). AreNumbered round w ys) (omega arith) k))
