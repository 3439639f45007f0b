-- Where a list is put together in two ways, one front begins the other.
use Rattle.std.proofs.Common.{◌≡◌, ◌+◌, ◌⊎◌, inl, inr, ℕ, suc, List, [], ◌∷◌, ◌++◌, length, refl, sym, ap, ◌∙◌, arith}
use Rattle.std.specs.Prelude.{slice_get}

-- the second front is longer by some members, which begin what stands behind the first
pub record IsLonger {A : Type 0} (xs ys zs ws : List A) : Type 0 where
  pub between : List A
  pub front : zs ≡ xs ++ between
  pub rest : ys ≡ between ++ ws

pub split : {A : Type 0} (xs ys zs ws : List A) → xs ++ ys ≡ zs ++ ws → IsLonger xs ys zs ws ⊎ IsLonger zs ws xs ys
split [] ys zs ws e = inl (record { between = zs; front = refl; rest = e })
split (x ∷ xs) ys [] ws e = inr (record { between = x ∷ xs; front = refl; rest = sym e })
split (x ∷ xs) ys (z ∷ zs) ws e =
    let here : x ≡ z = cc in
    let there : xs ++ ys ≡ zs ++ ws = cc in
    elim (split xs ys zs ws there) [
      | inl h ↦ inl (record { between = h.between; front = ap (λ v. v ∷ zs) (sym here) ∙ ap (λ vs. x ∷ vs) h.front; rest = h.rest })
      | inr h ↦ inr (record { between = h.between; front = ap (λ v. v ∷ xs) here ∙ ap (λ vs. z ∷ vs) h.front; rest = h.rest })
    ]

-- the member at a place behind a front
pub get_behind : {A : Type 0} (xs ys : List A) (k : ℕ) → slice_get (xs ++ ys) (length xs + k) ≡ slice_get ys k
get_behind [] ys k = ap (slice_get ys) (omega arith)
get_behind (x ∷ xs) ys k = let e : suc (length xs) + k ≡ suc (length xs + k) = omega arith in ap (slice_get (x ∷ (xs ++ ys))) e ∙ get_behind xs ys k
