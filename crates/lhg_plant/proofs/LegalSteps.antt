-- What the code finds in the lists of a plant.
use Rattle.std.proofs.Common.{◌≡◌, ◌==◌, ◌<◌, ℕ, zero, suc, List, [], ◌∷◌, length, map, get_or, refl, sym, ap, ◌∙◌, subst, Bool, false, Option, Some, Result, slice_get}
use Rattle.std.specs.Option.{option_map}
use Rattle.std.specs.Ordering.{ordering_index}
use Rattle.std.specs.declared.cmp.Ordering.{Ordering}
use Rattle.std.proofs.lemmas.Option.{none-some, same_Some, slice_get-map, slice_get_read}
use Rattle.lhg_math.specs.Number.{Number, lt, nought, sign_of}
use Rattle.lhg_math.specs.NumberOrder.{lt_asym}
use Rattle.lhg_math.specs.Tests.{AllOf, by_bool}
use Rattle.lhg_num.specs.Halting.{IsWideBy}
use Rattle.lhg_num.specs.Marked.{Marked}
use Rattle.lhg_plant.specs.LegalTruths.{told_of}

-- the image of a member is at its place
pub image_at : {A B : Type 0} (f : A → B) (xs : List A) (i : ℕ) (x : A) → i < length xs → x ≡ get_or xs i x → slice_get (map f xs) i ≡ Some (f x)
image_at f xs i x h e = slice_get-map f xs i ∙ ap (option_map f) (slice_get_read xs (length xs) i x refl h e)

-- what holds of all members holds of the one at a place
pub all_at : {A : Type 0} (P : A → Type 0) (xs : List A) (i : ℕ) (x : A) → AllOf P xs → slice_get xs i ≡ Some x → P x
all_at P [] i x h e = absurd (none-some x e)
all_at P (y ∷ xs) zero x h e = subst (λ z. P z) (same_Some y x e) h.0
all_at P (y ∷ xs) (suc i) x h e = all_at P xs i x h.1 e

-- what is told of a value that is there is told of the value
pub told_there : {A E : Type 0} (r : Result Bool E) (f : A → Marked Bool) (o : Option A) (x : A) → o ≡ Some x → IsWideBy r (f x) (λ b. b) → IsWideBy r (told_of f o) (λ b. b)
told_there r f o x e h = subst (λ q. IsWideBy r (told_of f q) (λ b. b)) (sym e) h

-- the sign of a number is that of 1 where the number is above 0
pub greater_sign : (t : Number) (o : Ordering) → o ≡ sign_of t → (ordering_index o == 2) ≡ lt nought t
greater_sign t o e = ap (λ x. ordering_index x == 2) e ∙ by_order
  where
    by_order : (ordering_index (sign_of t) == 2) ≡ lt nought t
    by_order =
        by_bool (lt nought t)
        (λ f. let below : lt t nought ≡ false = lt_asym nought t f in rw (below, f) refl)
        (λ f. by_bool (lt t nought) (λ g. rw (g, f) refl) (λ g. rw (g, f) refl))
