-- Do all members of a list pass a test with marks, or some?
use Rattle.std.specs.Prelude.{◌≡◌, Bool, true, false, ◌||◌, ◌&&◌, List, [], ◌∷◌}
use Rattle.std.proofs.Common.{refl, ap, ◌∙◌}
use Rattle.lhg_math.specs.Tests.{all_of, any_of}
use Rattle.lhg_num.specs.Marked.{Marked, done, and_then, valued}

-- each member passes, with the marks of all tests
abbrev pub marked_all : {A : Type 0} → (A → Marked Bool) → List A → Marked Bool
marked_all t [] = done true
marked_all t (x ∷ xs) = and_then (t x) (λ b. valued (λ c. b && c) (marked_all t xs))

-- some member passes, with the marks of all tests
abbrev pub marked_any : {A : Type 0} → (A → Marked Bool) → List A → Marked Bool
marked_any t [] = done false
marked_any t (x ∷ xs) = and_then (t x) (λ b. valued (λ c. b || c) (marked_any t xs))

-- what is told of all members is what the tests tell
pub marked_all-value : {A : Type 0} (t : A → Marked Bool) (f : A → Bool) → ((x : A) → (t x).value ≡ f x) → (xs : List A) → (marked_all t xs).value ≡ all_of f xs
marked_all-value t f h [] = refl
marked_all-value t f h (x ∷ xs) = ap (λ b. b && (marked_all t xs).value) (h x) ∙ ap (λ b. f x && b) (marked_all-value t f h xs)

-- the same of some member
pub marked_any-value : {A : Type 0} (t : A → Marked Bool) (f : A → Bool) → ((x : A) → (t x).value ≡ f x) → (xs : List A) → (marked_any t xs).value ≡ any_of f xs
marked_any-value t f h [] = refl
marked_any-value t f h (x ∷ xs) = ap (λ b. b || (marked_any t xs).value) (h x) ∙ ap (λ b. f x || b) (marked_any-value t f h xs)
