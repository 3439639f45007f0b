-- What holds of all members of a list, and of some member?
use Rattle.std.specs.Prelude.{◌⊎◌, ℕ, zero, suc, ◌<◌, Bool, List, [], ◌∷◌, ◌++◌, length, filter, get_or, remove}
use Rattle.std.proofs.Common.{inl, inr, arith}
use Rattle.lhg_math.specs.Tests.{AllOf, by_bool}

-- the fact holds of some member
abbrev pub SomeOf : {A : Type 0} → (A → Type 0) → List A → Type 0
SomeOf P [] = ⊥
SomeOf P (x ∷ xs) = P x ⊎ SomeOf P xs

-- what follows from both facts of one member follows where all members have the first and some member has the second
pub all_some : {A : Type 0} (P Q : A → Type 0) (R : Type 0) → ((x : A) → P x → Q x → R) → (xs : List A) → AllOf P xs → SomeOf Q xs → R
all_some P Q R f [] h k = absurd k
all_some P Q R f (x ∷ xs) h (inl k) = f x h.0 k
all_some P Q R f (x ∷ xs) h (inr k) = all_some P Q R f xs h.1 k

-- some member of the first list is one of both lists together
pub some_left : {A : Type 0} (P : A → Type 0) (xs ys : List A) → SomeOf P xs → SomeOf P (xs ++ ys)
some_left P [] ys h = absurd h
some_left P (x ∷ xs) ys (inl h) = inl h
some_left P (x ∷ xs) ys (inr h) = inr (some_left P xs ys h)

-- some member of the second list is one of both lists together
pub some_right : {A : Type 0} (P : A → Type 0) (xs ys : List A) → SomeOf P ys → SomeOf P (xs ++ ys)
some_right P [] ys h = h
some_right P (x ∷ xs) ys h = inr (some_right P xs ys h)

-- what holds of all members of two lists holds of all members of both together
pub all-append : {A : Type 0} (P : A → Type 0) (xs ys : List A) → AllOf P xs → AllOf P ys → AllOf P (xs ++ ys)
all-append P [] ys h k = k
all-append P (x ∷ xs) ys h k = (h.0, all-append P xs ys h.1 k)

-- and back
pub all_split : {A : Type 0} (P : A → Type 0) (xs ys : List A) → AllOf P (xs ++ ys) → AllOf P xs × AllOf P ys
all_split P [] ys h = (tt, h)
all_split P (x ∷ xs) ys h = let s = all_split P xs ys h.1 in ((h.0, s.0), s.1)

-- what holds of all members holds of those that pass a test
pub all-filter : {A : Type 0} (P : A → Type 0) (p : A → Bool) (xs : List A) → AllOf P xs → AllOf P (filter p xs)
all-filter P p [] h = tt
all-filter P p (x ∷ xs) h = by_bool (p x) (λ e. rw e (h.0, all-filter P p xs h.1)) (λ e. rw e (all-filter P p xs h.1))

-- and of the member at a place and of all others
pub all-remove : {A : Type 0} (P : A → Type 0) (xs : List A) (i : ℕ) (d : A) → i < length xs → AllOf P xs → P (get_or xs i d) × AllOf P (remove xs i)
all-remove P [] i d h k = absurd (omega arith)
all-remove P (x ∷ xs) zero d h k = (k.0, k.1)
all-remove P (x ∷ xs) (suc i) d h k = let v = all-remove P xs i d (omega arith) k.1 in (v.0, (k.0, v.1))
