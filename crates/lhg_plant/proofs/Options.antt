-- What is known of an optional value.
use Rattle.std.proofs.Common.{◌≡◌, ◌⊎◌, inl, inr, Option, Some, None, IsSomeAnd, refl, sym, subst}

-- what holds of the value is weakened there
pub some_weaken : {A : Type 0} (P Q : A → Type 0) → ((x : A) → P x → Q x) → (o : Option A) → IsSomeAnd o P → IsSomeAnd o Q
some_weaken P Q f None h = h
some_weaken P Q f (Some x) h = f x h

-- a fact that does not speak of the value
pub some_out : {A : Type 0} (P : A → Type 0) (R : Type 0) → ((x : A) → P x → R) → (o : Option A) → IsSomeAnd o P → R
some_out P R f None h = absurd h
some_out P R f (Some x) h = f x h

-- whether there is a value with a decidable property is decidable
pub some_decided_by : {A : Type 0} (P : A → Type 0) → ((x : A) → P x ⊎ ¬ P x) → (o : Option A) → IsSomeAnd o P ⊎ ¬ IsSomeAnd o P
some_decided_by P f None = inr (λ h. h)
some_decided_by P f (Some x) = f x

-- what holds of the value holds of the value that is there
pub some_there : {A : Type 0} (o : Option A) (w : A) (P : A → Type 0) → o ≡ Some w → IsSomeAnd o P → P w
some_there {A = A} o w P e h = subst (λ (q : Option A). IsSomeAnd q P) e h

-- what holds of the value that is there holds of the value
pub there_some : {A : Type 0} (o : Option A) (w : A) (P : A → Type 0) → o ≡ Some w → P w → IsSomeAnd o P
there_some {A = A} o w P e h = subst (λ (q : Option A). IsSomeAnd q P) (sym e) h

-- there is a value or none
pub find_some : {A : Type 0} (o : Option A) → ((w : A) × (o ≡ Some w)) ⊎ (o ≡ None)
find_some None = inr refl
find_some (Some w) = inl (w, refl)

-- not both
pub none_there : {A : Type 0} (o : Option A) (w : A) → o ≡ None → o ≡ Some w → ⊥
none_there o w e f = cc

-- what is there is one thing
pub some_same : {A : Type 0} (o : Option A) (x y : A) → o ≡ Some x → o ≡ Some y → x ≡ y
some_same o x y e f = cc
