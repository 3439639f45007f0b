-- Facts of lists that the standard library lacks: what is left from a place on, what was written over, and what holds of all members.
use Rattle.std.specs.Prelude.{◌≡◌, ◌<◌, ◌+◌, ℕ, zero, suc, List, [], ◌∷◌, ◌++◌, length, map, take, drop, get_or, slice_get, Option, Some}
use Rattle.std.proofs.Common.{refl, sym, ◌∙◌, subst, arith, add-one}
use Rattle.std.proofs.lemmas.Grind.{common_steps}
use Rattle.std.proofs.lemmas.Option.{none-some}
use Rattle.lhg_math.specs.Tests.{AllOf}

-- ---- places
-- a list from place i on is its member there and the list from the next place on
pub drop_cons : {A : Type 0} (xs : List A) (i : ℕ) (x : A) → x ≡ get_or xs i x → i < length xs → drop i xs ≡ x ∷ drop (i + 1) xs
drop_cons [] i x e h = absurd (omega arith)
drop_cons (y ∷ ys) zero x e h = rw (← e) refl
drop_cons (y ∷ ys) (suc i) x e h = rw (add-one) (drop_cons ys i x e (omega arith) ∙ rw add-one refl)

-- the same of the images of a list
pub drop-map_cons : {A B : Type 0} (f : A → B) (xs : List A) (i : ℕ) (x : A) → x ≡ get_or xs i x → i < length xs → drop i (map f xs) ≡ f x ∷ drop (i + 1) (map f xs)
drop-map_cons f [] i x e h = absurd (omega arith)
drop-map_cons f (y ∷ ys) zero x e h = rw (← e) refl
drop-map_cons f (y ∷ ys) (suc i) x e h = rw (add-one) (drop-map_cons f ys i x e (omega arith) ∙ rw add-one refl)

-- there is a member at each place
pub member-at : {A : Type 0} (xs : List A) (i : ℕ) → i < length xs → (x : A) × (x ≡ get_or xs i x)
member-at [] i h = absurd (omega arith)
member-at (x ∷ xs) zero h = (x, refl)
member-at (x ∷ xs) (suc i) h = member-at xs i (omega arith)

-- a list that was written over from its start, by one of its length, is that one
pub written_over : {A : Type 0} (n : ℕ) (new old : List A) → n ≡ length old → length new ≡ length old → take n (new ++ drop (length new) old) ≡ new
written_over n new old e f = grind (arith, common_steps)

-- ---- what holds of all members
-- one fact of each member gives another
pub all-map : {A : Type 0} (P Q : A → Type 0) → ((x : A) → P x → Q x) → (xs : List A) → AllOf P xs → AllOf Q xs
all-map P Q f [] h = tt
all-map P Q f (x ∷ xs) h = (f x h.0, all-map P Q f xs h.1)

-- two facts of each member give a third
pub all-both : {A : Type 0} (P Q R : A → Type 0) → ((x : A) → P x → Q x → R x) → (xs : List A) → AllOf P xs → AllOf Q xs → AllOf R xs
all-both P Q R f [] h k = tt
all-both P Q R f (x ∷ xs) h k = (f x h.0 k.0, all-both P Q R f xs h.1 k.1)

-- what holds of all members holds of the one that stands at a place
pub all_there : {A : Type 0} (P : A → Type 0) (xs : List A) (i : ℕ) (x : A) → AllOf P xs → slice_get xs i ≡ Some x → P x
all_there P [] i x h e = absurd (none-some x e)
all_there P (y ∷ xs) zero x h e = subst P (let same : y ≡ x = cc in same) h.0
all_there P (y ∷ xs) (suc i) x h e = all_there P xs i x h.1 e

-- the same of the images of a list
pub all_map_at : {A B : Type 0} (P : B → Type 0) (f : A → B) (xs : List A) (i : ℕ) (x : A) → AllOf P (map f xs) → i < length xs → x ≡ get_or xs i x → P (f x)
all_map_at P f [] i x h lt e = absurd (omega arith)
all_map_at P f (y ∷ ys) zero x h lt e = subst (λ z. P (f z)) (sym e) h.0
all_map_at P f (y ∷ ys) (suc i) x h lt e = all_map_at P f ys i x h.1 (omega arith) e
