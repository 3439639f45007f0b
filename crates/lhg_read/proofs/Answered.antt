-- What is known of an answer that is there.
use Rattle.std.proofs.Common.{◌≡◌, ◌⊎◌, inl, inr, ◌∷◌, ◌++◌, List, refl, Bool, true, false, cond, Option, Some, None}
use Rattle.std.specs.Option.{option_map}
use Rattle.std.proofs.lemmas.Option.{none-some, same_Some}
use Rattle.lhg_read.specs.Options.{consed, joined}

-- it is one of two
pub one_of : {A : Type 0} (b : Bool) (x y : Option A) (z : A) → cond b x y ≡ Some z → (x ≡ Some z) ⊎ (y ≡ Some z)
one_of true x y z e = inl e
one_of false x y z e = inr e

-- a value that was changed was there
pub was_there : {A B : Type 0} (f : A → B) (o : Option A) (y : B) → option_map f o ≡ Some y → (x : A) × (o ≡ Some x) × (f x ≡ y)
was_there f None y e = absurd (none-some y e)
was_there f (Some x) y e = (x, refl, same_Some (f x) y e)

-- both parts of a list were there
pub both_joined : {A : Type 0} (a b : Option (List A)) (z : List A) → joined a b ≡ Some z → (x y : List A) × (a ≡ Some x) × (b ≡ Some y) × (x ++ y ≡ z)
both_joined None b z e = absurd (none-some z e)
both_joined (Some x) None z e = absurd (none-some z e)
both_joined (Some x) (Some y) z e = (x, y, refl, refl, same_Some (x ++ y) z e)

-- the first member and the further ones were there
pub both_consed : {A : Type 0} (a : Option A) (b : Option (List A)) (z : List A) → consed a b ≡ Some z → (x : A) × (y : List A) × (a ≡ Some x) × (b ≡ Some y) × (x ∷ y ≡ z)
both_consed None b z e = absurd (none-some z e)
both_consed (Some x) None z e = absurd (none-some z e)
both_consed (Some x) (Some y) z e = (x, y, refl, refl, same_Some (x ∷ y) z e)
