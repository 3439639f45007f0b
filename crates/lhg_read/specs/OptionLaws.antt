-- What holds of lists that are read in parts, however they are put together?
use Rattle.std.proofs.Common.{◌≡◌, List, [], refl, ap, Option, Some, None, append_assoc, append-nil}
use Rattle.lhg_read.specs.Options.{joined}

pub joined_assoc : {A : Type 0} (a b c : Option (List A)) → joined (joined a b) c ≡ joined a (joined b c)
joined_assoc None b c = refl
joined_assoc (Some x) None c = refl
joined_assoc (Some x) (Some y) None = refl
joined_assoc (Some x) (Some y) (Some z) = ap (λ r. Some r) (append_assoc x y z)

-- with no list there is none
pub joined_none : {A : Type 0} (a : Option (List A)) → joined a None ≡ None
joined_none None = refl
joined_none (Some x) = refl

-- with nothing in front it is the list
pub joined_front : {A : Type 0} (a : Option (List A)) → joined (Some []) a ≡ a
joined_front None = refl
joined_front (Some x) = refl

-- with nothing behind too
pub joined_back : {A : Type 0} (a : Option (List A)) → joined a (Some []) ≡ a
joined_back None = refl
joined_back (Some x) = ap (λ r. Some r) (append-nil x)
