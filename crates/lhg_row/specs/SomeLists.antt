-- Which points are in some piece of lists that are joined, and of which member is a fact of some member?
use Rattle.std.specs.Prelude.{◌≡◌, ◌⊎◌, ◌↔◌, ◌<◌, ℕ, zero, suc, List, [], ◌∷◌, ◌++◌, length, get_or}
use Rattle.std.proofs.Common.{inl, inr, arith}
use Rattle.lhg_math.specs.Tests.{AllOf}
use Rattle.lhg_num.specs.Marked.{Marked}
use Rattle.lhg_row.specs.Row.{PlainPoint}
use Rattle.lhg_row.specs.Piece.{PlainPiece, InPiece, InSome}
use Rattle.lhg_row.specs.Eliminate.{each_joined}
use Rattle.lhg_row.specs.Members.{SomeOf}

-- ---- two lists
-- a point in some piece of the first list is in some piece of both together
pub in_left : (ps qs : List PlainPiece) (x : PlainPoint) → InSome ps x → InSome (ps ++ qs) x
in_left [] qs x h = absurd h
in_left (p ∷ ps) qs x (inl h) = inl h
in_left (p ∷ ps) qs x (inr h) = inr (in_left ps qs x h)

-- the same of the second list
pub in_right : (ps qs : List PlainPiece) (x : PlainPoint) → InSome qs x → InSome (ps ++ qs) x
in_right [] qs x h = h
in_right (p ∷ ps) qs x h = inr (in_right ps qs x h)

-- a point in some piece of both together is in some piece of one of them
pub in_either : (ps qs : List PlainPiece) (x : PlainPoint) → InSome (ps ++ qs) x → InSome ps x ⊎ InSome qs x
in_either [] qs x h = inr h
in_either (p ∷ ps) qs x (inl h) = inl (inl h)
in_either (p ∷ ps) qs x (inr h) = elim (in_either ps qs x h) [ inl k ↦ inl (inr k) | inr k ↦ inr k ]

-- ---- facts of some member
-- some member, with what leads back into the list
pub some_out : {A : Type 0} (P : A → Type 0) (R : Type 0) (xs : List A) → ((x : A) → ((Q : A → Type 0) → Q x → SomeOf Q xs) → P x → R) → SomeOf P xs → R
some_out P R [] f h = absurd h
some_out P R (x ∷ xs) f (inl h) = f x (λ Q q. inl q) h
some_out P R (x ∷ xs) f (inr h) = some_out P R xs (λ y back k. f y (λ Q q. inr (back Q q)) k) h

-- what follows from a fact of each member follows of some member
pub some_map : {A : Type 0} (P Q : A → Type 0) → ((x : A) → P x → Q x) → (xs : List A) → SomeOf P xs → SomeOf Q xs
some_map P Q f [] h = absurd h
some_map P Q f (x ∷ xs) (inl h) = inl (f x h)
some_map P Q f (x ∷ xs) (inr h) = inr (some_map P Q f xs h)

-- the member at a place is some member
pub some_at : {A : Type 0} (Q : A → Type 0) (d : A) (xs : List A) (i : ℕ) → i < length xs → Q (get_or xs i d) → SomeOf Q xs
some_at Q d [] i h q = absurd (omega arith)
some_at Q d (x ∷ xs) zero h q = inl q
some_at Q d (x ∷ xs) (suc i) h q = inr (some_at Q d xs i (omega arith) q)

-- the same, where each member has another fact besides
pub some_each : {A : Type 0} (W P Q : A → Type 0) (xs : List A) → AllOf W xs → ((x : A) → W x → P x → Q x) → SomeOf P xs → SomeOf Q xs
some_each W P Q [] w f h = absurd h
some_each W P Q (x ∷ xs) w f (inl h) = inl (f x w.0 h)
some_each W P Q (x ∷ xs) w f (inr h) = inr (some_each W P Q xs w.1 f h)

-- to be in some piece is a fact of some member
pub in_some_of : (ps : List PlainPiece) (x : PlainPoint) → InSome ps x ↔ SomeOf (λ p. InPiece p x) ps
in_some_of [] x = (λ h. h, λ h. h)
in_some_of (p ∷ ps) x =
    let rest = in_some_of ps x in (
      λ h. elim h [ inl k ↦ inl k | inr k ↦ inr (rest.0 k) ],
      λ h. elim h [ inl k ↦ inl k | inr k ↦ inr (rest.1 k) ],
    )

-- a point is in some piece of joined lists exactly where it is in some piece of one of them
pub joined-some : {A : Type 0} (f : A → Marked (List PlainPiece)) (xs : List A) (p : PlainPoint) → InSome (each_joined f xs).value p ↔ SomeOf (λ x. InSome (f x).value p) xs
joined-some f [] p = (λ h. h, λ h. h)
joined-some f (x ∷ xs) p =
    let rest = joined-some f xs p in (
      λ h. elim (in_either (f x).value (each_joined f xs).value p h) [ inl k ↦ inl k | inr k ↦ inr (rest.0 k) ],
      λ h. elim h [ inl k ↦ in_left (f x).value (each_joined f xs).value p k | inr k ↦ in_right (f x).value (each_joined f xs).value p (rest.1 k) ],
    )
