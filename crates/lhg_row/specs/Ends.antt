-- What is at the end of a list of numbers, and what comes after two lists?
use Rattle.std.specs.Prelude.{◌≡◌, ℕ, zero, suc, ◌+◌, List, [], ◌∷◌, ◌++◌, length, insert}
use Rattle.std.proofs.Common.{refl, ap, ◌∙◌, arith, append_assoc}
use Rattle.std.proofs.lemmas.List.{length-append}
use Rattle.lhg_math.specs.Number.{Number}

-- m members and then a last one
pub record HasLast (m : ℕ) (xs : List Number) : Type 0 where
  pub front : List Number
  pub last : Number
  pub joined : front ++ last ∷ [] ≡ xs
  pub many : length front ≡ m

-- a list with m + 1 members has m and then a last one
pub last_of : (m : ℕ) (xs : List Number) → length xs ≡ suc m → HasLast m xs
last_of m [] e = absurd (omega arith)
last_of zero (x ∷ []) e = record { front = []; last = x; joined = refl; many = refl }
last_of zero (x ∷ y ∷ xs) e = absurd (omega arith)
last_of (suc m) (x ∷ xs) e =
    let h = last_of m xs (omega arith) in
    record { front = x ∷ h.front; last = h.last; joined = ap (λ ys. x ∷ ys) h.joined; many = ap suc h.many }

-- a number that is put in at the end of a list comes last
pub insert-end : (k : ℕ) (v : Number) (xs : List Number) → length xs ≡ k → insert xs k v ≡ xs ++ v ∷ []
insert-end zero v [] e = refl
insert-end zero v (x ∷ xs) e = absurd (omega arith)
insert-end (suc k) v [] e = absurd (omega arith)
insert-end (suc k) v (x ∷ xs) e = ap (λ ys. x ∷ ys) (insert-end k v xs (omega arith))

-- the lengths of two lists add
pub joined-length : (kept count : ℕ) (xs ys : List Number) → length xs ≡ kept → length ys ≡ count → length (xs ++ ys) ≡ kept + count
joined-length kept count xs ys e f = omega (arith, length-append xs ys)

-- a number that is put in after both of them comes last
pub insert-joined : (kept count : ℕ) (v : Number) (xs ys : List Number) → length xs ≡ kept → length ys ≡ count → insert (xs ++ ys) (kept + count) v ≡ xs ++ (ys ++ v ∷ [])
insert-joined kept count v xs ys e f = insert-end (kept + count) v (xs ++ ys) (joined-length kept count xs ys e f) ∙ append_assoc xs ys (v ∷ [])

-- the last member comes back
pub insert-last : (kept count : ℕ) (xs ys : List Number) (s : HasLast count ys) → length xs ≡ kept → insert (xs ++ s.front) (kept + count) s.last ≡ xs ++ ys
insert-last kept count xs ys s e = insert-joined kept count s.last xs s.front e s.many ∙ ap (λ z. xs ++ z) s.joined

-- a list is longer by one with a number at its end
pub longer : (count : ℕ) (v : Number) (xs : List Number) → length xs ≡ count → length (xs ++ v ∷ []) ≡ suc count
longer count v xs e = omega (arith, length-append xs (v ∷ []))

-- a list of no members
pub none_left : (xs : List Number) → length xs ≡ 0 → xs ≡ []
none_left [] e = refl
none_left (x ∷ xs) e = absurd (omega arith)
