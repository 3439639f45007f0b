-- A loop that scales the entries of a row one by one, and the row that it makes.
use Rattle.std.proofs.Common.{◌≡◌, ℕ, zero, suc, ◌+◌, ◌<◌, List, [], ◌∷◌, ◌++◌, length, map, take, drop, get_or, refl, ap, sym, ◌∙◌, arith, add-one, false, cond, Some, None, Result, Ok, Err, subst}
use Rattle.std.proofs.Math.ListN.{set}
use Rattle.lhg_math.specs.Number.{Number, mul, quot, inverse}
use Rattle.lhg_math.specs.Quotients.{quot-is}
use Rattle.lhg_math.specs.Signs.{is_nought, size_of, lead}
use Rattle.lhg_math.specs.SignLaws.{size_above, is_nought-positive}
use Rattle.lhg_math.specs.Tests.{any_of, by_bool}
use Rattle.lhg_num.specs.Limits.{IsExact, frac_refuses_mul, frac_refuses_canon}
use Rattle.lhg_num.specs.FracCanon.{canon_frac}

-- one more entry of a row is done, by recursion on the row
set_step : (f : Number → Number) (old : List Number) (i : ℕ) (x y : Number) → i < length old → x ≡ get_or (map f (take i old) ++ drop i old) i x → y ≡ f x
    → set (map f (take i old) ++ drop i old) i y ≡ map f (take (suc i) old) ++ drop (suc i) old
set_step f [] i x y h g k = absurd (omega arith)
set_step f (a ∷ rest) zero x y h g k = ap (λ z. z ∷ rest) (k ∙ ap f g)
set_step f (a ∷ rest) (suc i) x y h g k = ap (λ zs. f a ∷ zs) (set_step f rest i x y (omega arith) g k)

-- the entries below i are done, and then also entry i
pub set-done : (f : Number → Number) (old row : List Number) (i : ℕ) (x y : Number) → row ≡ map f (take i old) ++ drop i old → i < length old → x ≡ get_or row i x → y ≡ f (get_or row i x)
    → set row i y ≡ map f (take (i + 1) old) ++ drop (i + 1) old
set-done f old row i x y e h g k =
    rw add-one (ap (λ r. set r i y) e ∙ set_step f old i x y h (g ∙ ap (λ r. get_or r i x) e) (k ∙ ap f (sym g)))

-- what the leading size says of its row
pub record IsLeading (row : List Number) (size : Number) : Type 0 where
  pub some : is_nought (lead row) ≡ false
  pub is : size ≡ size_of (lead row)
  pub positive : is_nought size ≡ false

-- the leading size of a row
pub leading : (row : List Number) (size : Number) → Some size ≡ cond (is_nought (lead row)) None (Some (size_of (lead row))) → IsLeading row size
leading row size h =
    by_bool (is_nought (lead row))
    (λ e. let z : Some size ≡ None = rw e at h in cc)
    (λ e. let z : Some size ≡ Some (size_of (lead row)) = rw e at h in
    let w : size ≡ size_of (lead row) = cc in
    record { some = e; is = w; positive = ap is_nought w ∙ is_nought-positive _ (size_above (lead row) e) })

-- to multiply by an inverse is to divide
map-times : (s : Number) (xs : List Number) → map (λ x. mul x (inverse s)) xs ≡ map (λ x. quot x s) xs
map-times s [] = refl
map-times s (x ∷ xs) = ap (λ y. y ∷ map (λ z. mul z (inverse s)) xs) (sym (quot-is x s)) ∙ ap (λ ys. quot x s ∷ ys) (map-times s xs)

-- a row scaled by the inverse of the size of its leading entry
by_size : {T E : Type 0} (r : Result T E) (row new : List Number) → is_nought (lead row) ≡ false
    → IsExact r (any_of (λ x. frac_refuses_mul x (inverse (size_of (lead row)))) row) (λ _. new ≡ map (λ x. mul x (inverse (size_of (lead row)))) row)
    → IsExact r (frac_refuses_canon row) (λ _. new ≡ canon_frac row)
by_size (Ok x) row new e h = (rw e h.0, h.1 ∙ map-times (size_of (lead row)) row ∙ rw e refl)
by_size (Err x) row new e h = rw e h

-- a row scaled by the inverse of its leading size is scaled by the rule of fractions
pub canon_exact : {T E : Type 0} (r : Result T E) (row new : List Number) (size factor : Number) → IsLeading row size → factor ≡ inverse size
    → IsExact r (any_of (λ x. frac_refuses_mul x factor) row) (λ _. new ≡ map (λ x. mul x factor) row) → IsExact r (frac_refuses_canon row) (λ _. new ≡ canon_frac row)
canon_exact r row new size factor l e h =
    by_size r row new l.some (subst (λ (k : Number). IsExact r (any_of (λ x. frac_refuses_mul x k) row) (λ _. new ≡ map (λ x. mul x k) row)) (e ∙ ap inverse l.is) h)

-- a row of entries that stand for themselves
map-self : (xs : List Number) → map (λ x. x) xs ≡ xs
map-self [] = refl
map-self (x ∷ xs) = ap (λ ys. x ∷ ys) (map-self xs)

-- the same where each entry stands for itself
pub canon_exact_at : {T E : Type 0} (r : Result T E) (row new : List Number) (size factor : Number) → IsLeading row size → factor ≡ inverse size
    → IsExact r (any_of (λ x. frac_refuses_mul x factor) row) (λ _. new ≡ map (λ x. mul x factor) row) → IsExact r (frac_refuses_canon (map (λ x. x) row)) (λ _. map (λ x. x) new ≡ canon_frac (map (λ x. x) row))
canon_exact_at r row new size factor l e h =
    subst (λ (k : List Number). IsExact r (frac_refuses_canon k) (λ _. map (λ x. x) new ≡ canon_frac k)) (sym (map-self row))
    (subst (λ (k : List Number). IsExact r (frac_refuses_canon row) (λ _. k ≡ canon_frac row)) (sym (map-self new)) (canon_exact r row new size factor l e h))
