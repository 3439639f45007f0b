-- The coefficients of one variable, written into zeros.
use Rattle.std.proofs.Common.{◌≡◌, ◌<◌, ◌+◌, ◌-◌, ℕ, zero, suc, List, [], ◌∷◌, ◌++◌, length, replicate, set, refl, sym, ap, ◌∙◌, arith, append_assoc, zero-add}
use Rattle.std.proofs.lemmas.List.{length-replicate}
use Rattle.std.proofs.Math.Numerals.{suc-eq-add-one}
use Rattle.lhg_math.specs.Number.{Number, nought, neg, unit}
use Rattle.lhg_row.specs.Piece.{PlainPiece}
use Rattle.lhg_plant.specs.Still.{axis, axis_row, still_from}
use Rattle.lhg_read.specs.Keep.{change_row, keep_from}
use Rattle.std.proofs.Math.Nat.{suc-add}

-- one of n zeros is replaced
pub axis_set : (n v : ℕ) (c : Number) → v < n → set (replicate n nought) v c ≡ axis n v c
axis_set zero v c h = absurd (omega arith)
axis_set (suc n) zero c h = refl
axis_set (suc n) (suc v) c h = ap (λ xs. nought ∷ xs) (axis_set n v c (omega arith))

set_left : (xs ys : List Number) (i : ℕ) (c : Number) → i < length xs → set (xs ++ ys) i c ≡ set xs i c ++ ys
set_left [] ys i c h = absurd (omega arith)
set_left (x ∷ xs) ys zero c h = refl
set_left (x ∷ xs) ys (suc i) c h = ap (λ zs. x ∷ zs) (set_left xs ys i c (omega arith))

set_right : (xs ys : List Number) (i k : ℕ) (c : Number) → k ≡ length xs + i → set (xs ++ ys) k c ≡ xs ++ set ys i c
set_right [] ys i k c e = ap (λ m. set ys m c) (e ∙ zero-add i)
set_right (x ∷ xs) ys i zero c e = absurd (omega arith)
set_right (x ∷ xs) ys i (suc k) c e = ap (λ zs. x ∷ zs) (set_right xs ys i k c (omega arith))

zeros_joined : (n m : ℕ) → replicate (n + m) nought ≡ replicate n nought ++ replicate m nought
zeros_joined zero m = ap (λ k. replicate k nought) (zero-add m)
zeros_joined (suc n) m = ap (λ k. replicate k nought) (suc-add n m) ∙ ap (λ xs. nought ∷ xs) (zeros_joined n m)

-- one of n zeros, and one of n further ones
pub change_set : (n v : ℕ) (a b : Number) → v < n → set (set (replicate (n + n) nought) v a) (n + v) b ≡ axis n v a ++ axis n v b
change_set n v a b h =
    let zs : List Number = replicate n nought in
    let long : length zs ≡ n = length-replicate n nought in
    ap (λ xs. set (set xs v a) (n + v) b) (zeros_joined n n)
    ∙ ap (λ xs. set xs (n + v) b) (set_left zs zs v a (omega (arith, long)))
    ∙ set_right (set zs v a) zs v (n + v) b (omega (arith, long, length_set zs v a))
    ∙ ap (λ xs. xs ++ set zs v b) (axis_set n v a h)
    ∙ ap (λ xs. axis n v a ++ xs) (axis_set n v b h)
  where
    length_set : (xs : List Number) (i : ℕ) (c : Number) → length (set xs i c) ≡ length xs
    length_set [] i c = refl
    length_set (x ∷ xs) zero c = refl
    length_set (x ∷ xs) (suc i) c = ap suc (length_set xs i c)

-- ---- the turns of the loops
-- the variables that are left, as one and the others
left : (n v : ℕ) → v < n → n - v ≡ suc (n - (v + 1))
left n v h = omega arith

pub still_more : (n v : ℕ) → v < n → still_from n v (n - v) ≡ axis_row n v unit ∷ axis_row n v (neg unit) ∷ still_from n (v + 1) (n - (v + 1))
still_more n v h = ap (still_from n v) (left n v h) ∙ ap (λ k. axis_row n v unit ∷ axis_row n v (neg unit) ∷ still_from n k (n - (v + 1))) (suc-eq-add-one v)

pub keep_more : (n v : ℕ) → v < n → keep_from n v (n - v) ≡ change_row n v (neg unit) unit ∷ change_row n v unit (neg unit) ∷ keep_from n (v + 1) (n - (v + 1))
keep_more n v h = ap (keep_from n v) (left n v h) ∙ ap (λ k. change_row n v (neg unit) unit ∷ change_row n v unit (neg unit) ∷ keep_from n k (n - (v + 1))) (suc-eq-add-one v)

-- rows that are pushed come before the rest
pub pushed : (old new pair rest : PlainPiece) → new ≡ old ++ pair → old ++ (pair ++ rest) ≡ new ++ rest
pushed old new pair rest e = sym (append_assoc old pair rest) ∙ ap (λ rows. rows ++ rest) (sym e)
