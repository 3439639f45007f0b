-- The older and the newest pieces of a stage, and places of lists and ranges.
use Rattle.std.proofs.Common.{◌≡◌, ◌<◌, ◌≤◌, ◌+◌, ℕ, zero, suc, List, [], ◌∷◌, ◌++◌, map, drop, take, length, get_or, slice_get, IsSomeAnd, Option, Some, None, refl, sym, ap, ◌∙◌, subst, inl, inr, arith}
use Rattle.std.specs.List.{range_with_len}
use Rattle.lhg_math.specs.Tests.{AllOf}
use Rattle.lhg_num.specs.FracArithmetic.{frac_arithmetic}
use Rattle.lhg_row.specs.Row.{PlainPoint}
use Rattle.lhg_row.specs.Piece.{PlainPiece, InPiece, InSome}
use Rattle.lhg_row.specs.PieceFacts.{IsPoly}
use Rattle.lhg_plant.specs.Plant.{PlainPlant}
use Rattle.lhg_plant.specs.Invariants.{pieces_at}
use Rattle.lhg_plant.specs.Sound.{IsInside}
use Rattle.lhg_plant.specs.OutCalculus.{numbered}
use Rattle.lhg_forward.specs.Growth.{PlainStage, older_at, newest_at}
use Rattle.lhg_forward.specs.GrowthFacts.{IsRegion}

-- ---- parts of a list
pub parts_join : {A : Type 0} (n : ℕ) (xs : List A) → take n xs ++ drop n xs ≡ xs
parts_join zero xs = refl
parts_join (suc n) [] = refl
parts_join (suc n) (x ∷ xs) = ap (λ w. x ∷ w) (parts_join n xs)

pub take_first : {A : Type 0} (xs ys : List A) → take (length xs) (xs ++ ys) ≡ xs
take_first [] ys = refl
take_first (x ∷ xs) ys = ap (λ w. x ∷ w) (take_first xs ys)

pub drop_first : {A : Type 0} (xs ys : List A) → drop (length xs) (xs ++ ys) ≡ ys
drop_first [] ys = refl
drop_first (x ∷ xs) ys = drop_first xs ys

-- what holds of each member of the rest of a list
pub all-drop : {A : Type 0} (P : A → Type 0) (n : ℕ) (xs : List A) → AllOf P xs → AllOf P (drop n xs)
all-drop P zero xs h = h
all-drop P (suc n) [] h = tt
all-drop P (suc n) (x ∷ xs) h = all-drop P n xs h.1

-- ---- newest pieces
module _ (a : PlainPlant) (s : PlainStage) (region_is : IsRegion a s.region) (l : ℕ) where
  -- what follows of each piece of the region that is a piece, lies inside the invariant and inside the pieces of the region
  from_each : (P : PlainPiece → Type 0)
      → ((q : PlainPiece) → IsPoly frac_arithmetic (length a.vars) q → IsInside a l q → ((x : PlainPoint) → length x ≡ length a.vars → InPiece q x → InSome (pieces_at s.region l) x) → P q)
      → (qs : List PlainPiece) → AllOf (IsPoly frac_arithmetic (length a.vars)) qs → AllOf (IsInside a l) qs → ((x : PlainPoint) → InSome qs x → InSome (pieces_at s.region l) x) → AllOf P qs
  from_each P f [] polys inside kept = tt
  from_each P f (q ∷ qs) polys inside kept = (f q polys.0 inside.0 (λ x e i. kept x (inl i)), from_each P f qs polys.1 inside.1 (λ x i. kept x (inr i)))

  pub newest_inside : (P : PlainPiece → Type 0)
      → ((q : PlainPiece) → IsPoly frac_arithmetic (length a.vars) q → IsInside a l q → ((x : PlainPoint) → length x ≡ length a.vars → InPiece q x → InSome (pieces_at s.region l) x) → P q)
      → AllOf P (newest_at s l)
  newest_inside P f =
      all-drop P (older_at s l) (pieces_at s.region l) (from_each P f (pieces_at s.region l) (region_is.polys l) (region_is.inside l) (λ x i. i))

-- ---- places
numbered_from : {A : Type 0} (P : ℕ × A → Type 0) (xs : List A) (k e : ℕ) (x : A) → slice_get xs e ≡ Some x → AllOf P (numbered k xs) → P (k + e, x)
numbered_from P [] k e x is h = cc
numbered_from {A = A} P (y ∷ xs) k zero x is h =
    let same : y ≡ x = cc in
    let here : k ≡ k + 0 = omega arith in
    subst (λ (i : ℕ). P (i, x)) here (subst (λ (w : A). P (k, w)) same h.0)
numbered_from P (y ∷ xs) k (suc e) x is h =
    let next : suc k + e ≡ k + suc e = omega arith in
    subst (λ (i : ℕ). P (i, x)) next (numbered_from P xs (suc k) e x is h.1)

pub numbered_at : {A : Type 0} (P : ℕ × A → Type 0) (xs : List A) (e : ℕ) (x : A) → slice_get xs e ≡ Some x → AllOf P (numbered 0 xs) → P (e, x)
numbered_at P xs e x is h = let here : 0 + e ≡ e = omega arith in subst (λ (i : ℕ). P (i, x)) here (numbered_from P xs 0 e x is h)

-- each member of a range is below its end
range_below : (k m top : ℕ) → k + m ≤ top → AllOf (λ l. l < top) (range_with_len k m)
range_below k zero top h = tt
range_below k (suc m) top h = (omega arith, range_below (k + 1) m top (omega arith))

pub range_all : (m : ℕ) → AllOf (λ l. l < m) (range_with_len 0 m)
range_all m = range_below 0 m m (omega arith)

range_from : (P : ℕ → Type 0) (k m l : ℕ) → l < m → AllOf P (range_with_len k m) → P (k + l)
range_from P k zero l h all = absurd (omega arith)
range_from P k (suc m) zero h all = let here : k ≡ k + 0 = omega arith in subst (λ (i : ℕ). P i) here all.0
range_from P k (suc m) (suc l) h all = let next : k + 1 + l ≡ k + suc l = omega arith in subst (λ (i : ℕ). P i) next (range_from P (k + 1) m l (omega arith) all.1)

-- what holds of a range from 0 on holds of each place below its end
pub range_of : (P : ℕ → Type 0) (m l : ℕ) → l < m → AllOf P (range_with_len 0 m) → P l
range_of P m l h all = let here : 0 + l ≡ l = omega arith in subst (λ (i : ℕ). P i) here (range_from P 0 m l h all)

-- a place with a member is below the length
pub there_below : {A : Type 0} (P : A → Type 0) (xs : List A) (k : ℕ) → IsSomeAnd (slice_get xs k) P → k < length xs
there_below P [] k h = absurd h
there_below P (x ∷ xs) zero h = omega arith
there_below P (x ∷ xs) (suc k) h = let less = there_below P xs k h in omega arith
