-- The pieces of lists, each with the place of its list: which places are there, and how many pieces stand at each?
use Rattle.std.proofs.Common.{◌≡◌, ◌<◌, ◌≤◌, ◌+◌, ℕ, suc, List, [], ◌∷◌, ◌++◌, length, refl, sym, ap, ◌∙◌, false, ◌==◌, arith, ne_eqb, eqb-true, zero-add}
use Rattle.lhg_math.specs.Tests.{AllOf, by_bool}
use Rattle.lhg_row.specs.Members.{all-append}
use Rattle.lhg_row.specs.Piece.{PlainPiece}
use Rattle.lhg_read.proofs.Collecting.{same_eq}
use Rattle.lhg_ctl.specs.ControllerGrammar.{count_at}
use Rattle.lhg_ctl.specs.Draft.{all_at, placed_from}
use Rattle.lhg_ctl.specs.Written.{IsWritten}

-- a piece or a guard: its location or its switch is one of so many, and its rows can be read
pub record IsPlacedOf (n count : ℕ) (p : ℕ × PlainPiece) : Type 0 where
  pub place : p.0 < count
  pub rows : IsWritten n p.1

-- the pieces of lists are placed among as many places
pub placed_all : (n count k : ℕ) (lists : List (List PlainPiece)) → k + length lists ≤ count → AllOf (AllOf (IsWritten n)) lists → AllOf (IsPlacedOf n count) (placed_from k lists)
placed_all n count k [] few h = tt
placed_all n count k (ps ∷ lists) few h = all-append (IsPlacedOf n count) (all_at k ps) (placed_from (suc k) lists) (each ps h.0) (placed_all n count (suc k) lists (omega arith) h.1)
  where
    each : (ps : List PlainPiece) → AllOf (IsWritten n) ps → AllOf (IsPlacedOf n count) (all_at k ps)
    each [] h = tt
    each (p ∷ ps) h = (record { place = omega arith; rows = h.0 }, each ps h.1)

-- ---- how many

count-here : (k : ℕ) (ps : List PlainPiece) (more : List (ℕ × PlainPiece)) → count_at k (all_at k ps ++ more) ≡ length ps + count_at k more
count-here k [] more = sym (zero-add (count_at k more))
count-here k (p ∷ ps) more = let e = same_eq k in let m = count-here k ps more in rw e (omega (arith, m))

count-elsewhere : (k n : ℕ) (ps : List PlainPiece) (more : List (ℕ × PlainPiece)) → (n == k) ≡ false → count_at k (all_at n ps ++ more) ≡ count_at k more
count-elsewhere k n [] more e = refl
count-elsewhere k n (p ∷ ps) more e = rw e (count-elsewhere k n ps more e)

count-later : (k n : ℕ) (lists : List (List PlainPiece)) → k < n → count_at k (placed_from n lists) ≡ 0
count-later k n [] h = refl
count-later k n (ps ∷ lists) h = count-elsewhere k n ps (placed_from (suc n) lists) (ne_eqb n k (λ e. omega arith)) ∙ count-later k (suc n) lists (omega arith)

-- no list of more than the limit, so no place with more
pub few_at : (limit n : ℕ) (lists : List (List PlainPiece)) → AllOf (λ ps. length ps ≤ limit) lists → (k : ℕ) → count_at k (placed_from n lists) ≤ limit
few_at limit n [] h k = omega arith
few_at limit n (ps ∷ lists) h k =
    by_bool (n == k)
    (λ e. let same : n ≡ k = eqb-true n k e in let here = ap (λ (m : ℕ). count_at m (all_at n ps ++ placed_from (suc n) lists)) (sym same) ∙ count-here n ps (placed_from (suc n) lists) in
    let none = count-later n (suc n) lists (omega arith) in let few = h.0 in omega (arith, here, none, few))
    (λ e. let there = count-elsewhere k n ps (placed_from (suc n) lists) e in let more = few_at limit (suc n) lists h.1 k in omega (arith, there, more))
