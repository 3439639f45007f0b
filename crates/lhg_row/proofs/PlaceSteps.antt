-- What a row is put among: in the place of the first of its direction, else at the end.
use Rattle.std.proofs.Common.{◌≡◌, ℕ, suc, ◌+◌, ◌<◌, [], ◌∷◌, ◌++◌, length, get_or, set, cond, Bool, true, false, Option, Some, None, refl, sym, ap, subst, arith}
use Rattle.lhg_math.specs.Tests.{by_bool}
use Rattle.lhg_num.specs.Arithmetic.{Arithmetic}
use Rattle.lhg_num.specs.Marked.{Marked, valued, done}
use Rattle.lhg_num.specs.MarkedLaws.{IsPart, and_then-rest, rest_part}
use Rattle.lhg_num.specs.PartLaws.{done-part, then-part}
use Rattle.lhg_row.specs.Row.{PlainRow}
use Rattle.lhg_row.specs.Piece.{PlainPiece}
use Rattle.lhg_row.specs.Trim.{same_direction, bound_order, tighter, placed, place_along}

-- the row at place i is the first that has the direction of r
pub record IsAlong (a : Arithmetic) (r : PlainRow) (ss : PlainPiece) (i : ℕ) : Type 0 where
  pub in_list : i < length ss
  pub put : (s : PlainRow) → s ≡ get_or ss i s → (placed a r ss).value ≡ set ss i (tighter (bound_order a r s).value s r)
  pub part : (s : PlainRow) → s ≡ get_or ss i s → IsPart (placed a r ss) (bound_order a r s)

-- what the search answers, its places being counted from j
abbrev IsSought : Arithmetic → PlainRow → ℕ → PlainPiece → Option ℕ → Type 0
IsSought a r j ss None = (placed a r ss).value ≡ ss ++ r ∷ []
IsSought a r j ss (Some k) = (i : ℕ) × (k ≡ j + i) × IsAlong a r ss i

-- the marks of the bounds' order, where the row at hand has the direction
here-part : (a : Arithmetic) (r s : PlainRow) (ss : PlainPiece) → (same_direction a r s).value ≡ true → IsPart (placed a r (s ∷ ss)) (bound_order a r s)
here-part a r s ss e =
    let f = λ (same : Bool).
    let here = valued (λ o. tighter o s r ∷ ss) (bound_order a r s) in
    let later = valued (λ ts. s ∷ ts) (placed a r ss) in
    cond same here later in
    let p : IsPart (f true) (bound_order a r s) = record { wide = λ h. h; rows = λ h. h; pieces = λ h. h } in
    rest_part (placed a r (s ∷ ss)) (f (same_direction a r s).value) (bound_order a r s) (and_then-rest (same_direction a r s) f) (subst (λ b. IsPart (f b) (bound_order a r s)) (sym e) p)

-- and of what is put among the later rows, where it has not
later-part : {B : Type 0} (a : Arithmetic) (r s : PlainRow) (ss : PlainPiece) (part : Marked B) → (same_direction a r s).value ≡ false → IsPart (placed a r ss) part → IsPart (placed a r (s ∷ ss)) part
later-part a r s ss part e q =
    let f = λ (same : Bool).
    let here = valued (λ o. tighter o s r ∷ ss) (bound_order a r s) in
    let later = valued (λ ts. s ∷ ts) (placed a r ss) in
    cond same here later in
    let p : IsPart (f false) part = record { wide = q.wide; rows = q.rows; pieces = q.pieces } in
    rest_part (placed a r (s ∷ ss)) (f (same_direction a r s).value) part (and_then-rest (same_direction a r s) f) (subst (λ b. IsPart (f b) part) (sym e) p)

-- the row at hand has the direction
along-here : (a : Arithmetic) (r s : PlainRow) (ss : PlainPiece) → (same_direction a r s).value ≡ true → IsAlong a r (s ∷ ss) 0
along-here a r s ss e = record {
  in_list = omega arith;
  put = λ t h. rw (e, h) refl;
  part = λ t h. subst (λ u. IsPart (placed a r (s ∷ ss)) (bound_order a r u)) (sym h) (here-part a r s ss e);
}

-- it has not, and a later one is the first that has
along-later : (a : Arithmetic) (r s : PlainRow) (ss : PlainPiece) (i : ℕ) → (same_direction a r s).value ≡ false → IsAlong a r ss i → IsAlong a r (s ∷ ss) (suc i)
along-later a r s ss i e h = record {
  in_list = let k = h.in_list in omega arith;
  put = λ t k. rw e (ap (λ ts. s ∷ ts) (h.put t k));
  part = λ t k. later-part a r s ss (bound_order a r t) e (h.part t k);
}

-- what the search answers
sought : (a : Arithmetic) (r : PlainRow) (j : ℕ) (ss : PlainPiece) → IsSought a r j ss (place_along a r j ss).value
sought a r j [] = refl
sought a r j (s ∷ ss) =
    by_bool (same_direction a r s).value
    (λ e. rw e (0, omega arith, along-here a r s ss e))
    (λ e. rw e (on (place_along a r (j + 1) ss).value e (sought a r (j + 1) ss)))
  where
    on : (o : Option ℕ) → (same_direction a r s).value ≡ false → IsSought a r (j + 1) ss o → IsSought a r j (s ∷ ss) o
    on None e h = rw e (ap (λ ts. s ∷ ts) h)
    on (Some k) e (i, p, h) = (suc i, omega arith, along-later a r s ss i e h)

-- the marks of the search are among those of what it is made for
pub sought-part : (a : Arithmetic) (r : PlainRow) (j : ℕ) (ss : PlainPiece) → IsPart (placed a r ss) (place_along a r j ss)
sought-part a r j [] = done-part (placed a r []) None
sought-part a r j (s ∷ ss) =
    let f = λ (same : Bool).
    let here = valued (λ o. tighter o s r ∷ ss) (bound_order a r s) in
    let later = valued (λ ts. s ∷ ts) (placed a r ss) in
    cond same here later in
    let g = λ (same : Bool). let later = place_along a r (j + 1) ss in cond same (done (Some j)) later in
    let q = sought-part a r (j + 1) ss in
    then-part (same_direction a r s) f g (by_cases (same_direction a r s).value (λ b. IsPart (f b) (g b)) (done-part (f true) (Some j)) (record { wide = q.wide; rows = q.rows; pieces = q.pieces }))
  where
    by_cases : (b : Bool) (P : Bool → Type 0) → P true → P false → P b
    by_cases true P h k = h
    by_cases false P h k = k

-- where the search finds no place, the row comes at the end
pub sought-none : (a : Arithmetic) (r : PlainRow) (ss : PlainPiece) → None ≡ (place_along a r 0 ss).value → (placed a r ss).value ≡ ss ++ r ∷ []
sought-none a r ss e = subst (IsSought a r 0 ss) (sym e) (sought a r 0 ss)

-- where it finds one, the row there gives way to the tighter
pub sought-some : (a : Arithmetic) (r : PlainRow) (ss : PlainPiece) (k : ℕ) → Some k ≡ (place_along a r 0 ss).value → IsAlong a r ss k
sought-some a r ss k e = let (i, p, h) = subst (IsSought a r 0 ss) (sym e) (sought a r 0 ss) in subst (IsAlong a r ss) (omega arith) h
