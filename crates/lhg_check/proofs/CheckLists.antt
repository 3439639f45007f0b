-- What the first piece of lists says, and the lists that are formed for the places of a list.
use Rattle.std.proofs.Common.{◌≡◌, ◌↔◌, ◌<◌, ◌+◌, ℕ, zero, suc, List, [], ◌∷◌, ◌++◌, length, get_or, slice_get, Option, Some, None, refl, sym, ap, ◌∙◌, inl, subst, arith}
use Rattle.lhg_num.specs.FracArithmetic.{frac_arithmetic}
use Rattle.lhg_num.specs.Marked.{Marked, valued, each, IsRest}
use Rattle.lhg_num.specs.MarkedLaws.{IsPart, and_then-part, and_then-rest, part_part}
use Rattle.lhg_row.specs.Row.{PlainPoint}
use Rattle.lhg_row.specs.Piece.{PlainPiece, InSome}
use Rattle.lhg_row.specs.PieceFacts.{AllPolys}
use Rattle.lhg_row.specs.Sample.{sample}
use Rattle.lhg_row.specs.SampleLaws.{sample-in}
use Rattle.lhg_plant.specs.OutCalculus.{numbered}
use Rattle.lhg_check.specs.Check.{followed, first_of, one_later, first_piece}

-- ---- one list
-- pieces that hold exactly the points of which the fact holds
pub record IsListOf (n : ℕ) (P : PlainPoint → Type 0) (ps : List PlainPiece) : Type 0 where
  pub polys : AllPolys frac_arithmetic n ps
  pub exact : (p : PlainPoint) → length p ≡ n → InSome ps p ↔ P p

-- the sample of the first one
pub first_sample : (n : ℕ) (P : PlainPoint → Type 0) (ps : List PlainPiece) (piece : PlainPiece) (rest : List PlainPiece) → IsListOf n P ps → ps ≡ piece ∷ rest → P (sample n piece).value
first_sample n P ps piece rest h e =
    let polys = subst (λ (w : List PlainPiece). AllPolys frac_arithmetic n w) e h.polys in
    let p = sample-in n piece polys.0.wide polys.0.point in
    (h.exact (sample n piece).value p.wide).0 (subst (λ (w : List PlainPiece). InSome w (sample n piece).value) (sym e) (inl p.inside))

-- where there is none, it holds of no point
pub none_in : (n : ℕ) (P : PlainPoint → Type 0) (ps : List PlainPiece) → IsListOf n P ps → ps ≡ [] → (p : PlainPoint) → length p ≡ n → ¬ P p
none_in n P ps h e p l k = subst (λ (w : List PlainPiece). InSome w p) e ((h.exact p l).1 k)

-- ---- one list after another
-- a list that is not empty begins with its first piece
pub begins : (ps : List PlainPiece) (piece : PlainPiece) → first_of ps ≡ Some piece → (rest : List PlainPiece) × (ps ≡ piece ∷ rest)
begins [] piece e = absurd (none_some e)
  where
    none_some : None ≡ Some piece → ⊥
    none_some e = cc
begins (p ∷ ps) piece e = (ps, ap (λ q. q ∷ ps) same)
  where
    same : p ≡ piece
    same = cc

-- a list without a first piece is empty
pub is_empty : (ps : List PlainPiece) → first_of ps ≡ None → ps ≡ []
is_empty [] e = refl
is_empty (p ∷ ps) e = absurd (some_none e)
  where
    some_none : Some p ≡ None → ⊥
    some_none e = cc

first-append : (ps qs : List PlainPiece) (piece : PlainPiece) → first_of ps ≡ Some piece → first_of (ps ++ qs) ≡ Some piece
first-append ps qs piece e = let b = begins ps piece e in ap (λ xs. first_of (xs ++ qs)) b.1

module _ (first second : Marked (List PlainPiece)) where
  -- the first piece of the first list is that of both
  pub followed-first : (piece : PlainPiece) → first_of first.value ≡ Some piece → first_of (followed first second).value ≡ Some piece
  followed-first piece e = first-append first.value second.value piece e

  -- where the first list has none, the second is left
  pub followed-rest : first_of first.value ≡ None → IsRest (valued first_of (followed first second)) (valued first_of second)
  followed-rest e =
      let r = and_then-rest first (λ ps. valued (λ qs. ps ++ qs) second) in
      record { same = ap (λ ps. first_of (ps ++ second.value)) (sym (is_empty first.value e)); wide = r.wide; rows = r.rows; pieces = r.pieces }

  -- the marks of the first list are among those of both
  pub followed-part : IsPart (valued first_of (followed first second)) (valued first_of first)
  followed-part = let p = and_then-part first (λ ps. valued (λ qs. ps ++ qs) second) in record { wide = p.wide; rows = p.rows; pieces = p.pieces }

-- ---- lists
-- the piece is the first one of the list at place j, and the lists before have none
pub record HasFirst (pss : List (List PlainPiece)) (j : ℕ) (piece : PlainPiece) : Type 0 where
  pub rest : List PlainPiece
  pub is_there : get_or pss j [] ≡ piece ∷ rest
  pub before : (i : ℕ) → i < j → get_or pss i [] ≡ []

-- what the first piece says, and what it says that there is none
abbrev pub IsFirstOf : List (List PlainPiece) → Option (ℕ × PlainPiece) → Type 0
IsFirstOf pss None = (j : ℕ) → get_or pss j [] ≡ []
IsFirstOf pss (Some f) = HasFirst pss f.0 f.1

none_more : (pss : List (List PlainPiece)) → ((j : ℕ) → get_or pss j [] ≡ []) → (j : ℕ) → get_or ([] ∷ pss) j [] ≡ []
none_more pss h zero = refl
none_more pss h (suc j) = h j

before_more : (pss : List (List PlainPiece)) (k : ℕ) → ((i : ℕ) → i < k → get_or pss i [] ≡ []) → (i : ℕ) → i < suc k → get_or ([] ∷ pss) i [] ≡ []
before_more pss k h zero l = refl
before_more pss k h (suc i) l = h i (omega arith)

first_later : (pss : List (List PlainPiece)) (o : Option (ℕ × PlainPiece)) → IsFirstOf pss o → IsFirstOf ([] ∷ pss) (one_later o)
first_later pss None h = none_more pss h
first_later pss (Some (j, piece)) h = record { rest = h.rest; is_there = h.is_there; before = before_more pss j h.before }

pub first_is : (pss : List (List PlainPiece)) → IsFirstOf pss (first_piece pss)
first_is [] = λ j. refl
first_is ([] ∷ pss) = first_later pss (first_piece pss) (first_is pss)
first_is ((p ∷ ps) ∷ pss) = record { rest = ps; is_there = refl; before = λ i l. absurd (omega arith) }

-- the same, the other way round
pub first_at : (pss : List (List PlainPiece)) (j : ℕ) (piece : PlainPiece) → first_of (get_or pss j []) ≡ Some piece → ((i : ℕ) → i < j → get_or pss i [] ≡ []) → first_piece pss ≡ Some (j, piece)
first_at [] j piece e before = absurd (none_some e)
  where
    none_some : None ≡ Some piece → ⊥
    none_some e = cc
first_at ([] ∷ pss) zero piece e before = absurd (none_some e)
  where
    none_some : None ≡ Some piece → ⊥
    none_some e = cc
first_at ([] ∷ pss) (suc j) piece e before = ap one_later (first_at pss j piece e (λ i l. before (suc i) (omega arith)))
first_at ((p ∷ ps) ∷ pss) zero piece e before = ap (λ q. Some (0, q)) same
  where
    same : p ≡ piece
    same = cc
first_at ((p ∷ ps) ∷ pss) (suc j) piece e before = absurd (some_more (before 0 (omega arith)))
  where
    some_more : p ∷ ps ≡ [] → ⊥
    some_more e = cc

pub first_none : (pss : List (List PlainPiece)) → ((i : ℕ) → i < length pss → get_or pss i [] ≡ []) → first_piece pss ≡ None
first_none [] h = refl
first_none ([] ∷ pss) h = ap one_later (first_none pss (λ i l. h (suc i) (omega arith)))
first_none ((p ∷ ps) ∷ pss) h = absurd (some_more (h 0 (omega arith)))
  where
    some_more : p ∷ ps ≡ [] → ⊥
    some_more e = cc

-- ---- places
-- the list of a member that is there
abbrev pub at_or : {A : Type 0} → (ℕ × A → Marked (List PlainPiece)) → ℕ → Option A → List PlainPiece
at_or f i None = []
at_or f i (Some x) = (f (i, x)).value

each_from : {A : Type 0} (f : ℕ × A → Marked (List PlainPiece)) (xs : List A) (k e : ℕ) → get_or (each f (numbered k xs)).value e [] ≡ at_or f (k + e) (slice_get xs e)
each_from f [] k e = refl
each_from f (x ∷ xs) k zero = let here : k ≡ k + 0 = omega arith in ap (λ i. (f (i, x)).value) here
each_from f (x ∷ xs) k (suc e) = let next : suc k + e ≡ k + suc e = omega arith in each_from f xs (suc k) e ∙ ap (λ i. at_or f i (slice_get xs e)) next

-- the list that is formed for a place
pub each_numbered : {A : Type 0} (f : ℕ × A → Marked (List PlainPiece)) (xs : List A) (e : ℕ) → get_or (each f (numbered 0 xs)).value e [] ≡ at_or f e (slice_get xs e)
each_numbered f xs e = let zero_first : 0 + e ≡ e = omega arith in each_from f xs 0 e ∙ ap (λ i. at_or f i (slice_get xs e)) zero_first

part_from : {A B : Type 0} (f : ℕ × A → Marked B) (xs : List A) (k j : ℕ) (x : A) → slice_get xs j ≡ Some x → IsPart (each f (numbered k xs)) (f (k + j, x))
part_from f [] k j x e = absurd (none_some e)
  where
    none_some : {A : Type 0} {x : A} → None ≡ Some x → ⊥
    none_some e = cc
part_from {A = A} f (y ∷ xs) k zero x e =
    let same : y ≡ x = cc in
    let here : k ≡ k + 0 = omega arith in
    let whole = each f (numbered k (y ∷ xs)) in
    subst (λ (w : A). IsPart whole (f (k + 0, w))) same
    (subst (λ i. IsPart whole (f (i, y))) here (and_then-part (f (k, y)) (λ z. valued (λ zs. z ∷ zs) (each f (numbered (suc k) xs)))))
part_from f (y ∷ xs) k (suc j) x e =
    let next : suc k + j ≡ k + suc j = omega arith in
    let rest = each f (numbered (suc k) xs) in
    let whole = each f (numbered k (y ∷ xs)) in
    let r = and_then-rest (f (k, y)) (λ z. valued (λ zs. z ∷ zs) rest) in
    let later : IsPart whole rest = record { wide = r.wide; rows = r.rows; pieces = r.pieces } in
    subst (λ i. IsPart whole (f (i, x))) next (part_part whole rest (f (suc k + j, x)) later (part_from f xs (suc k) j x e))

-- the marks of a member are among those of all
pub each_part : {A B : Type 0} (f : ℕ × A → Marked B) (xs : List A) (j : ℕ) (x : A) → slice_get xs j ≡ Some x → IsPart (each f (numbered 0 xs)) (f (j, x))
each_part f xs j x e = let zero_first : 0 + j ≡ j = omega arith in subst (λ i. IsPart (each f (numbered 0 xs)) (f (i, x))) zero_first (part_from f xs 0 j x e)

length_from : {A B : Type 0} (f : ℕ × A → Marked B) (xs : List A) (k : ℕ) → length (each f (numbered k xs)).value ≡ length xs
length_from f [] k = refl
length_from f (x ∷ xs) k = ap suc (length_from f xs (suc k))

-- there is a list for each place
pub each_length : {A B : Type 0} (f : ℕ × A → Marked B) (xs : List A) → length (each f (numbered 0 xs)).value ≡ length xs
each_length f xs = length_from f xs 0
