-- What holds of the members of lists, of their places, and of the lists of a range.
use Rattle.std.proofs.Common.{◌≡◌, ◌↔◌, ◌⊎◌, inl, inr, ℕ, zero, suc, ◌+◌, ◌<◌, ◌≤◌, Bool, true, false, not, ◌&&◌, List, [], ◌∷◌, ◌++◌, length, get_or, slice_get, IsSomeAnd, Some, refl, sym, ap, ◌∙◌, subst, arith}
use Rattle.std.specs.List.{range_with_len}
use Rattle.std.proofs.lemmas.Bool.{and_parts}
use Rattle.lhg_math.specs.Tests.{AllOf, by_bool}
use Rattle.lhg_num.specs.Marked.{Marked, each}
use Rattle.lhg_row.specs.Row.{PlainPoint}
use Rattle.lhg_row.specs.Piece.{PlainPiece, InPiece, InSome, in_some}
use Rattle.lhg_row.specs.PieceLemmas.{in_some_is}
use Rattle.lhg_row.specs.PieceFacts.{IsDifference, IsIntersection}
use Rattle.lhg_row.specs.Members.{SomeOf}
use Rattle.lhg_plant.specs.OutCalculus.{numbered}

-- ---- all members
-- what follows of each member
pub all_weaker : {A : Type 0} (P Q : A → Type 0) (xs : List A) → ((x : A) → P x → Q x) → AllOf P xs → AllOf Q xs
all_weaker P Q [] f h = tt
all_weaker P Q (x ∷ xs) f h = (f x h.0, all_weaker P Q xs f h.1)

-- both facts
pub all_both : {A : Type 0} (P Q : A → Type 0) (xs : List A) → AllOf P xs → AllOf Q xs → AllOf (λ x. P x × Q x) xs
all_both P Q [] h k = tt
all_both P Q (x ∷ xs) h k = ((h.0, k.0), all_both P Q xs h.1 k.1)

-- what holds of all members of each list holds of all members of the one at a place, or of none
pub all_pieces : (P : PlainPiece → Type 0) (lists : List (List PlainPiece)) (l : ℕ) → AllOf (AllOf P) lists → AllOf P (get_or lists l [])
all_pieces P [] l h = tt
all_pieces P (ps ∷ lists) zero h = h.0
all_pieces P (ps ∷ lists) (suc l) h = all_pieces P lists l h.1

-- the points of each piece are in some piece
pub each_in_some : (ps : List PlainPiece) → AllOf (λ p. (x : PlainPoint) → InPiece p x → InSome ps x) ps
each_in_some [] = tt
each_in_some (p ∷ ps) = (
  λ x h. inl h,
  all_weaker (λ q. (x : PlainPoint) → InPiece q x → InSome ps x) (λ q. (x : PlainPoint) → InPiece q x → InSome (p ∷ ps) x) ps (λ q f x h. inr (f x h)) (each_in_some ps),
)

-- ---- places
-- the member at a place is the one that is there
pub numbered_there : {A : Type 0} (zs xs : List A) (k : ℕ) → ((j : ℕ) → slice_get zs (k + j) ≡ slice_get xs j) → AllOf (λ p. slice_get zs p.0 ≡ Some p.1) (numbered k xs)
numbered_there zs [] k h = tt
numbered_there zs (x ∷ xs) k h =
    let here : k ≡ k + 0 = omega arith in (
      ap (slice_get zs) here ∙ h 0,
      numbered_there zs xs (suc k) (λ j. let next : suc k + j ≡ k + suc j = omega arith in ap (slice_get zs) next ∙ h (suc j)),
    )

-- a fact of a member and its place is one of some member
pub numbered_some : {A : Type 0} (P : ℕ × A → Type 0) (xs : List A) (k e : ℕ) → IsSomeAnd (slice_get xs e) (λ x. P (k + e, x)) → SomeOf P (numbered k xs)
numbered_some P [] k e h = absurd h
numbered_some P (x ∷ xs) k zero h = let here : k + 0 ≡ k = omega arith in inl (subst (λ i. P (i, x)) here h)
numbered_some P (x ∷ xs) k (suc e) h =
    let next : k + suc e ≡ suc k + e = omega arith in
    inr (numbered_some P xs (suc k) e (subst (λ i. IsSomeAnd (slice_get xs e) (λ x. P (i, x))) next h))

-- ---- ranges
-- the list of a place of the range
pub range-at : {A : Type 0} (f : ℕ → Marked (List A)) (k m l : ℕ) → l < m → get_or (each f (range_with_len k m)).value l [] ≡ (f (k + l)).value
range-at f k zero l h = absurd (omega arith)
range-at f k (suc m) zero h = let here : k ≡ k + 0 = omega arith in ap (λ i. (f i).value) here
range-at f k (suc m) (suc l) h = let next : k + 1 + l ≡ k + suc l = omega arith in range-at f (k + 1) m l (omega arith) ∙ ap (λ i. (f i).value) next

-- past the range there is none
pub range-past : {A : Type 0} (f : ℕ → Marked (List A)) (k m l : ℕ) → m ≤ l → get_or (each f (range_with_len k m)).value l [] ≡ []
range-past f k zero l h = refl
range-past f k (suc m) zero h = absurd (omega arith)
range-past f k (suc m) (suc l) h = range-past f (k + 1) m l (omega arith)

-- ---- points
-- a difference, of facts
pub difference-in : (n : ℕ) (ps qs pieces : List PlainPiece) (x : PlainPoint) → length x ≡ n → IsDifference n ps qs pieces → InSome pieces x ↔ (InSome ps x × ¬ InSome qs x)
difference-in n ps qs pieces x l d = (
  λ h.
      let both = and_parts (in_some ps x) (not (in_some qs x)) (sym (d x l) ∙ (in_some_is pieces x).0 h) in
      ((in_some_is ps x).1 both.0, λ k. refuted (in_some qs x) both.1 ((in_some_is qs x).0 k)),
  λ h. (in_some_is pieces x).1 (d x l ∙ met (in_some ps x) (in_some qs x) ((in_some_is ps x).0 h.0) (fails h.1)),
)
  where
    refuted : (b : Bool) → not b ≡ true → b ≡ true → ⊥
    refuted true e f = cc
    refuted false e f = cc

    met : (b c : Bool) → b ≡ true → c ≡ false → (b && not c) ≡ true
    met b c e f = rw (e, f) refl

    fails : ¬ InSome qs x → in_some qs x ≡ false
    fails f = by_bool (in_some qs x) (λ e. absurd (f ((in_some_is qs x).1 e))) (λ e. e)

-- an intersection, of facts
pub intersection-in : (n : ℕ) (ps qs pieces : List PlainPiece) (x : PlainPoint) → length x ≡ n → IsIntersection n ps qs pieces → InSome pieces x ↔ (InSome ps x × InSome qs x)
intersection-in n ps qs pieces x l d = (
  λ h.
      let both = and_parts (in_some ps x) (in_some qs x) (sym (d x l) ∙ (in_some_is pieces x).0 h) in
      ((in_some_is ps x).1 both.0, (in_some_is qs x).1 both.1),
  λ h. (in_some_is pieces x).1 (d x l ∙ met (in_some ps x) (in_some qs x) ((in_some_is ps x).0 h.0) ((in_some_is qs x).0 h.1)),
)
  where
    met : (b c : Bool) → b ≡ true → c ≡ true → (b && c) ≡ true
    met b c e f = rw (e, f) refl
