-- What do lists of pieces keep when members are taken from them or put at their end?
use Rattle.std.proofs.Common.{◌≡◌, ℕ, zero, suc, ◌+◌, ◌<◌, ◌≤◌, List, [], ◌∷◌, ◌++◌, length, take, get_or, Bool, ◌||◌, Option, Some, None, refl, sym, ap, ◌∙◌, subst, arith}
use Rattle.std.specs.Prelude.{◌==◌}
use Rattle.std.proofs.lemmas.Bool.{ne_eqb}
use Rattle.std.proofs.lemmas.List.{take_more, take_all, map-append}
use Rattle.lhg_num.specs.Arithmetic.{Arithmetic}
use Rattle.lhg_num.specs.Marked.{Marked, and_then, valued}
use Rattle.lhg_row.specs.Row.{PlainPoint}
use Rattle.lhg_row.specs.MarkedTests.{marked_any}
use Rattle.lhg_row.specs.Truths.{piece_truth, some_truth}
use Rattle.lhg_row.specs.Piece.{PlainPiece}
use Rattle.lhg_math.specs.Tests.{AllOf}
use Rattle.lhg_row.specs.System.{PlainSystem}
use Rattle.lhg_row.specs.Lists.{listed, is_nil}
use Rattle.lhg_row.specs.PieceFacts.{IsPoly, AllPolys}
use Rattle.lhg_union.specs.PolyLists.{lines_of, AllVars, ArePolys}
use Rattle.lhg_row.specs.Members.{all-append}

-- the rows of two lists together
pub lines_of-append : (ps qs : List PlainSystem) → lines_of (ps ++ qs) ≡ lines_of ps ++ lines_of qs
lines_of-append ps qs = map-append (λ (p : PlainSystem). p.lines) ps qs

-- a piece that may be there stands before a list
pub listed-append : (o : Option PlainPiece) (ps : List PlainPiece) → listed o ps ≡ listed o [] ++ ps
listed-append None ps = refl
listed-append (Some p) ps = refl

-- what the code holds as pieces are pieces over n variables
pub polys_over : (a : Arithmetic) (n : ℕ) (ps : List PlainSystem) → AllVars n ps → ArePolys a ps → AllPolys a n (lines_of ps)
polys_over a n [] v h = tt
polys_over a n (p ∷ ps) v h = (subst (λ m. IsPoly a m p.lines) v.0 h.0, polys_over a n ps v.1 h.1)

-- what holds of all members holds of one
pub all_at : {A : Type 0} (P : A → Type 0) (xs : List A) (i : ℕ) (x : A) → x ≡ get_or xs i x → i < length xs → AllOf P xs → P x
all_at P [] i x e h all = absurd (omega arith)
all_at P (y ∷ ys) zero x e h all = subst P (sym e) all.0
all_at P (y ∷ ys) (suc i) x e h all = all_at P ys i x e (omega arith) all.1

-- one member more
pub all_take : {A : Type 0} (P : A → Type 0) (xs : List A) (i : ℕ) (x : A) → x ≡ get_or xs i x → i < length xs → AllOf P (take i xs) → P x → AllOf P (take (i + 1) xs)
all_take P xs i x e h all p =
    subst (AllOf P) (sym (take_more xs i x h ∙ ap (λ y. take i xs ++ y ∷ []) (sym e))) (all-append P (take i xs) (x ∷ []) all (p, tt))

-- all members
pub all_taken : {A : Type 0} (P : A → Type 0) (xs : List A) (i : ℕ) → length xs ≤ i → AllOf P (take i xs) → AllOf P xs
all_taken P xs i h all = subst (AllOf P) (take_all i xs h) all

-- a list that is copied has one copy more
pub taken-step : {A : Type 0} (xs : List A) (i : ℕ) (x : A) → x ≡ get_or xs i x → i < length xs → (out more : List A) (y : A) → out ≡ take i xs → more ≡ out ++ y ∷ [] → y ≡ x → more ≡ take (i + 1) xs
taken-step xs i x e h out more y f g k = g ∙ ap (λ ys. ys ++ y ∷ []) f ∙ ap (λ z. take i xs ++ z ∷ []) (k ∙ e) ∙ sym (take_more xs i x h)

-- whether a point is in some piece, told of the pieces instead of their rows
pub some_truth-is : (a : Arithmetic) (ps : List PlainSystem) (x : PlainPoint) → some_truth a (lines_of ps) x ≡ marked_any (λ p. piece_truth a p.lines x) ps
some_truth-is a [] x = refl
some_truth-is a (p ∷ ps) x = ap (λ (m : Marked Bool). and_then (piece_truth a p.lines x) (λ b. valued (λ c. b || c) m)) (some_truth-is a ps x)

-- and back
pub polys_back : (a : Arithmetic) (n : ℕ) (ps : List PlainSystem) → AllVars n ps → AllPolys a n (lines_of ps) → ArePolys a ps
polys_back a n [] v h = tt
polys_back a n (p ∷ ps) v h = (subst (λ m. IsPoly a m p.lines) (sym v.0) h.0, polys_back a n ps v.1 h.1)

-- a list has no member where its length is 0
pub nil_test : (ps : List PlainSystem) → is_nil (lines_of ps) ≡ (length ps == 0)
nil_test [] = refl
nil_test (p ∷ ps) = sym (ne_eqb (length (p ∷ ps)) 0 (λ e. omega arith))
