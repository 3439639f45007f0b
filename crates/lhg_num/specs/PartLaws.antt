-- Which marks are those of a part, and what is left of a calculation: steps, other values, and walks?
use Rattle.std.specs.Prelude.{◌≡◌, Bool, true, false, ◌||◌, ℕ, List, [], ◌∷◌, ◌++◌, length, map}
use Rattle.std.proofs.Common.{refl, sym, ap, ◌∙◌, subst}
use Rattle.std.proofs.Math.Bool.{or_assoc}
use Rattle.std.proofs.lemmas.List.{length-map}
use Rattle.lhg_math.specs.Tests.{AllOf, false_true}
use Rattle.lhg_num.specs.Marked.{Marked, done, and_then, valued, each, walk, IsRest}
use Rattle.lhg_num.specs.MarkedLaws.{IsPart, rest_rest, rest_part, and_then-rest, and_then-part, each-value}

-- two calculations with the same value and the same marks are the same
pub marked-is : {A : Type 0} (m n : Marked A) → m.value ≡ n.value → m.wide ≡ n.wide → m.rows ≡ n.rows → m.pieces ≡ n.pieces → m ≡ n
marked-is m n e f g h = λ i. record { value = e i; wide = f i; rows = g i; pieces = h i }

-- what is left is a part
pub rest_is_part : {A : Type 0} (whole rest : Marked A) → IsRest whole rest → IsPart whole rest
rest_is_part whole rest r = record { wide = r.wide; rows = r.rows; pieces = r.pieces }

-- what has no marks is a part of everything
pub done-part : {A B : Type 0} (whole : Marked A) (x : B) → IsPart whole (done x)
done-part whole x = record { wide = λ h. false_true h; rows = λ h. false_true h; pieces = λ h. false_true h }

-- ---- steps
-- where a step gave its value, what follows the step is left
pub rest_step : {A B : Type 0} (whole : Marked B) (m : Marked A) (f : A → Marked B) (t : A) → IsRest whole (and_then m f) → t ≡ m.value → IsRest whole (f t)
rest_step whole m f t r e = subst (λ u. IsRest whole (f u)) (sym e) (rest_rest whole (and_then m f) (f m.value) r (and_then-rest m f))

-- the marks of a step are among those of the whole
pub step_part : {A B : Type 0} (whole : Marked B) (m : Marked A) (f : A → Marked B) → IsRest whole (and_then m f) → IsPart whole m
step_part whole m f r = rest_part whole (and_then m f) m r (and_then-part m f)

-- three steps, one after the other
pub then-then : {A B C : Type 0} (m : Marked A) (f : A → Marked B) (g : B → Marked C) → and_then (and_then m f) g ≡ and_then m (λ x. and_then (f x) g)
then-then m f g =
    let n = f m.value in
    let o = g n.value in
    marked-is (and_then (and_then m f) g) (and_then m (λ x. and_then (f x) g)) refl (or_assoc m.wide n.wide o.wide) (or_assoc m.rows n.rows o.rows) (or_assoc m.pieces n.pieces o.pieces)

or_more : (a b c : Bool) → (b ≡ true → c ≡ true) → (a || b) ≡ true → (a || c) ≡ true
or_more true b c f h = refl
or_more false b c f h = f h

-- a part after one step is a part of all
pub then-part : {A B C : Type 0} (m : Marked A) (f : A → Marked B) (g : A → Marked C) → IsPart (f m.value) (g m.value) → IsPart (and_then m f) (and_then m g)
then-part m f g p = record {
  wide = or_more m.wide (g m.value).wide (f m.value).wide p.wide;
  rows = or_more m.rows (g m.value).rows (f m.value).rows p.rows;
  pieces = or_more m.pieces (g m.value).pieces (f m.value).pieces p.pieces;
}

-- ---- another value of the same marks
-- what is left, with another value made of it
pub valued_rest : {A B : Type 0} (g : A → B) (whole rest : Marked A) → IsRest whole rest → IsRest (valued g whole) (valued g rest)
valued_rest g whole rest r = record { same = ap g r.same; wide = r.wide; rows = r.rows; pieces = r.pieces }

-- a part, where both have other values
pub valued_part : {A B C D : Type 0} (g : A → B) (h : C → D) (whole : Marked A) (part : Marked C) → IsPart whole part → IsPart (valued g whole) (valued h part)
valued_part g h whole part p = record { wide = p.wide; rows = p.rows; pieces = p.pieces }

-- a part, where the whole has another value
pub whole_part : {A B C : Type 0} (g : A → B) (whole : Marked A) (part : Marked C) → IsPart whole part → IsPart (valued g whole) part
whole_part g whole part p = record { wide = p.wide; rows = p.rows; pieces = p.pieces }

-- a part with another value
pub part_valued : {A B C : Type 0} (h : B → C) (whole : Marked A) (part : Marked B) → IsPart whole part → IsPart whole (valued h part)
part_valued h whole part p = record { wide = p.wide; rows = p.rows; pieces = p.pieces }

-- a part without its other value
pub valued_of_part : {A B C : Type 0} (h : B → C) (whole : Marked A) (part : Marked B) → IsPart whole (valued h part) → IsPart whole part
valued_of_part h whole part p = record { wide = p.wide; rows = p.rows; pieces = p.pieces }

-- what is left, without its other value, is a part
pub rest_part_of : {A B : Type 0} (g : B → A) (whole : Marked A) (part : Marked B) → IsRest whole (valued g part) → IsPart whole part
rest_part_of g whole part r = record { wide = r.wide; rows = r.rows; pieces = r.pieces }

-- ---- members and walks
-- there are as many values as members
pub length-each : {A B : Type 0} (f : A → Marked B) (xs : List A) → length (each f xs).value ≡ length xs
length-each f xs = ap length (each-value f xs) ∙ length-map xs (λ x. (f x).value)

-- the marks of a walk over the first of two lists are among those of the walk over both
pub walk-append_part : {S A : Type 0} (f : S → A → Marked S) (s : S) (xs ys : List A) → IsPart (walk f s (xs ++ ys)) (walk f s xs)
walk-append_part f s [] ys = done-part (walk f s ys) s
walk-append_part f s (x ∷ xs) ys = then-part (f s x) (λ t. walk f t (xs ++ ys)) (λ t. walk f t xs) (walk-append_part f (f s x).value xs ys)

-- where no member changes the state it stays
pub walk-stays : {S A : Type 0} (f : S → A → Marked S) (s : S) (xs : List A) → AllOf (λ x. (f s x).value ≡ s) xs → (walk f s xs).value ≡ s
walk-stays f s [] h = refl
walk-stays f s (x ∷ xs) h = ap (λ t. (walk f t xs).value) h.0 ∙ walk-stays f s xs h.1
