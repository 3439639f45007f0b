-- Laws of values with marks.
use Rattle.std.specs.Prelude.{◌≡◌, true, List, [], ◌∷◌, ◌++◌, map}
use Rattle.std.proofs.Common.{refl, sym, ap, ◌∙◌, subst, append_assoc, append-nil}
use Rattle.std.proofs.lemmas.Bool.{or_left, or_right}
use Rattle.lhg_num.specs.Marked.{Marked, done, and_then, valued, each, walk, IsRest}

-- the marks of a part are among those of the whole
pub record IsPart {A B : Type 0} (whole : Marked A) (part : Marked B) : Type 0 where
  pub wide : part.wide ≡ true → whole.wide ≡ true
  pub rows : part.rows ≡ true → whole.rows ≡ true
  pub pieces : part.pieces ≡ true → whole.pieces ≡ true

-- at the start all is left
pub rest_self : {A : Type 0} (m : Marked A) → IsRest m m
rest_self m = record { same = refl; wide = λ h. h; rows = λ h. h; pieces = λ h. h }

-- what is left of what is left is left of the whole
pub rest_rest : {A : Type 0} (m n o : Marked A) → IsRest m n → IsRest n o → IsRest m o
rest_rest m n o r s = record { same = s.same ∙ r.same; wide = λ h. r.wide (s.wide h); rows = λ h. r.rows (s.rows h); pieces = λ h. r.pieces (s.pieces h) }

-- after the first step the next one is what is left
pub and_then-rest : {A B : Type 0} (m : Marked A) (f : A → Marked B) → IsRest (and_then m f) (f m.value)
and_then-rest m f = record {
  same = refl;
  wide = or_right m.wide _;
  rows = or_right m.rows _;
  pieces = or_right m.pieces _;
}

-- the marks of the first step are among those of both
pub and_then-part : {A B : Type 0} (m : Marked A) (f : A → Marked B) → IsPart (and_then m f) m
and_then-part m f = record {
  wide = or_left m.wide _;
  rows = or_left m.rows _;
  pieces = or_left m.pieces _;
}

-- a part of what is left is a part of the whole
pub rest_part : {A B : Type 0} (m n : Marked A) (o : Marked B) → IsRest m n → IsPart n o → IsPart m o
rest_part m n o r s = record { wide = λ h. r.wide (s.wide h); rows = λ h. r.rows (s.rows h); pieces = λ h. r.pieces (s.pieces h) }

-- the values of each member are those of a map
pub each-value : {A B : Type 0} (f : A → Marked B) (xs : List A) → (each f xs).value ≡ map (λ x. (f x).value) xs
each-value f [] = refl
each-value f (x ∷ xs) = ap (λ ys. (f x).value ∷ ys) (each-value f xs)

-- a walk over two lists, one after the other, leaves the walk over the second
pub walk-append : {S A : Type 0} (f : S → A → Marked S) (s : S) (xs ys : List A) → IsRest (walk f s (xs ++ ys)) (walk f (walk f s xs).value ys)
walk-append f s [] ys = rest_self (walk f s ys)
walk-append f s (x ∷ xs) ys =
    rest_rest _ _ _ (and_then-rest (f s x) (λ t. walk f t (xs ++ ys))) (walk-append f (f s x).value xs ys)

-- ---- loops
-- the whole is a part of itself
pub part_self : {A : Type 0} (m : Marked A) → IsPart m m
part_self m = record { wide = λ h. h; rows = λ h. h; pieces = λ h. h }

-- a part of a part is a part
pub part_part : {A B C : Type 0} (m : Marked A) (n : Marked B) (o : Marked C) → IsPart m n → IsPart n o → IsPart m o
part_part m n o r s = record { wide = λ h. r.wide (s.wide h); rows = λ h. r.rows (s.rows h); pieces = λ h. r.pieces (s.pieces h) }

-- a list is built: what is built already, followed by the value of what is left, is the value of the whole
pub record IsBuilt {B : Type 0} (whole : Marked (List B)) (out : List B) (rest : Marked (List B)) : Type 0 where
  pub same : out ++ rest.value ≡ whole.value
  pub part : IsPart whole rest

-- at the start nothing is built
pub each-start : {A B : Type 0} (f : A → Marked B) (xs : List A) → IsBuilt (each f xs) [] (each f xs)
each-start f xs = record { same = refl; part = part_self (each f xs) }

-- the first member of what is left is done
pub each-step : {A B : Type 0} (f : A → Marked B) (whole : Marked (List B)) (out : List B) (x : A) (xs : List A) (y : B)
    → IsBuilt whole out (each f (x ∷ xs)) → y ≡ (f x).value → IsBuilt whole (out ++ y ∷ []) (each f xs)
each-step f whole out x xs y b e = record {
  same = append_assoc out (y ∷ []) (each f xs).value ∙ ap (λ z. out ++ z ∷ (each f xs).value) e ∙ b.same;
  part = record {
    wide = λ h. b.part.wide (or_right (f x).wide _ h);
    rows = λ h. b.part.rows (or_right (f x).rows _ h);
    pieces = λ h. b.part.pieces (or_right (f x).pieces _ h);
  };
}

-- the marks of the first member of what is left are marks of the whole
pub each-part : {A B : Type 0} (f : A → Marked B) (whole : Marked (List B)) (out : List B) (x : A) (xs : List A) → IsBuilt whole out (each f (x ∷ xs)) → IsPart whole (f x)
each-part f whole out x xs b = record {
  wide = λ h. b.part.wide (or_left (f x).wide _ h);
  rows = λ h. b.part.rows (or_left (f x).rows _ h);
  pieces = λ h. b.part.pieces (or_left (f x).pieces _ h);
}

-- the first member of what is left was walked over
pub walk-step : {S A : Type 0} (f : S → A → Marked S) (whole : Marked S) (s t : S) (x : A) (xs : List A)
    → IsRest whole (walk f s (x ∷ xs)) → t ≡ (f s x).value → IsRest whole (walk f t xs)
walk-step f whole s t x xs r e =
    let next = walk f (f s x).value xs in
    subst (λ u. IsRest whole (walk f u xs)) (sym e) (rest_rest whole (walk f s (x ∷ xs)) next r (and_then-rest (f s x) (λ u. walk f u xs)))

-- the marks of its step are marks of the whole
pub walk-part : {S A : Type 0} (f : S → A → Marked S) (whole : Marked S) (s : S) (x : A) (xs : List A) → IsRest whole (walk f s (x ∷ xs)) → IsPart whole (f s x)
walk-part f whole s x xs r = rest_part whole (walk f s (x ∷ xs)) (f s x) r (and_then-part (f s x) (λ u. walk f u xs))

-- one more value is built, and the rest is left
pub built-step : {B : Type 0} (whole : Marked (List B)) (out : List B) (m : Marked B) (rest : Marked (List B)) (y : B)
    → IsBuilt whole out (and_then m (λ z. valued (λ ys. z ∷ ys) rest)) → y ≡ m.value → IsBuilt whole (out ++ y ∷ []) rest
built-step whole out m rest y b e = record {
  same = append_assoc out (y ∷ []) rest.value ∙ ap (λ z. out ++ z ∷ rest.value) e ∙ b.same;
  part = record {
    wide = λ h. b.part.wide (or_right m.wide _ h);
    rows = λ h. b.part.rows (or_right m.rows _ h);
    pieces = λ h. b.part.pieces (or_right m.pieces _ h);
  };
}

-- the marks of the next value are marks of the whole
pub built-part : {B : Type 0} (whole : Marked (List B)) (out : List B) (m : Marked B) (rest : Marked (List B)) → IsBuilt whole out (and_then m (λ z. valued (λ ys. z ∷ ys) rest)) → IsPart whole m
built-part whole out m rest b = record {
  wide = λ h. b.part.wide (or_left m.wide _ h);
  rows = λ h. b.part.rows (or_left m.rows _ h);
  pieces = λ h. b.part.pieces (or_left m.pieces _ h);
}

-- at the end nothing is left
pub built-end : {B : Type 0} (whole : Marked (List B)) (out : List B) → IsBuilt whole out (done []) → out ≡ whole.value
built-end whole out b = sym (append-nil out) ∙ b.same
