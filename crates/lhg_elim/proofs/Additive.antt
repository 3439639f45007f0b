-- What is made of rows one by one, and the loops that put it at the end of a list.
use Rattle.std.proofs.Common.{◌≡◌, ℕ, ◌+◌, ◌<◌, nat_lt, Bool, true, false, ◌||◌, List, [], ◌∷◌, ◌++◌, length, map, drop, get_or, filter, refl, sym, ap, ◌∙◌, subst, append_assoc, append-nil, arith}
use Rattle.std.proofs.Math.Bool.{or_assoc}
use Rattle.std.proofs.lemmas.Bool.{lt-ltb, or_left, or_right}
use Rattle.std.proofs.lemmas.List.{map-append, length-append}
use Rattle.lhg_math.specs.Tests.{by_bool}
use Rattle.lhg_num.specs.Marked.{Marked, done, and_then, valued, each}
use Rattle.lhg_num.specs.MarkedLaws.{IsPart, part_part, and_then-part}
use Rattle.lhg_num.specs.PartLaws.{marked-is}
use Rattle.lhg_math.specs.ListFacts.{drop_cons}
use Rattle.lhg_row.specs.Row.{PlainRow}
use Rattle.lhg_row.specs.Piece.{PlainPiece}
use Rattle.lhg_row.specs.Trim.{row_limit, counted}
use Rattle.lhg_row.specs.Eliminate.{each_joined}

-- ---- lists one after the other
-- a list and then another
abbrev pub both : {A : Type 0} → Marked (List A) → Marked (List A) → Marked (List A)
both m n = and_then m (λ xs. valued (λ ys. xs ++ ys) n)

-- nothing comes before a list
nothing-both : {A : Type 0} (m : Marked (List A)) → both (done []) m ≡ m
nothing-both m = refl

-- three lists, one after the other
both-both : {A : Type 0} (l m n : Marked (List A)) → both (both l m) n ≡ both l (both m n)
both-both l m n =
    marked-is (both (both l m) n) (both l (both m n)) (append_assoc l.value m.value n.value) (or_assoc l.wide m.wide n.wide) (or_assoc l.rows m.rows n.rows) (or_assoc l.pieces m.pieces n.pieces)

-- the marks of the second list are among those of both
both-part : {A : Type 0} (m n : Marked (List A)) → IsPart (both m n) n
both-part m n = record { wide = or_right m.wide n.wide; rows = or_right m.rows n.rows; pieces = or_right m.pieces n.pieces }

-- a mark that is not set adds nothing
or_none : (a b : Bool) → (a || b) ≡ ((a || false) || b)
or_none true b = refl
or_none false b = refl

-- ---- what is made one by one
-- what is made of a list is what is made of its first row and then what is made of the others
pub record IsAdditive {A : Type 0} (made : PlainPiece → Marked (List A)) : Type 0 where
  pub nothing : made [] ≡ done []
  pub joined : (r : PlainRow) (rows : PlainPiece) → made (r ∷ rows) ≡ both (made (r ∷ [])) (made rows)

module _ (p : PlainRow → Bool) where
  -- the rows that pass a test
  pub filter-additive : IsAdditive (λ rows. done (filter p rows))
  filter-additive = record { nothing = refl; joined = λ r rows. by_bool (p r) (λ e. rw e refl) (λ e. rw e refl) }

  -- what a function makes of each row that passes a test
  pub each-additive : {A : Type 0} (f : PlainRow → Marked A) → IsAdditive (λ rows. each f (filter p rows))
  each-additive f = record { nothing = refl; joined = λ r rows. by_bool (p r) (λ e. rw e (first r (filter p rows))) (λ e. rw e refl) }
    where
      first : (r : PlainRow) (rows : PlainPiece) → each f (r ∷ rows) ≡ both (each f (r ∷ [])) (each f rows)
      first r rows =
          let m = each f rows in
          marked-is (each f (r ∷ rows)) (both (each f (r ∷ [])) m) refl (or_none (f r).wide m.wide) (or_none (f r).rows m.rows) (or_none (f r).pieces m.pieces)

  -- the lists that a function makes of each row that passes a test, joined
  pub joined-additive : {A : Type 0} (f : PlainRow → Marked (List A)) → IsAdditive (λ rows. each_joined f (filter p rows))
  joined-additive f = record { nothing = refl; joined = λ r rows. by_bool (p r) (λ e. rw e (first r (filter p rows))) (λ e. rw e refl) }
    where
      first : (r : PlainRow) (rows : PlainPiece) → each_joined f (r ∷ rows) ≡ both (each_joined f (r ∷ [])) (each_joined f rows)
      first r rows =
          let m = each_joined f rows in
          marked-is (each_joined f (r ∷ rows)) (both (each_joined f (r ∷ [])) m) (ap (λ ys. ys ++ m.value) (sym (append-nil (f r).value))) (or_none (f r).wide m.wide) (or_none (f r).rows m.rows) (or_none (f r).pieces m.pieces)

-- what is made of two lists, one after the other
pub additive-append : {A : Type 0} (made : PlainPiece → Marked (List A)) → IsAdditive made → (xs ys : PlainPiece) → made (xs ++ ys) ≡ both (made xs) (made ys)
additive-append made additive [] ys = sym (nothing-both (made ys)) ∙ ap (λ m. both m (made ys)) (sym additive.nothing)
additive-append made additive (r ∷ xs) ys =
    additive.joined r (xs ++ ys) ∙ ap (both (made (r ∷ []))) (additive-append made additive xs ys) ∙ sym (both-both (made (r ∷ [])) (made xs) (made ys)) ∙ ap (λ m. both m (made ys)) (sym (additive.joined r xs))

-- ---- loops
-- members were put at the end of an old list: with those that are left it is the old list and the whole
pub record IsPushed {A : Type 0} (h : A → PlainRow) (old : PlainPiece) (whole : Marked (List A)) (out : PlainPiece) (rest : Marked (List A)) : Type 0 where
  pub same : out ++ map h rest.value ≡ old ++ map h whole.value
  pub part : IsPart whole rest

module _ {A : Type 0} (h : A → PlainRow) where
  -- where two lists are left, the marks of the first are among those of the whole
  pub both_left-part : (old : PlainPiece) (whole : Marked (List A)) (out : PlainPiece) (m n : Marked (List A)) → IsPushed h old whole out (both m n) → IsPart whole m
  both_left-part old whole out m n b = part_part whole (both m n) m b.part (and_then-part m (λ xs. valued (λ ys. xs ++ ys) n))

  -- and the second is left when the first was put at the end
  pub both_left-step : (old : PlainPiece) (whole : Marked (List A)) (out : PlainPiece) (m n : Marked (List A)) → IsPushed h old whole out (both m n)
      → (more : PlainPiece) → more ≡ out ++ map h m.value → IsPushed h old whole more n
  both_left-step old whole out m n b more e = record {
    same = ap (λ ys. ys ++ map h n.value) e ∙ append_assoc out (map h m.value) (map h n.value) ∙ ap (λ ys. out ++ ys) (sym (map-append h m.value n.value)) ∙ b.same;
    part = part_part whole (both m n) n b.part (both-part m n);
  }

  -- at the end the last list was put there
  pub pushed-end : (old : PlainPiece) (whole : Marked (List A)) (out : PlainPiece) (m : Marked (List A)) → IsPushed h old whole out m → (more : PlainPiece) → more ≡ out ++ map h m.value → more ≡ old ++ map h whole.value
  pushed-end old whole out m b more e = e ∙ b.same

  -- a list that is past its limit, and is at the start of the whole, makes the whole list past its limit
  pub pushed-long : (old : PlainPiece) (whole : Marked (List A)) (out : PlainPiece) (rest : Marked (List A)) → IsPushed h old whole out rest → row_limit < length out
      → (and_then (valued (λ cs. old ++ map h cs) whole) counted).rows ≡ true
  pushed-long old whole out rest b long =
      let n : length out + length (map h rest.value) ≡ length (old ++ map h whole.value) = sym (length-append out (map h rest.value)) ∙ ap length b.same in
      let past : row_limit < length (old ++ map h whole.value) = omega arith in
      or_right whole.rows (nat_lt row_limit (length (old ++ map h whole.value))) (lt-ltb row_limit (length (old ++ map h whole.value)) past)

module _ {A : Type 0} (h : A → PlainRow) (made : PlainPiece → Marked (List A)) (additive : IsAdditive made) (rows : PlainPiece) (i : ℕ) (row : PlainRow) (is : row ≡ get_or rows i row) (in_rows : i < length rows)
    (old : PlainPiece) (whole : Marked (List A)) (out : PlainPiece) (b : IsPushed h old whole out (made (drop i rows))) where
  -- the row at hand is the first that is left
  here : IsPushed h old whole out (both (made (row ∷ [])) (made (drop (i + 1) rows)))
  here = subst (IsPushed h old whole out) (ap made (drop_cons rows i row is in_rows) ∙ additive.joined row (drop (i + 1) rows)) b

  -- the marks of the row at hand are among those of the whole
  pub pushed-part : IsPart whole (made (row ∷ []))
  pushed-part = both_left-part h old whole out (made (row ∷ [])) (made (drop (i + 1) rows)) here

  -- what is made of it is at the end
  pub pushed-step : (more : PlainPiece) → more ≡ out ++ map h (made (row ∷ [])).value → IsPushed h old whole more (made (drop (i + 1) rows))
  pushed-step = both_left-step h old whole out (made (row ∷ [])) (made (drop (i + 1) rows)) here

-- ---- marks
-- what is made of the values does not change the marks
pub valued-part : {A B C D : Type 0} (whole : Marked A) (f : A → B) (part : Marked C) (g : C → D) → IsPart whole part → IsPart (valued f whole) (valued g part)
valued-part whole f part g p = record { wide = p.wide; rows = p.rows; pieces = p.pieces }

-- the marks of the whole stay where the list is counted too
pub counted-part : {A B : Type 0} (whole : Marked A) (f : A → PlainPiece) (part : Marked B) → IsPart whole part → IsPart (and_then (valued f whole) counted) part
counted-part whole f part p = record { wide = λ h. or_left whole.wide false (p.wide h); rows = λ h. or_left whole.rows _ (p.rows h); pieces = λ h. or_left whole.pieces false (p.pieces h) }
