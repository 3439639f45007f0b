-- Why does trim keep the points?
use Rattle.std.specs.Prelude.{◌≡◌, ◌-◌, Bool, true, false, not, ◌||◌, ◌&&◌, List, [], ◌∷◌, ◌++◌, map, length, get_or, filter}
use Rattle.std.proofs.Common.{refl, sym, ap, ◌∙◌, arith}
use Rattle.std.proofs.Math.Bool.{and_comm, and_assoc, and-true, or_comm}
use Rattle.std.proofs.lemmas.Bool.{and_parts, not-true}
use Rattle.std.proofs.lemmas.List.{length-append, take_at, get_or_at, map-append}
use Rattle.std.specs.declared.cmp.Ordering.{Ordering}
use Rattle.std.specs.declared.cmp.Ordering.TheVariants.{Less, Equal, Greater}
use Rattle.lhg_math.specs.Number.{Number, mul, lt, nought, compare}
use Rattle.lhg_math.specs.NumberOrder.{lt_antisymm}
use Rattle.lhg_math.specs.Signs.{is_nought, lead, same_number}
use Rattle.lhg_math.specs.SignLaws.{size_above, same_is}
use Rattle.lhg_math.specs.Tests.{AllOf, Every, any_of, by_bool, false_true}
use Rattle.lhg_math.specs.Bounds.{under}
use Rattle.lhg_math.specs.BoundPairs.{bounded, above_lesser, under_both}
use Rattle.lhg_num.specs.Arithmetic.{Arithmetic, IsLawful, scaled, scaled_multiple}
use Rattle.lhg_num.specs.Marked.{each}
use Rattle.lhg_row.specs.Conjunctions.{and_left_comm}
use Rattle.lhg_row.specs.Row.{PlainRow, PlainPoint, row_value, holds_at, row_with}
use Rattle.lhg_row.specs.Piece.{PlainPiece, in_piece}
use Rattle.lhg_row.specs.Constant.{is_constant, varies, is_true, is_false}
use Rattle.lhg_row.specs.ConstantLaws.{never-holds, false-fails, filter-holds, filter-varies}
use Rattle.lhg_row.specs.ValueLaws.{scaled_row, holds-scaled}
use Rattle.lhg_row.specs.Trim.{canon, entries_of, row_of, lead_size, agree, same_direction, bound_order, tighter, placed, gathered, settled, trim}

-- ---- canon
-- the last entry is the bound
pub row_of-end : (strict : Bool) (cs : List Number) (b : Number) → row_of strict (cs ++ b ∷ []) ≡ record { coefs = cs; strict = strict; bound = b }
row_of-end strict cs b =
    let n = length (cs ++ b ∷ []) - 1 in
    let e : length cs ≡ n = omega (arith, length-append cs (b ∷ [])) in
    ap (λ ds. row_with ds strict (get_or (cs ++ b ∷ []) n nought)) (take_at cs (b ∷ []) n e) ∙ ap (row_with cs strict) (get_or_at cs b [] nought n e)

-- a row whose entries are scaled is scaled
pub row_of-scaled : (k : Number) (r : PlainRow) → row_of r.strict (map (λ x. mul k x) (entries_of r)) ≡ scaled_row k r
row_of-scaled k r = ap (row_of r.strict) (map-append (λ x. mul k x) r.coefs (r.bound ∷ [])) ∙ row_of-end r.strict (map (λ x. mul k x) r.coefs) (mul k r.bound)

-- what a type makes of a row is a positive multiple of it
pub row_of-canon : (a : Arithmetic) (r : PlainRow) (laws : IsLawful a) → row_of r.strict (scaled a (entries_of r)) ≡ scaled_row (scaled_multiple a (entries_of r) laws).factor r
row_of-canon a r laws = let m = scaled_multiple a (entries_of r) laws in ap (row_of r.strict) m.entries ∙ row_of-scaled m.factor r

-- canon keeps the points of a row
pub canon-holds : (a : Arithmetic) (r : PlainRow) (x : PlainPoint) → IsLawful a → holds_at (canon a r).value x ≡ holds_at r x
canon-holds a r x laws =
    by_bool (is_constant r) (λ e. rw e refl)
    (λ e. let m = scaled_multiple a (entries_of r) laws in rw e (ap (λ (q : PlainRow). holds_at q x) (row_of-canon a r laws) ∙ holds-scaled m.factor r x m.positive))

-- canon of each row keeps the points of a list
pub canons-hold : (a : Arithmetic) (rows : PlainPiece) (x : PlainPoint) → IsLawful a → in_piece (each (canon a) rows).value x ≡ in_piece rows x
canons-hold a [] x laws = refl
canons-hold a (r ∷ rows) x laws = ap (λ b. b && in_piece (each (canon a) rows).value x) (canon-holds a r x laws) ∙ ap (λ b. holds_at r x && b) (canons-hold a rows x laws)

-- ---- rows of one direction
-- where the test passes, the products are the same
pub agree-same : (a : Arithmetic) (made : Number → Number) (f g : Number) (cs ds : List Number) → (agree a made f g cs ds).value ≡ true
    → map (λ x. mul f x) cs ≡ map (λ x. made (mul g x)) ds
agree-same a made f g [] [] h = refl
agree-same a made f g [] (d ∷ ds) h = false_true h
agree-same a made f g (c ∷ cs) [] h = false_true h
agree-same a made f g (c ∷ cs) (d ∷ ds) h =
    let s = and_parts (same_number (mul f c) (made (mul g d))) (agree a made f g cs ds).value h in
    ap (λ y. y ∷ map (λ x. mul f x) cs) (same_is _ _ s.0) ∙ ap (λ ys. made (mul g d) ∷ ys) (agree-same a made f g cs ds s.1)

module _ (a : Arithmetic) (r s : PlainRow) (r_varies : is_constant r ≡ false) (s_varies : is_constant s ≡ false) where
  -- the tighter of two rows with one direction holds where both do
  pub tighter-holds : (x : PlainPoint) → (same_direction a r s).value ≡ true
      → holds_at (tighter (compare (mul (lead_size s) r.bound) (mul (lead_size r) s.bound)) s r) x ≡ (holds_at r x && holds_at s x)
  tighter-holds x h =
      let f = lead_size s in
      let g = lead_size r in
      let v = row_value nought (map (λ y. mul f y) r.coefs) x in
      let p = mul f r.bound in
      let q = mul g s.bound in
      let er : under (bounded p r.strict) v ≡ holds_at r x = holds-scaled f r x (size_above (lead s.coefs) s_varies) in
      let ev : row_value nought (map (λ z. mul g z) s.coefs) x ≡ v = ap (λ cs. row_value nought cs x) (sym (agree-same a (λ y. y) f g r.coefs s.coefs h)) in
      let es0 : (t : Bool) → under (bounded q t) v ≡ holds_at (row_with s.coefs t s.bound) x = λ t. ap (λ w. under (bounded q t) w) (sym ev) ∙ holds-scaled g (row_with s.coefs t s.bound) x (size_above (lead r.coefs) r_varies) in
      let es : under (bounded q s.strict) v ≡ holds_at s x = es0 s.strict in
      by_bool (lt p q)
      (λ e. rw e (sym er ∙ above_lesser (bounded p r.strict) (bounded q s.strict) v e ∙ ap (λ b. b && under (bounded q s.strict) v) er ∙ ap (λ b. holds_at r x && b) es))
      (λ e. by_bool (lt q p)
      (λ k. rw (e, k) (sym es ∙ above_lesser (bounded q s.strict) (bounded p r.strict) v k ∙ ap (λ b. b && under (bounded p r.strict) v) es ∙ ap (λ b. holds_at s x && b) er ∙ and_comm (holds_at s x) (holds_at r x)))
      (λ k. rw (e, k) (
      let same : p ≡ q = lt_antisymm p q e k in
      sym (es0 (s.strict || r.strict)) ∙ ap (λ t. under (bounded q t) v) (or_comm s.strict r.strict) ∙ under_both q v r.strict s.strict ∙ ap (λ b. under (bounded b r.strict) v && under (bounded q s.strict) v) (sym same) ∙ ap (λ b. b && under (bounded q s.strict) v) er ∙ ap (λ b. holds_at r x && b) es)))

-- ---- the gathered rows
-- a fact of the coefficients of two rows is one of those of the tighter
pub tighter-all : (P : List Number → Type 0) (o : Ordering) (s r : PlainRow) → P s.coefs → P r.coefs → P (tighter o s r).coefs
tighter-all P Less s r h k = k
tighter-all P Equal s r h k = h
tighter-all P Greater s r h k = h

-- a fact that the tighter of two rows takes over is one of all rows after a row is put among others
module _ (a : Arithmetic) (P : PlainRow → Type 0) (taken : (o : Ordering) (s r : PlainRow) → P s → P r → P (tighter o s r)) where
  pub placed-all : (r : PlainRow) (ss : PlainPiece) → P r → AllOf P ss → AllOf P (placed a r ss).value
  placed-all r [] h k = (h, tt)
  placed-all r (s ∷ ss) h k =
      by_bool (same_direction a r s).value (λ e. rw e (taken (bound_order a r s).value s r k.0 h, k.1)) (λ e. rw e (k.0, placed-all r ss h k.1))

  -- and of all rows that are gathered
  pub gathered-all : (ks rows : PlainPiece) → AllOf P ks → AllOf P rows → AllOf P (gathered a ks rows).value
  gathered-all ks [] h k = h
  gathered-all ks (r ∷ rows) h k = gathered-all (placed a r ks).value rows (placed-all r ks k.0 h) k.1

tighter-varies : (o : Ordering) (s r : PlainRow) → varies s ≡ true → varies r ≡ true → varies (tighter o s r) ≡ true
tighter-varies = tighter-all (λ cs. not (is_nought (lead cs)) ≡ true)

-- rows with a variable stay rows with a variable
pub placed-varies : (a : Arithmetic) (r : PlainRow) (ss : PlainPiece) → varies r ≡ true → Every varies ss → Every varies (placed a r ss).value
placed-varies a = placed-all a (λ r. varies r ≡ true) tighter-varies

-- the list with a row put among its own holds where both do
placed-holds : (a : Arithmetic) (r : PlainRow) (ss : PlainPiece) (x : PlainPoint) → varies r ≡ true → Every varies ss
    → in_piece (placed a r ss).value x ≡ (holds_at r x && in_piece ss x)
placed-holds a r [] x h k = refl
placed-holds a r (s ∷ ss) x h k =
    by_bool (same_direction a r s).value
    (λ e. rw e (ap (λ b. b && in_piece ss x) (tighter-holds a r s (not-true _ h) (not-true _ k.0) x e) ∙ and_assoc (holds_at r x) (holds_at s x) (in_piece ss x)))
    (λ e. rw e (ap (λ b. holds_at s x && b) (placed-holds a r ss x h k.1) ∙ and_left_comm (holds_at s x) (holds_at r x) (in_piece ss x)))

-- gathering keeps the points of the kept rows and of the others
gathered-holds : (a : Arithmetic) (ks rows : PlainPiece) (x : PlainPoint) → Every varies ks → Every varies rows
    → in_piece (gathered a ks rows).value x ≡ (in_piece ks x && in_piece rows x)
gathered-holds a ks [] x h k = sym (and-true (in_piece ks x))
gathered-holds a ks (r ∷ rows) x h k =
    gathered-holds a (placed a r ks).value rows x (placed-varies a r ks k.0 h) k.1
    ∙ ap (λ b. b && in_piece rows x) (placed-holds a r ks x k.0 h ∙ and_comm (holds_at r x) (in_piece ks x))
    ∙ and_assoc (in_piece ks x) (holds_at r x) (in_piece rows x)

-- gathered rows with a variable are rows with a variable
pub gathered-varies : (a : Arithmetic) (ks rows : PlainPiece) → Every varies ks → Every varies rows → Every varies (gathered a ks rows).value
gathered-varies a = gathered-all a (λ r. varies r ≡ true) tighter-varies

-- ---- trim
settled-holds : (a : Arithmetic) (rows : PlainPiece) (x : PlainPoint) → in_piece (settled a rows).value x ≡ in_piece rows x
settled-holds a [] x = refl
settled-holds a (r ∷ rows) x =
    by_bool (any_of is_false (r ∷ rows))
    (λ e. rw (e, never-holds (length r.coefs) x) (sym (false-fails (r ∷ rows) x e)))
    (λ e. rw e (gathered-holds a [] (filter (λ s. not (is_true s)) (r ∷ rows)) x tt (filter-varies (r ∷ rows) e) ∙ filter-holds (r ∷ rows) x))

-- trim keeps the points
pub trim-holds : (a : Arithmetic) (rows : PlainPiece) (x : PlainPoint) → IsLawful a → in_piece (trim a rows).value x ≡ in_piece rows x
unfolding trim
trim-holds a rows x laws = settled-holds a (each (canon a) rows).value x ∙ canons-hold a rows x laws
