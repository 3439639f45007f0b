-- Which terms do the tokens of a printed row say?
use Rattle.std.proofs.Common.{◌≡◌, ◌+◌, ℕ, List, [], ◌∷◌, ◌++◌, length, refl, sym, ap, ◌∙◌, Bool, true, false, not, ◌==◌, ◌&&◌, if◌then◌else◌, Some, arith, eqb-true}
use Rattle.std.specs.Int.RustNames.{unsigned_abs}
use Rattle.std.specs.Option.{option_map}
use Rattle.std.proofs.lemmas.Bool.{and_parts, true≢false}
use Rattle.std.proofs.lemmas.List.Folds.{list_all-append}
use Rattle.lhg_math.specs.Number.{Number, neg, lt, nought, unit, whole}
use Rattle.lhg_math.specs.NumberOrder.{lt_irrefl, lt_asym}
use Rattle.lhg_math.specs.NumberRing.{neg_neg}
use Rattle.lhg_math.specs.Signs.{is_nought, lead}
use Rattle.lhg_math.specs.SignLaws.{is_nought-positive}
use Rattle.lhg_math.specs.Tests.{by_bool}
use Rattle.lhg_lex.specs.PlainToken.{PlainToken, word, number, sign}
use Rattle.lhg_read.specs.Cut.{cut}
use Rattle.lhg_read.specs.Signs.{is_minus, is_plus_or_minus}
use Rattle.lhg_read.specs.Sum.{signed, terms_behind, terms_from, begins_with_minus, sum_of}
use Rattle.lhg_read.specs.Term.{term_of, variable_of}
use Rattle.lhg_read.specs.declared.forms.Form.{Form}
use Rattle.lhg_read.specs.declared.terms.Term.{Term}
use Rattle.lhg_read.specs.declared.terms.Term.TheVariants.{Times, Alone}
use Rattle.lhg_row_text.proofs.Cutting.{all_fail, parted, cut-before, cut-marked}
use Rattle.lhg_row_text.proofs.Magnitudes.{magnitude_else, magnitude_negative, magnitude_some}
use Rattle.lhg_row_text.proofs.NumberTokens.{magnitude}
use Rattle.lhg_row_text.proofs.RowTokens.{Axis, axis_tokens, term_tokens, next_tokens, terms_tokens, number_tokens}

-- ---- what separates parts stands in none

-- no token of a term passes
pub record SparesTerms (test : PlainToken → Bool) : Type 0 where
  pub word : (w : List ℕ) → test (word w) ≡ false
  pub number : (q : Number) → test (number q) ≡ false
  pub prime : test (sign 39) ≡ false
  pub times : test (sign 42) ≡ false

-- no token of a sum passes
pub record SparesSums (test : PlainToken → Bool) : Type 0 where
  pub terms : SparesTerms test
  pub plus : test (sign 43) ≡ false
  pub minus : test (sign 45) ≡ false

module _ (test : PlainToken → Bool) where
  axis_by : (w : List ℕ) (primed : Bool) → SparesTerms test → all_fail test (axis_tokens (record { name = w; primed = primed })) ≡ true
  axis_by w true s = let e = s.word w in let f = s.prime in rw (e, f) refl
  axis_by w false s = let e = s.word w in rw e refl

  axis_spared : (a : Axis) → SparesTerms test → all_fail test (axis_tokens a) ≡ true
  axis_spared a s = axis_by a.name a.primed s

  term_spared : (c : Number) (a : Axis) → SparesTerms test → all_fail test (term_tokens c a) ≡ true
  term_spared c a s =
      by_bool ((unsigned_abs c.top == 1) && (c.bottom == 1))
      (λ e. rw e (axis_spared a s))
      (λ e. let n = s.number (magnitude c) in let t = s.times in rw (e, n, t) (axis_spared a s))

  sign_spared : (negative : Bool) → SparesSums test → test (sign (if negative then 45 else 43)) ≡ false
  sign_spared true s = s.minus
  sign_spared false s = s.plus

  spared-append : (xs ys : List PlainToken) → all_fail test xs ≡ true → all_fail test ys ≡ true → all_fail test (xs ++ ys) ≡ true
  spared-append xs ys h k = list_all-append (λ x. not (test x)) xs ys ∙ rw (h, k) refl

  next_spared : (axes : List Axis) (cs : List Number) → SparesSums test → all_fail test (next_tokens axes cs) ≡ true
  next_spared [] cs s = refl
  next_spared (a ∷ axes) [] s = refl
  next_spared (a ∷ axes) (c ∷ cs) s =
      by_bool (is_nought c)
      (λ e. rw e (next_spared axes cs s))
      (λ e. let n = sign_spared (lt c nought) s in rw (e, n) (spared-append (term_tokens c a) (next_tokens axes cs) (term_spared c a s.terms) (next_spared axes cs s)))

  -- nor in the terms of a row
  pub terms_spared : (axes : List Axis) (cs : List Number) → SparesSums test → all_fail test (terms_tokens axes cs) ≡ true
  terms_spared [] cs s = refl
  terms_spared (a ∷ axes) [] s = refl
  terms_spared (a ∷ axes) (c ∷ cs) s =
      by_bool (is_nought c)
      (λ e. rw e (terms_spared axes cs s))
      (λ e. rw e (spared-append (term_tokens c a) (next_tokens axes cs) (term_spared c a s.terms) (next_spared axes cs s)))

  -- nor in a number
  pub number_spared : (x : Number) → SparesSums test → all_fail test (number_tokens x) ≡ true
  number_spared x s =
      let n = s.terms.number (magnitude x) in
      let m = s.minus in
      by_bool (lt x nought) (λ e. rw (e, m, n) refl) (λ e. rw (e, n) refl)

signs_spare : SparesTerms is_plus_or_minus
signs_spare = record { word = λ w. refl; number = λ q. refl; prime = refl; times = refl }

-- ---- the terms

-- the terms of the coefficients that are not zero, from a place on
abbrev pub terms_at : ℕ → List Number → List Term
terms_at k [] = []
terms_at k (c ∷ cs) = if is_nought c then terms_at (k + 1) cs else Times c k ∷ terms_at (k + 1) cs

-- the variables are read as those of the places from k on
abbrev pub ArePlaced : Form → List (List ℕ) → ℕ → List Axis → Type 0
ArePlaced form vars k [] = Unit {0}
ArePlaced form vars k (a ∷ axes) = (variable_of form vars (axis_tokens a) ≡ Some k) × ArePlaced form vars (k + 1) axes

-- the terms behind the first, each with its sign in front
abbrev next_parts : List Axis → List Number → List (PlainToken × List PlainToken)
next_parts [] cs = []
next_parts (a ∷ axes) [] = []
next_parts (a ∷ axes) (c ∷ cs) = if is_nought c then next_parts axes cs else (sign (if lt c nought then 45 else 43), term_tokens c a) ∷ next_parts axes cs

sign_passes : (negative : Bool) → is_plus_or_minus (sign (if negative then 45 else 43)) ≡ true
sign_passes true = refl
sign_passes false = refl

next_cut : (axes : List Axis) (cs : List Number) → cut is_plus_or_minus (next_tokens axes cs) ≡ parted [] (next_parts axes cs)
next_cut [] cs = refl
next_cut (a ∷ axes) [] = refl
next_cut (a ∷ axes) (c ∷ cs) =
    by_bool (is_nought c)
    (λ e. rw e (next_cut axes cs))
    (λ e. rw e (cut-marked is_plus_or_minus (sign (if lt c nought then 45 else 43)) (term_tokens c a) (next_tokens axes cs) (next_parts axes cs) (sign_passes (lt c nought)) (term_spared is_plus_or_minus c a signs_spare) (next_cut axes cs)))

module _ (form : Form) (vars : List (List ℕ)) where
  axis_term : (w : List ℕ) (primed : Bool) (k : ℕ) → variable_of form vars (axis_tokens (record { name = w; primed = primed })) ≡ Some k → term_of form vars (axis_tokens (record { name = w; primed = primed })) ≡ Some (Times unit k)
  axis_term w true k h = ap (option_map (λ i. Times unit i)) h
  axis_term w false k h = ap (option_map (λ i. Times unit i)) h

  unit_magnitude : (c : Number) → ((unsigned_abs c.top == 1) && (c.bottom == 1)) ≡ true → unit ≡ magnitude c
  unfolding unit whole
  unit_magnitude c h =
      let p = and_parts (unsigned_abs c.top == 1) (c.bottom == 1) h in
      let t = eqb-true (unsigned_abs c.top) 1 p.0 in
      let b = eqb-true c.bottom 1 p.1 in
      rw (t, b) refl

  -- a term is read as the size of its coefficient times its variable
  term_reads : (c : Number) (a : Axis) (k : ℕ) → is_nought c ≡ false → variable_of form vars (axis_tokens a) ≡ Some k → term_of form vars (term_tokens c a) ≡ Some (Times (magnitude c) k)
  term_reads c a k some at =
      by_bool ((unsigned_abs c.top == 1) && (c.bottom == 1))
      (λ e. rw e (axis_term a.name a.primed k at ∙ ap (λ q. Some (Times q k)) (unit_magnitude c e)))
      (λ e. let m = magnitude_some c some in rw (e, m) (ap (option_map (λ i. Times (magnitude c) i)) at))

  signed_by : (negative : Bool) (c : Number) (k : ℕ) → lt c nought ≡ negative → signed (is_minus (sign (if negative then 45 else 43))) (Times (magnitude c) k) ≡ Times c k
  signed_by true c k h = ap (λ q. Times q k) (ap neg (magnitude_negative c h) ∙ neg_neg c)
  signed_by false c k h = ap (λ q. Times q k) (magnitude_else c h)

  next_read : (axes : List Axis) (cs : List Number) (k : ℕ) → length axes ≡ length cs → ArePlaced form vars k axes → terms_behind form vars (next_parts axes cs) ≡ Some (terms_at k cs)
  next_read [] [] k same at = refl
  next_read [] (c ∷ cs) k same at = absurd (omega arith)
  next_read (a ∷ axes) [] k same at = absurd (omega arith)
  next_read (a ∷ axes) (c ∷ cs) k same at =
      let more = next_read axes cs (k + 1) (omega arith) at.1 in
      by_bool (is_nought c)
      (λ e. rw e more)
      (λ e. let t = term_reads c a k e at.0 in rw (e, t, more) (ap (λ s. Some (s ∷ terms_at (k + 1) cs)) (signed_by (lt c nought) c k refl)))

  axis_begins : (w : List ℕ) (primed : Bool) (more : List PlainToken) → begins_with_minus (axis_tokens (record { name = w; primed = primed }) ++ more) ≡ false
  axis_begins w true more = refl
  axis_begins w false more = refl

  term_begins : (c : Number) (a : Axis) (more : List PlainToken) → begins_with_minus (term_tokens c a ++ more) ≡ false
  term_begins c a more = by_bool ((unsigned_abs c.top == 1) && (c.bottom == 1)) (λ e. rw e (axis_begins a.name a.primed more)) (λ e. rw e refl)

  first_sum : (c : Number) (a : Axis) (axes : List Axis) (cs : List Number) (k : ℕ) → lt nought c ≡ true → length axes ≡ length cs → variable_of form vars (axis_tokens a) ≡ Some k → ArePlaced form vars (k + 1) axes
      → sum_of form vars (term_tokens c a ++ next_tokens axes cs) ≡ Some (Times c k ∷ terms_at (k + 1) cs)
  unfolding sum_of
  first_sum c a axes cs k above same here at =
      let m = term_begins c a (next_tokens axes cs) in
      let t = term_reads c a k (is_nought-positive c above) here in
      let b = next_read axes cs (k + 1) same at in
      let e = magnitude_else c (lt_asym nought c above) in
      rw m (ap (terms_from form vars false) (cut-before is_plus_or_minus (term_tokens c a) (next_tokens axes cs) (next_parts axes cs) (term_spared is_plus_or_minus c a signs_spare) (next_cut axes cs)) ∙ rw (t, b) (ap (λ q. Some (Times q k ∷ terms_at (k + 1) cs)) e))

  -- the terms of a row whose leading coefficient is positive
  pub terms_sum : (axes : List Axis) (cs : List Number) (k : ℕ) → lt nought (lead cs) ≡ true → length axes ≡ length cs → ArePlaced form vars k axes → sum_of form vars (terms_tokens axes cs) ≡ Some (terms_at k cs)
  terms_sum axes [] k above same at = absurd (true≢false (sym above ∙ lt_irrefl nought))
  terms_sum [] (c ∷ cs) k above same at = absurd (omega arith)
  terms_sum (a ∷ axes) (c ∷ cs) k above same at =
      by_bool (is_nought c)
      (λ e. let l = rw e at above in rw e (terms_sum axes cs (k + 1) l (omega arith) at.1))
      (λ e. let l = rw e at above in rw e (first_sum c a axes cs k l (omega arith) at.0 at.1))

  -- a number alone
  pub number_sum : (x : Number) → sum_of form vars (number_tokens x) ≡ Some (Alone x ∷ [])
  unfolding sum_of
  number_sum x =
      by_bool (lt x nought)
      (λ e. rw e (ap (λ q. Some (Alone q ∷ [])) (ap neg (magnitude_negative x e) ∙ neg_neg x)))
      (λ e. rw e (ap (λ q. Some (Alone q ∷ [])) (magnitude_else x e)))
