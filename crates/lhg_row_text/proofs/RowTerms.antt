-- The terms of a row from the place of its first coefficient that is not zero.
use Rattle.std.proofs.Common.{◌≡◌, ◌<◌, ◌≤◌, ◌+◌, ◌++◌, ◌∷◌, [], ℕ, zero, suc, List, length, map, drop, get_or, refl, sym, ap, ◌∙◌, arith, add-one, drop-cons, codes, true, false, not, Bool, cond, Some, None}
use Rattle.std.specs.List.{position_or_len, position}
use Rattle.std.proofs.lemmas.Bool.Decides.{nat_tests}
use Rattle.std.proofs.lemmas.List.{drop-map, length-append, length-map}
use Rattle.std.proofs.Math.ListN.{drop_of_length-le}
use Rattle.lhg_math.specs.Number.{Number, nought}
use Rattle.lhg_math.specs.Signs.{is_nought, lead}
use Rattle.lhg_math.specs.Tests.{by_bool}
use Rattle.lhg_math.specs.SignLaws.{is_nought-neg}
use Rattle.lhg_math.specs.ListFacts.{drop_cons}
use Rattle.lhg_lex.proofs.Fronts.{suc_is}
use Rattle.lhg_row_text.specs.RowText.{terms_from, terms_text, next_term, next_terms, term_text, turned, jump_names}

-- ---- lists from a place on

-- the name at a place, and those behind it
name_from : (vs : List (List ℕ)) (i : ℕ) → i < length vs → drop i vs ≡ get_or vs i [] ∷ drop (i + 1) vs
name_from vs i there = drop-cons vs i [] there ∙ ap (λ k. get_or vs i [] ∷ drop k vs) (sym (add-one i))

-- no coefficients give no terms
pub next_terms-nil : (vs : List (List ℕ)) → next_terms vs [] ≡ []
next_terms-nil [] = refl
next_terms-nil (v ∷ vs) = refl

module _ (f : Number → Number) (vs : List (List ℕ)) (cs : List Number) where
  -- the coefficient c at a place behind the first, and those behind it
  pub next_terms-from : (i : ℕ) (c x : Number) → i < length vs → i < length cs → c ≡ get_or cs i c → x ≡ f c
      → next_terms (drop i vs) (map f (drop i cs)) ≡ next_term x (get_or vs i []) ++ next_terms (drop (i + 1) vs) (map f (drop (i + 1) cs))
  next_terms-from i c x named there is e =
      let v = name_from vs i named in
      let d = drop_cons cs i c is there in
      rw (v, d, e) refl

  -- past the last place there are none
  pub next_terms-past : (i : ℕ) → length cs ≤ i → next_terms (drop i vs) (map f (drop i cs)) ≡ []
  next_terms-past i h = ap (λ ds. next_terms (drop i vs) (map f ds)) (drop_of_length-le cs h) ∙ next_terms-nil (drop i vs)

  terms_from-drop : (k : ℕ) (us : List (List ℕ)) (ds : List Number) → terms_from k us ds ≡ terms_from zero (drop k us) (drop k ds)
  terms_from-drop zero us ds = refl
  terms_from-drop (suc k) [] ds = refl
  terms_from-drop (suc k) (u ∷ us) [] = none (drop k us)
    where
      none : (ws : List (List ℕ)) → [] ≡ terms_from zero ws []
      none [] = refl
      none (w ∷ ws) = refl
  terms_from-drop (suc k) (u ∷ us) (d ∷ ds) = terms_from-drop k us ds

  -- the coefficient c at the first place, and those behind it
  pub terms_from-at : (k : ℕ) (c x : Number) → k < length vs → k < length cs → c ≡ get_or cs k c → x ≡ f c
      → terms_from k vs (map f cs) ≡ term_text x (get_or vs k []) ++ next_terms (drop (k + 1) vs) (map f (drop (k + 1) cs))
  terms_from-at k c x named there is e =
      let v = name_from vs k named in
      let d = drop_cons cs k c is there in
      terms_from-drop k vs (map f cs) ∙ ap (terms_from zero (drop k vs)) (drop-map f k cs) ∙ rw (v, d, e) refl

-- the old names and as many new ones
pub length-jump_names : (vars : List (List ℕ)) → length (jump_names vars) ≡ length vars + length vars
length-jump_names vars = length-append vars (map (λ v. v ++ codes "'") vars) ∙ ap (λ (n : ℕ). length vars + n) (length-map vars (λ v. v ++ codes "'"))

-- the place of the first coefficient that is not zero, or their number
abbrev pub place_of : List Number → ℕ
place_of cs = position_or_len (λ c. not (is_nought c)) cs

-- a coefficient that is 0 in front
pub place-nought : (c : Number) (cs : List Number) → is_nought c ≡ true → place_of (c ∷ cs) ≡ suc (place_of cs)
place-nought c cs e = rw e (suc_is (place_of cs))

-- one that is not
pub place-other : (c : Number) (cs : List Number) → is_nought c ≡ false → place_of (c ∷ cs) ≡ zero
place-other c cs e = rw e refl

-- a number that is negated is zero where it was
pub is_nought-turned : (flip : Bool) (x : Number) → is_nought (turned flip x) ≡ is_nought x
is_nought-turned true x = is_nought-neg x
is_nought-turned false x = refl

terms_at : (f : Number → Number) → ((x : Number) → is_nought (f x) ≡ is_nought x) → (vs : List (List ℕ)) (cs : List Number) → terms_text vs (map f cs) ≡ terms_from (place_of cs) vs (map f cs)
terms_at f same [] cs = refl
terms_at f same (v ∷ vs) [] = refl
terms_at f same (v ∷ vs) (c ∷ cs) =
    by_bool (is_nought c)
    (λ e. let g = same c ∙ e in rw (g, place-nought c cs e) (terms_at f same vs cs))
    (λ e. let g = same c ∙ e in rw (g, place-other c cs e) refl)

-- the terms of a row begin at the place of its first coefficient that is not zero
pub terms_text-place : (flip : Bool) (vs : List (List ℕ)) (cs : List Number) → terms_text vs (map (turned flip) cs) ≡ terms_from (place_of cs) vs (map (turned flip) cs)
terms_text-place flip vs cs = terms_at (turned flip) (is_nought-turned flip) vs cs

-- past the last place there are none
pub terms_from-past : (k : ℕ) (vs : List (List ℕ)) (cs : List Number) → length cs ≤ k → terms_from k vs cs ≡ []
terms_from-past k [] cs h = refl
terms_from-past k (v ∷ vs) [] h = refl
terms_from-past zero (v ∷ vs) (c ∷ cs) h = absurd (omega arith)
terms_from-past (suc k) (v ∷ vs) (c ∷ cs) h = terms_from-past k vs cs (omega arith)

-- the coefficient there is the leading one
pub lead-place : (cs : List Number) (d : Number) → place_of cs < length cs → lead cs ≡ get_or cs (place_of cs) d
lead-place [] d h = absurd (omega arith)
lead-place (c ∷ cs) d h =
    by_bool (is_nought c)
    (λ e. let p = place-nought c cs e in rw (e, suc_is (place_of cs)) (lead-place cs d (omega arith)))
    (λ e. rw e refl)

-- and where there is none the leading one is zero
pub lead-none : (cs : List Number) → length cs ≤ place_of cs → lead cs ≡ nought
lead-none [] h = refl
lead-none (c ∷ cs) h =
    by_bool (is_nought c)
    (λ e. let p = place-nought c cs e in rw e (lead-none cs (omega arith)))
    (λ e. let p = place-other c cs e in absurd (omega arith))

some_at : (t : Bool) (n k : ℕ) → Some k ≡ cond t (Some n) None → (t ≡ true) × (n ≡ k)
some_at true n k e = (refl, cc)
some_at false n k e = absurd cc

none_at : (t : Bool) (n : ℕ) → None ≡ cond t (Some n) None → t ≡ false
none_at true n e = absurd cc
none_at false n e = refl

-- the place that a search gives
pub found_place : (cs : List Number) (k : ℕ) → Some k ≡ position (λ c. not (is_nought c)) cs → (place_of cs < length cs) × (place_of cs ≡ k)
found_place cs k e = let s = some_at _ _ _ e in (let below : place_of cs < length cs = grind (arith, nat_tests, s.0) in below, s.1)

-- where a search finds none, all coefficients are 0
pub no_place : (cs : List Number) → None ≡ position (λ c. not (is_nought c)) cs → length cs ≤ place_of cs
no_place cs e = let t = none_at _ _ e in grind (arith, nat_tests, t)
