-- Terms that are put one after another are proper, and make the row of the pair.
use Rattle.std.proofs.Common.{◌≡◌, ◌<◌, ◌≤◌, ◌+◌, ◌==◌, ℕ, List, [], ◌∷◌, length, refl, sym, ap, ◌∙◌, Bool, true, false, cond, arith, get_or, set, Option, Some, None}
use Rattle.std.specs.Prelude.{count_by, is_some}
use Rattle.std.specs.Option.{unwrap_or}
use Rattle.std.proofs.lemmas.List.{get_or-set_same, get_or-set_other, length-set}
use Rattle.std.proofs.lemmas.List.Sums.{sum_by-cons}
use Rattle.std.proofs.lemmas.Bool.{eqb-true, eqb-false}
use Rattle.lhg_math.specs.Number.{Number, nought}
use Rattle.lhg_math.specs.Signs.{is_nought}
use Rattle.lhg_math.specs.SignLaws.{nought_is}
use Rattle.lhg_math.specs.Tests.{AllOf, by_bool}
use Rattle.lhg_read.specs.Pair.{is_at, is_alone, factor_in}
use Rattle.lhg_read.specs.Collect.{Collected, with_terms}
use Rattle.lhg_read.specs.declared.terms.Term.{Term}
use Rattle.lhg_read.specs.declared.terms.Term.TheVariants.{Times, Alone}

-- the term's variable is below n, and its factor is not 0
abbrev pub IsSound : ℕ → Term → Type 0
IsSound n (Times q i) = (i < n) × (is_nought q ≡ false)
IsSound n (Alone q) = Unit {0}

-- how often the variable at a place has occurred
abbrev pub seen : Collected → ℕ → ℕ
seen c i = cond (is_nought (get_or c.coefs i nought)) 0 1

-- how many numbers have stood alone
abbrev pub seen_alone : Collected → ℕ
seen_alone c = cond (is_some c.number) 1 0

-- with these terms no variable occurs twice, and no second number
pub record Fit (n : ℕ) (c : Collected) (terms : List Term) : Type 0 where
  pub once : (i : ℕ) → i < n → seen c i + count_by (is_at i) terms ≤ 1
  pub alone : seen_alone c + count_by is_alone terms ≤ 1

-- the terms make d of c
pub record Make (n : ℕ) (c : Collected) (terms : List Term) (d : Collected) : Type 0 where
  pub long : length d.coefs ≡ length c.coefs
  pub factor : (i : ℕ) → i < n → get_or d.coefs i nought ≡ cond (is_nought (get_or c.coefs i nought)) (factor_in (is_at i) terms) (get_or c.coefs i nought)
  pub number : unwrap_or d.number nought ≡ cond (is_some c.number) (unwrap_or c.number nought) (factor_in is_alone terms)

-- what a collection says of its terms
abbrev pub Answers : ℕ → Collected → List Term → Option Collected → Type 0
Answers n c terms (Some d) = Fit n c terms × Make n c terms d
Answers n c terms None = ¬ Fit n c terms

pub count-cons : (test : Term → Bool) (t : Term) (ts : List Term) → count_by test (t ∷ ts) ≡ cond (test t) 1 0 + count_by test ts
count-cons test t ts = sum_by-cons (λ x. cond (test x) 1 0) t ts

pub same_eq : (j : ℕ) → (j == j) ≡ true
same_eq j = by_bool (j == j) (λ e. e) (λ e. absurd (eqb-false j j e refl))

-- ---- a variable that has not occurred

module _ (n : ℕ) (c : Collected) (size : length c.coefs ≡ n) (q : Number) (j : ℕ) (below : j < n) (some : is_nought q ≡ false) (fresh : is_nought (get_or c.coefs j nought) ≡ true) where
  abbrev put : Collected
  put = record c { coefs = set c.coefs j q }

  at_own : (i : ℕ) → j ≡ i → get_or put.coefs i nought ≡ q
  at_own i e = ap (λ k. get_or put.coefs k nought) (sym e) ∙ get_or-set_same c.coefs j q nought (omega (arith, size, below))

  at_other : (i : ℕ) → (j ≡ i → ⊥) → get_or put.coefs i nought ≡ get_or c.coefs i nought
  at_other i ne = get_or-set_other c.coefs j i q nought (λ e. ne (sym e))

  seen_put : (ts : List Term) (i : ℕ) → seen c i + count_by (is_at i) (Times q j ∷ ts) ≡ seen put i + count_by (is_at i) ts
  seen_put ts i =
      by_bool (j == i)
      (λ t.
      let e : j ≡ i = eqb-true j i t in
      let k : count_by (is_at i) (Times q j ∷ ts) ≡ 1 + count_by (is_at i) ts = count-cons (is_at i) (Times q j) ts ∙ ap (λ b. cond b 1 0 + count_by (is_at i) ts) t in
      let a : seen c i ≡ 0 = ap (λ b. cond b 0 1) (ap (λ m. is_nought (get_or c.coefs m nought)) (sym e) ∙ fresh) in
      let b : seen put i ≡ 1 = ap (λ b. cond b 0 1) (ap is_nought (at_own i e) ∙ some) in
      omega (arith, k, a, b))
      (λ t.
      let k : count_by (is_at i) (Times q j ∷ ts) ≡ 0 + count_by (is_at i) ts = count-cons (is_at i) (Times q j) ts ∙ ap (λ b. cond b 1 0 + count_by (is_at i) ts) t in
      let a : seen put i ≡ seen c i = ap (λ x. cond (is_nought x) 0 1) (at_other i (eqb-false j i t)) in
      omega (arith, k, a))

  alone_put : (ts : List Term) → count_by is_alone (Times q j ∷ ts) ≡ count_by is_alone ts
  alone_put ts = let e = count-cons is_alone (Times q j) ts in omega (arith, e)

  fit_put : (ts : List Term) → Fit n put ts → Fit n c (Times q j ∷ ts)
  fit_put ts f = record { once = λ i h. omega (arith, f.once i h, seen_put ts i); alone = omega (arith, f.alone, alone_put ts) }

  fit_back : (ts : List Term) → Fit n c (Times q j ∷ ts) → Fit n put ts
  fit_back ts f = record { once = λ i h. omega (arith, f.once i h, seen_put ts i); alone = omega (arith, f.alone, alone_put ts) }

  make_put : (ts : List Term) (d : Collected) → Make n put ts d → Make n c (Times q j ∷ ts) d
  make_put ts d m = record {
    long = m.long ∙ length-set c.coefs j q;
    factor = λ i h.
        by_bool (j == i)
        (λ t.
        let e : j ≡ i = eqb-true j i t in
        let own : get_or d.coefs i nought ≡ q = m.factor i h ∙ ap (λ x. cond (is_nought x) (factor_in (is_at i) ts) x) (at_own i e) ∙ ap (λ b. cond b (factor_in (is_at i) ts) q) some in
        let a : is_nought (get_or c.coefs i nought) ≡ true = ap (λ m. is_nought (get_or c.coefs m nought)) (sym e) ∙ fresh in
        own ∙ rw (a, t) refl)
        (λ t. m.factor i h ∙ ap (λ x. cond (is_nought x) (factor_in (is_at i) ts) x) (at_other i (eqb-false j i t)) ∙ rw t refl);
    number = m.number;
  }

  times_put : (ts : List Term) (o : Option Collected) → Answers n put ts o → Answers n c (Times q j ∷ ts) o
  times_put ts (Some d) a = (fit_put ts a.0, make_put ts d a.1)
  times_put ts None a = λ f. a (fit_back ts f)

-- a variable that has occurred does not fit
twice : (n : ℕ) (c : Collected) (q : Number) (j : ℕ) (ts : List Term) → j < n → is_nought (get_or c.coefs j nought) ≡ false → ¬ Fit n c (Times q j ∷ ts)
twice n c q j ts below e f =
    let k : count_by (is_at j) (Times q j ∷ ts) ≡ 1 + count_by (is_at j) ts = count-cons (is_at j) (Times q j) ts ∙ ap (λ b. cond b 1 0 + count_by (is_at j) ts) (same_eq j) in
    let a : seen c j ≡ 1 = ap (λ b. cond b 0 1) e in
    let o = f.once j below in
    omega (arith, k, a, o)

-- ---- a number that is the first

module _ (n : ℕ) (c : Collected) (q : Number) (fresh : is_some c.number ≡ false) where
  abbrev added : Collected
  added = record c { number = Some q }

  alone_added : (ts : List Term) → seen_alone c + count_by is_alone (Alone q ∷ ts) ≡ seen_alone added + count_by is_alone ts
  alone_added ts = let k = count-cons is_alone (Alone q) ts in let a : seen_alone c ≡ 0 = ap (λ b. cond b 1 0) fresh in omega (arith, k, a)

  once_added : (ts : List Term) (i : ℕ) → count_by (is_at i) (Alone q ∷ ts) ≡ count_by (is_at i) ts
  once_added ts i = let e = count-cons (is_at i) (Alone q) ts in omega (arith, e)

  fit_added : (ts : List Term) → Fit n added ts → Fit n c (Alone q ∷ ts)
  fit_added ts f = record { once = λ i h. omega (arith, f.once i h, once_added ts i); alone = omega (arith, f.alone, alone_added ts) }

  fit_less : (ts : List Term) → Fit n c (Alone q ∷ ts) → Fit n added ts
  fit_less ts f = record { once = λ i h. omega (arith, f.once i h, once_added ts i); alone = omega (arith, f.alone, alone_added ts) }

  alone_put_in : (ts : List Term) (o : Option Collected) → Answers n added ts o → Answers n c (Alone q ∷ ts) o
  alone_put_in ts (Some d) a = (fit_added ts a.0, record { long = a.1.long; factor = a.1.factor; number = a.1.number ∙ rw fresh refl })
  alone_put_in ts None a = λ f. a (fit_less ts f)

-- a second number does not fit
second : (n : ℕ) (c : Collected) (q : Number) (ts : List Term) → is_some c.number ≡ true → ¬ Fit n c (Alone q ∷ ts)
second n c q ts e f =
    let k = count-cons is_alone (Alone q) ts in
    let a : seen_alone c ≡ 1 = ap (λ b. cond b 1 0) e in
    let o = f.alone in
    omega (arith, k, a, o)

-- ---- all terms

at_most_one : (b : Bool) → cond b 0 1 + 0 ≤ 1
at_most_one true = omega arith
at_most_one false = omega arith

at_most_one_alone : (b : Bool) → cond b 1 0 + 0 ≤ 1
at_most_one_alone true = omega arith
at_most_one_alone false = omega arith

own_factor : (x : Number) → x ≡ cond (is_nought x) nought x
own_factor x = by_bool (is_nought x) (λ e. nought_is x e ∙ rw e refl) (λ e. rw e refl)

own_number : (o : Option Number) → unwrap_or o nought ≡ cond (is_some o) (unwrap_or o nought) nought
own_number None = refl
own_number (Some q) = refl

none_answers : (n : ℕ) (c : Collected) → Answers n c [] (Some c)
none_answers n c = (
  record { once = λ i h. at_most_one (is_nought (get_or c.coefs i nought)); alone = at_most_one_alone (is_some c.number) },
  record { long = refl; factor = λ i h. own_factor (get_or c.coefs i nought); number = own_number c.number },
)

-- collecting terms answers whether they fit, and what they make
pub collects : (n : ℕ) (c : Collected) (ts : List Term) → length c.coefs ≡ n → AllOf (IsSound n) ts → Answers n c ts (with_terms c ts)
collects n c [] size h = none_answers n c
collects n c (Times q j ∷ ts) size h =
    by_bool (is_nought (get_or c.coefs j nought))
    (λ e.
    let ih = collects n (record c { coefs = set c.coefs j q }) ts (length-set c.coefs j q ∙ size) h.1 in
    rw e (times_put n c size q j h.0.0 h.0.1 e ts (with_terms (record c { coefs = set c.coefs j q }) ts) ih))
    (λ e. rw e (twice n c q j ts h.0.0 e))
collects n c (Alone q ∷ ts) size h =
    by_bool (is_some c.number)
    (λ e. rw e (second n c q ts e))
    (λ e.
    let ih = collects n (record c { number = Some q }) ts size h.1 in
    rw e (alone_put_in n c q e ts (with_terms (record c { number = Some q }) ts) ih))
