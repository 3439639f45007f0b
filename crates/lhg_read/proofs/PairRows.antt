-- The rows of a pair are those of its terms, put one after another.
use Rattle.std.proofs.Common.{◌≡◌, ◌<◌, ◌≤◌, ◌+◌, ◌==◌, ℕ, zero, suc, List, [], ◌∷◌, ◌++◌, length, map, refl, sym, ap, ◌∙◌, subst, Bool, true, false, not, cond, ◌&&◌, arith, get_or, Option, Some, None, nat_le}
use Rattle.std.specs.Prelude.{count_by}
use Rattle.std.specs.List.{list_all, list_any, range_with_len}
use Rattle.std.specs.Option.{option_and_then, unwrap_or}
use Rattle.std.proofs.lemmas.List.{length-replicate}
use Rattle.std.proofs.lemmas.List.Folds.{list_any_at, list_any_none}
use Rattle.std.proofs.lemmas.List.FromFn.{fill_by_all}
use Rattle.std.proofs.lemmas.Bool.{eqb-true, and_parts}
use Rattle.std.proofs.lemmas.Bool.Decides.{nat_tests}
use Rattle.lhg_math.specs.Number.{Number, neg, nought}
use Rattle.lhg_math.specs.Signs.{is_nought}
use Rattle.lhg_math.specs.SignLaws.{is_nought-nought}
use Rattle.lhg_math.specs.Tests.{AllOf, by_bool}
use Rattle.lhg_row.specs.Row.{PlainRow}
use Rattle.lhg_row.specs.NothingLaws.{noughts-get_or}
use Rattle.lhg_read.specs.Sum.{opposite}
use Rattle.lhg_read.specs.Pair.{is_at, is_alone, factor_in, is_proper, row_of, rows_by, pair_rows, opposite_row}
use Rattle.lhg_read.specs.Collect.{Collected, none_of, with_terms, has_variable, row_from, rows_from}
use Rattle.lhg_read.specs.declared.operators.Operator.{Operator}
use Rattle.lhg_read.specs.declared.operators.Operator.TheVariants.{Less, AtMost, Equal, AtLeast, Greater}
use Rattle.lhg_read.specs.declared.terms.Term.{Term}
use Rattle.lhg_read.specs.declared.terms.Term.TheVariants.{Times, Alone}
use Rattle.lhg_read.proofs.Collecting.{IsSound, Fit, Make, Answers, collects, seen, same_eq, count-cons}

-- ---- tests over a range of numbers

range_all : (f : ℕ → Bool) (a n : ℕ) → ((i : ℕ) → a ≤ i → i < a + n → f i ≡ true) → list_all f (range_with_len a n) ≡ true
range_all f a zero h = refl
range_all f a (suc n) h = rw (h a (omega arith) (omega arith)) (range_all f (a + 1) n (λ i low high. h i (omega arith) (omega arith)))

range_each : (f : ℕ → Bool) (a n i : ℕ) → list_all f (range_with_len a n) ≡ true → a ≤ i → i < a + n → f i ≡ true
range_each f a zero i h low high = absurd (omega arith)
range_each f a (suc n) i h low high =
    let k = and_parts (f a) (list_all f (range_with_len (a + 1) n)) h in
    by_bool (a == i)
    (λ e. let s : a ≡ i = eqb-true a i e in subst (λ (m : ℕ). f m ≡ true) s k.0)
    (λ e. range_each f (a + 1) n i k.1 (grind (arith, nat_tests, e)) (omega arith))

-- ---- terms of variables

-- where a term of a variable is, its factor is not 0
found_factor : (n j : ℕ) (ts : List Term) → AllOf (IsSound n) ts → 0 < count_by (is_at j) ts → is_nought (factor_in (is_at j) ts) ≡ false
found_factor n j [] sound h = absurd (omega arith)
found_factor n j (Times q i ∷ ts) sound h =
    by_bool (i == j)
    (λ e. rw e sound.0.1)
    (λ e. rw e (found_factor n j ts sound.1 (let k : count_by (is_at j) (Times q i ∷ ts) ≡ 0 + count_by (is_at j) ts = count-cons (is_at j) (Times q i) ts ∙ ap (λ b. cond b 1 0 + count_by (is_at j) ts) e in omega (arith, k, h))))
found_factor n j (Alone q ∷ ts) sound h = found_factor n j ts sound.1 (let k = count-cons (is_at j) (Alone q) ts in omega (arith, k, h))

-- where some term is no number, a variable has a factor that is not 0
pub some_variable : (n : ℕ) (ts : List Term) → AllOf (IsSound n) ts → list_any (λ term. not (is_alone term)) ts ≡ true → (j : ℕ) × (j < n) × (is_nought (factor_in (is_at j) ts) ≡ false)
some_variable n [] sound e = absurd cc
some_variable n (Times q i ∷ ts) sound e =
    (i, sound.0.0, found_factor n i (Times q i ∷ ts) sound (let k : count_by (is_at i) (Times q i ∷ ts) ≡ 1 + count_by (is_at i) ts = count-cons (is_at i) (Times q i) ts ∙ ap (λ b. cond b 1 0 + count_by (is_at i) ts) (same_eq i) in omega (arith, k)))
some_variable n (Alone q ∷ ts) sound e =
    let v = some_variable n ts sound.1 e in
    (v.0, v.1, v.2)

-- where all terms are numbers, no variable has a factor
no_variable : (i : ℕ) (ts : List Term) → list_any (λ term. not (is_alone term)) ts ≡ false → factor_in (is_at i) ts ≡ nought
no_variable i [] e = refl
no_variable i (Times q j ∷ ts) e = absurd cc
no_variable i (Alone q ∷ ts) e = no_variable i ts e

-- rows by an operator are told by the weak and the strict row
same_rows : (op : Operator) (f g : Bool → PlainRow) → f true ≡ g true → f false ≡ g false → rows_by op f ≡ rows_by op g
same_rows Less f g s w = ap (λ r. r ∷ []) s
same_rows AtMost f g s w = ap (λ r. r ∷ []) w
same_rows Equal f g s w = ap (λ r. r ∷ opposite_row r ∷ []) w
same_rows AtLeast f g s w = ap (λ r. opposite_row r ∷ []) w
same_rows Greater f g s w = ap (λ r. opposite_row r ∷ []) s

-- ---- a collection that began with no term

none_factor : (n i : ℕ) → is_nought (get_or (none_of n).coefs i nought) ≡ true
none_factor n i = ap is_nought (noughts-get_or n i) ∙ is_nought-nought

module _ (n : ℕ) (ts : List Term) where
  none_seen : (i : ℕ) → seen (none_of n) i ≡ 0
  none_seen i = ap (λ b. cond b 0 1) (none_factor n i)

  -- with the terms of which no variable occurs twice and no second number
  occurs_once : Fit n (none_of n) ts → list_all (λ i. nat_le (count_by (is_at i) ts) 1) (range_with_len 0 n) ≡ true
  occurs_once f = range_all (λ i. nat_le (count_by (is_at i) ts) 1) 0 n (λ i low high. let o = f.once i (omega arith) in let s = none_seen i in let k : count_by (is_at i) ts ≤ 1 = omega (arith, o, s) in grind (arith, nat_tests, k))

  one_alone : Fit n (none_of n) ts → nat_le (count_by is_alone ts) 1 ≡ true
  one_alone f = let o = f.alone in grind (arith, nat_tests, o)

  -- and the other way round
  fits : is_proper n ts ≡ true → Fit n (none_of n) ts
  fits h =
      let k = and_parts (list_all (λ i. nat_le (count_by (is_at i) ts) 1) (range_with_len 0 n)) (nat_le (count_by is_alone ts) 1 && list_any (λ term. not (is_alone term)) ts) h in
      let l = and_parts (nat_le (count_by is_alone ts) 1) (list_any (λ term. not (is_alone term)) ts) k.1 in
      record {
        once = λ i below. let o = range_each (λ i. nat_le (count_by (is_at i) ts) 1) 0 n i k.0 (omega arith) (omega arith) in let s = none_seen i in let m : count_by (is_at i) ts ≤ 1 = grind (arith, nat_tests, o) in omega (arith, m, s);
        alone = grind (arith, nat_tests, l.0);
      }

  module _ (d : Collected) (m : Make n (none_of n) ts d) where
    factor_is : (i : ℕ) → i < n → get_or d.coefs i nought ≡ factor_in (is_at i) ts
    factor_is i h = m.factor i h ∙ ap (λ b. cond b (factor_in (is_at i) ts) (get_or (none_of n).coefs i nought)) (none_factor n i)

    long_is : length d.coefs ≡ n
    long_is = m.long ∙ length-replicate n nought

    -- the row of the collection is that of the terms
    row_is : (strict : Bool) → row_of n strict ts ≡ row_from d strict
    row_is strict =
        let coefs : d.coefs ≡ map (λ i. factor_in (is_at i) ts) (range_with_len 0 n) = fill_by_all (λ i. factor_in (is_at i) ts) d.coefs n nought long_is factor_is in
        let bound : unwrap_or d.number nought ≡ factor_in is_alone ts = m.number in
        same_row (map (λ i. factor_in (is_at i) ts) (range_with_len 0 n)) d.coefs strict (neg (factor_in is_alone ts)) (neg (unwrap_or d.number nought)) (sym coefs) (ap neg (sym bound))
      where
        same_row : (a b : List Number) (strict : Bool) (p q : Number) → a ≡ b → p ≡ q → (let r : PlainRow = record { coefs = a; strict = strict; bound = p } in let s : PlainRow = record { coefs = b; strict = strict; bound = q } in r ≡ s)
        same_row a b strict p q e f = cc

    -- some variable has occurred exactly where one is among the terms
    variable_is : AllOf (IsSound n) ts → has_variable d ≡ list_any (λ term. not (is_alone term)) ts
    variable_is sound =
        by_bool (list_any (λ term. not (is_alone term)) ts)
        (λ e.
        let v = some_variable n ts sound e in
        let here : not (is_nought (get_or d.coefs v.0 nought)) ≡ true = ap (λ x. not (is_nought x)) (factor_is v.0 v.1) ∙ ap not v.2 in
        list_any_at (λ q. not (is_nought q)) d.coefs v.0 nought (omega (arith, v.1, long_is)) here ∙ sym e)
        (λ e.
        list_any_none (λ q. not (is_nought q)) d.coefs
        (λ k x lt. all_at d.coefs k x lt (factor_is k (omega (arith, lt, long_is)) ∙ no_variable k ts e))
        ∙ sym e)
      where
        all_at : (xs : List Number) (k : ℕ) (x : Number) → k < length xs → get_or xs k nought ≡ nought → not (is_nought (get_or xs k x)) ≡ false
        all_at [] k x lt e = absurd (omega arith)
        all_at (y ∷ xs) zero x lt e = ap (λ z. not (is_nought z)) e ∙ ap not is_nought-nought
        all_at (y ∷ xs) (suc k) x lt e = all_at xs k x (omega arith) e

-- the rows that a collection gives, where it is none or some
answer_rows : (n : ℕ) (op : Operator) (ts : List Term) (o : Option Collected) → AllOf (IsSound n) ts → Answers n (none_of n) ts o
    → cond (is_proper n ts) (Some (rows_by op (λ strict. row_of n strict ts))) None ≡ option_and_then (rows_from op) o
answer_rows n op ts None sound a = by_bool (is_proper n ts) (λ e. absurd (a (fits n ts e))) (λ e. rw e refl)
answer_rows n op ts (Some d) sound a =
    let once = occurs_once n ts a.0 in
    let alone = one_alone n ts a.0 in
    let proper : is_proper n ts ≡ has_variable d = rw (once, alone) (sym (variable_is n ts d a.1 sound)) in
    rw proper (ap (λ rows. cond (has_variable d) (Some rows) None) (same_rows op (λ strict. row_of n strict ts) (row_from d) (row_is n ts d a.1 true) (row_is n ts d a.1 false)))

-- the rows of a pair are those of its terms, put one after another
pub pair_collected : (n : ℕ) (op : Operator) (a b : List Term) → AllOf (IsSound n) (a ++ map opposite b)
    → pair_rows n op a b ≡ option_and_then (rows_from op) (with_terms (none_of n) (a ++ map opposite b))
pair_collected n op a b sound = answer_rows n op (a ++ map opposite b) (with_terms (none_of n) (a ++ map opposite b)) sound (collects n (none_of n) (a ++ map opposite b) (length-replicate n nought) sound)
