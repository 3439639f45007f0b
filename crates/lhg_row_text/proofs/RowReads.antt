-- Which row do the tokens of a printed row give?
use Rattle.std.proofs.Common.{◌≡◌, ◌<◌, ◌≤◌, ◌+◌, ◌==◌, ℕ, suc, List, [], ◌∷◌, ◌++◌, length, map, refl, sym, ap, ◌∙◌, Bool, true, false, not, if◌then◌else◌, Some, arith, append_assoc, append-nil, ne_eqb, nat_le, codes}
use Rattle.std.specs.Prelude.{count_by}
use Rattle.std.specs.List.{list_all, list_any, range_with_len}
use Rattle.std.proofs.lemmas.Bool.{eqb-true}
use Rattle.std.proofs.lemmas.Bool.Decides.{nat_tests}
use Rattle.std.proofs.lemmas.List.{length-map}
use Rattle.std.proofs.lemmas.List.Folds.{list_all-append}
use Rattle.std.proofs.Math.Bool.{and-false}
use Rattle.lhg_math.specs.Number.{Number, neg, lt, nought}
use Rattle.lhg_math.specs.NumberOrder.{lt_irrefl, lt-nought_neg}
use Rattle.lhg_math.specs.NumberRing.{neg_neg, neg_nought}
use Rattle.lhg_math.specs.Signs.{is_nought, lead}
use Rattle.lhg_math.specs.SignLaws.{nought_is}
use Rattle.lhg_math.specs.Tests.{by_bool}
use Rattle.lhg_lex.specs.PlainToken.{PlainToken}
use Rattle.lhg_row.specs.Constant.{varies}
use Rattle.lhg_row.specs.Row.{PlainRow}
use Rattle.lhg_read.specs.Cut.{cut}
use Rattle.lhg_read.specs.Pair.{is_at, is_alone, factor_in, is_proper, row_of, rows_by, opposite_row, pair_rows, pair_of}
use Rattle.lhg_read.specs.Rows.{is_jump, constraint_of}
use Rattle.lhg_read.specs.Signs.{is_word, is_one_word, is_operator, operator_of}
use Rattle.lhg_read.specs.Term.{width}
use Rattle.lhg_read.specs.declared.forms.Form.{Form}
use Rattle.lhg_read.specs.declared.operators.Operator.{Operator}
use Rattle.lhg_read.specs.declared.operators.Operator.TheVariants.{Less, AtMost, AtLeast, Greater}
use Rattle.lhg_read.specs.declared.terms.Term.{Term}
use Rattle.lhg_read.specs.declared.terms.Term.TheVariants.{Times, Alone}
use Rattle.lhg_read.proofs.Collecting.{count-cons, same_eq}
use Rattle.lhg_row_text.specs.RowText.{turned, leads_negative}
use Rattle.lhg_row_text.proofs.Cutting.{all_fail, parted, cut-before, cut-marked}
use Rattle.lhg_row_text.proofs.RowTerms.{is_nought-turned}
use Rattle.lhg_row_text.proofs.RowTokens.{Axis, terms_tokens, operator_token, number_tokens, row_tokens_by, row_tokens}
use Rattle.lhg_row_text.proofs.SumReads.{SparesSums, terms_spared, number_spared, terms_at, ArePlaced, terms_sum, number_sum}

-- ---- the coefficients that the terms give

-- the terms of coefficients, and behind them a number alone
abbrev with_number : ℕ → List Number → Number → List Term
with_number k cs z = terms_at k cs ++ Alone z ∷ []

-- what stands before the first that passes does not count
factor_past : (test : Term → Bool) (before terms : List Term) → all_fail test before ≡ true → factor_in test (before ++ terms) ≡ factor_in test terms
factor_past test [] terms h = refl
factor_past test (t ∷ before) terms h =
    by_bool (test t)
    (λ e. let k = rw e at h in absurd cc)
    (λ e. let k = rw e at h in rw e (factor_past test before terms k))

other_place : (i k : ℕ) → i < k → (k == i) ≡ false
other_place i k h = ne_eqb k i (λ e. omega arith)

-- no term of a place before the first
factor_none : (i k : ℕ) (cs : List Number) (z : Number) → i < k → factor_in (is_at i) (with_number k cs z) ≡ nought
factor_none i k [] z h = refl
factor_none i k (c ∷ cs) z h =
    let more = factor_none i (k + 1) cs z (omega arith) in
    by_bool (is_nought c)
    (λ e. rw e more)
    (λ e. let o = other_place i k h in rw (e, o) more)

-- equal members in front of equal lists
pub cons_eq : {A : Type 0} {x y : A} {xs ys : List A} → x ≡ y → xs ≡ ys → (x ∷ xs) ≡ (y ∷ ys)
cons_eq {A} {x} {y} {xs} {ys} h k = ap (λ z. z ∷ xs) h ∙ ap (λ zs. y ∷ zs) k

-- one term more before, of another place
spared_more : (before : List Term) (c : Number) (k : ℕ) → ((i : ℕ) → k ≤ i → all_fail (is_at i) before ≡ true) → (i : ℕ) → k + 1 ≤ i → all_fail (is_at i) (before ++ Times c k ∷ []) ≡ true
spared_more before c k h i low =
    let b = h i (omega arith) in
    let o : (k == i) ≡ false = ne_eqb k i (λ e. omega arith) in
    list_all-append (λ t. not (is_at i t)) before (Times c k ∷ []) ∙ rw (b, o) refl

coefs_of : List Term → ℕ → ℕ → List Number
coefs_of terms k n = map (λ i. factor_in (is_at i) terms) (range_with_len k n)

-- each coefficient is found at its place
coefs_back : (before : List Term) (k : ℕ) (cs : List Number) (z : Number) → ((i : ℕ) → k ≤ i → all_fail (is_at i) before ≡ true) → coefs_of (before ++ with_number k cs z) k (length cs) ≡ cs
unfolding coefs_of
coefs_back before k [] z h = refl
coefs_back before k (c ∷ cs) z h =
    let n = suc (length cs) in
    by_bool (is_nought c)
    (λ e. let skipped : with_number k (c ∷ cs) z ≡ with_number (k + 1) cs z = rw e refl in
    ap (λ ts. coefs_of (before ++ ts) k n) skipped
    ∙ cons_eq
    (factor_past (is_at k) before (with_number (k + 1) cs z) (h k (omega arith)) ∙ factor_none k (k + 1) cs z (omega arith) ∙ sym (nought_is c e))
    (coefs_back before (k + 1) cs z (λ i low. h i (omega arith))))
    (λ e. let taken : with_number k (c ∷ cs) z ≡ Times c k ∷ with_number (k + 1) cs z = rw e refl in
    ap (λ ts. coefs_of (before ++ ts) k n) taken
    ∙ cons_eq
    (factor_past (is_at k) before (Times c k ∷ with_number (k + 1) cs z) (h k (omega arith)) ∙ (let s = same_eq k in rw s refl))
    (ap (λ ts. coefs_of ts (k + 1) (length cs)) (sym (append_assoc before (Times c k ∷ []) (with_number (k + 1) cs z)))
    ∙ coefs_back (before ++ Times c k ∷ []) (k + 1) cs z (spared_more before c k h)))

-- ---- the terms are proper

count_none : (i k : ℕ) (cs : List Number) (z : Number) → i < k → count_by (is_at i) (with_number k cs z) ≡ 0
count_none i k [] z h = refl
count_none i k (c ∷ cs) z h =
    let more = count_none i (k + 1) cs z (omega arith) in
    by_bool (is_nought c)
    (λ e. rw e more)
    (λ e. let o = other_place i k h in rw e (count-cons (is_at i) (Times c k) (with_number (k + 1) cs z) ∙ rw (o, more) refl))

count_one : (i k : ℕ) (cs : List Number) (z : Number) → count_by (is_at i) (with_number k cs z) ≤ 1
count_one i k [] z = omega arith
count_one i k (c ∷ cs) z =
    let more = count_one i (k + 1) cs z in
    by_bool (is_nought c)
    (λ e. rw e more)
    (λ e. let n = count-cons (is_at i) (Times c k) (with_number (k + 1) cs z) in
    by_bool (k == i)
    (λ s. let same = eqb-true k i s in let none = count_none i (k + 1) cs z (omega arith) in let m = rw (s, none) at n in rw e (omega (arith, m)))
    (λ s. let m = rw s at n in rw e (omega (arith, m, more))))

count_alone : (k : ℕ) (cs : List Number) (z : Number) → count_by is_alone (with_number k cs z) ≡ 1
count_alone k [] z = refl
count_alone k (c ∷ cs) z =
    let more = count_alone (k + 1) cs z in
    by_bool (is_nought c)
    (λ e. rw e more)
    (λ e. rw e (count-cons is_alone (Times c k) (with_number (k + 1) cs z) ∙ rw more refl))

some_variable : (k : ℕ) (cs : List Number) (z : Number) → lt nought (lead cs) ≡ true → list_any (λ term. not (is_alone term)) (with_number k cs z) ≡ true
some_variable k [] z h = let i = lt_irrefl nought in let k = rw i at h in absurd cc
some_variable k (c ∷ cs) z h =
    by_bool (is_nought c)
    (λ e. let l = rw e at h in rw e (some_variable (k + 1) cs z l))
    (λ e. rw e refl)

all_pass : (test : ℕ → Bool) (xs : List ℕ) → ((x : ℕ) → test x ≡ true) → list_all test xs ≡ true
all_pass test [] h = refl
all_pass test (x ∷ xs) h = let e = h x in rw e (all_pass test xs h)

le_test : (m n : ℕ) → m ≤ n → nat_le m n ≡ true
le_test m n h = grind (arith, nat_tests)

proper : (n : ℕ) (cs : List Number) (z : Number) → lt nought (lead cs) ≡ true → is_proper n (with_number 0 cs z) ≡ true
proper n cs z h =
    let each = all_pass (λ i. nat_le (count_by (is_at i) (with_number 0 cs z)) 1) (range_with_len 0 n) (λ i. le_test _ 1 (count_one i 0 cs z)) in
    let one = count_alone 0 cs z in
    let some = some_variable 0 cs z h in
    rw (each, one, some) refl

factor_alone : (k : ℕ) (cs : List Number) (z : Number) → factor_in is_alone (with_number k cs z) ≡ z
factor_alone k [] z = refl
factor_alone k (c ∷ cs) z =
    let more = factor_alone (k + 1) cs z in
    by_bool (is_nought c) (λ e. rw e more) (λ e. rw e more)

-- ---- the row

-- the operator of a printed row
abbrev pub operator_by : Bool → Bool → Operator
operator_by true true = Greater
operator_by true false = AtLeast
operator_by false true = Less
operator_by false false = AtMost

operator_read : (flip strict : Bool) → operator_of (operator_token flip strict) ≡ Some (operator_by flip strict)
operator_read true true = refl
operator_read true false = refl
operator_read false true = refl
operator_read false false = refl

-- a row by its parts
abbrev made : List Number → Bool → Number → PlainRow
made coefs strict bound = record { coefs = coefs; strict = strict; bound = bound }

row_back : (strict : Bool) (cs : List Number) (b : Number) → row_of (length cs) strict (with_number 0 cs (neg b)) ≡ made cs strict b
unfolding coefs_of
row_back strict cs b =
    ap (λ coefs. made coefs strict (neg (factor_in is_alone (with_number 0 cs (neg b))))) (coefs_back [] 0 cs (neg b) (λ i low. refl))
    ∙ ap (λ z. made cs strict z) (ap neg (factor_alone 0 cs (neg b)) ∙ neg_neg b)

-- the rows of a printed pair: the one row, turned back
turned_back : Bool → PlainRow → PlainRow
turned_back flip r = if flip then opposite_row r else r

rows_back : (flip strict : Bool) (cs : List Number) (b : Number) → rows_by (operator_by flip strict) (λ s. row_of (length cs) s (with_number 0 cs (neg b))) ≡ turned_back flip (made cs strict b) ∷ []
unfolding turned_back
rows_back true true cs b = ap (λ r. opposite_row r ∷ []) (row_back true cs b)
rows_back true false cs b = ap (λ r. opposite_row r ∷ []) (row_back false cs b)
rows_back false true cs b = ap (λ r. r ∷ []) (row_back true cs b)
rows_back false false cs b = ap (λ r. r ∷ []) (row_back false cs b)

pair_back : (flip strict : Bool) (cs : List Number) (b : Number) → lt nought (lead cs) ≡ true → pair_rows (length cs) (operator_by flip strict) (terms_at 0 cs) (Alone b ∷ []) ≡ Some (turned_back flip (made cs strict b) ∷ [])
pair_back flip strict cs b above = let p = proper (length cs) cs (neg b) above in rw p (ap (λ rows. Some rows) (rows_back flip strict cs b))

map_same : (xs : List Number) → map (turned false) xs ≡ xs
map_same [] = refl
map_same (x ∷ xs) = ap (λ ys. x ∷ ys) (map_same xs)

map_back : (xs : List Number) → map neg (map (turned true) xs) ≡ xs
map_back [] = refl
map_back (x ∷ xs) = cons_eq (neg_neg x) (map_back xs)

row_again : (flip : Bool) (r : PlainRow) → turned_back flip (made (map (turned flip) r.coefs) r.strict (turned flip r.bound)) ≡ r
unfolding turned_back
row_again true r = ap (λ coefs. made coefs r.strict (neg (neg r.bound))) (map_back r.coefs) ∙ ap (made r.coefs r.strict) (neg_neg r.bound)
row_again false r = ap (λ coefs. made coefs r.strict r.bound) (map_same r.coefs)

-- ---- the leading coefficient

turned_nought : (flip : Bool) → turned flip nought ≡ nought
turned_nought true = neg_nought
turned_nought false = refl

lead-turned : (flip : Bool) (cs : List Number) → lead (map (turned flip) cs) ≡ turned flip (lead cs)
lead-turned flip [] = sym (turned_nought flip)
lead-turned flip (c ∷ cs) =
    let s = is_nought-turned flip c in
    by_bool (is_nought c)
    (λ e. let t = s ∙ e in rw (e, t) (lead-turned flip cs))
    (λ e. let t = s ∙ e in rw (e, t) refl)

positive_by : (flip : Bool) (x : Number) → lt x nought ≡ flip → is_nought x ≡ false → lt nought (turned flip x) ≡ true
positive_by true x h some = lt-nought_neg x ∙ h
positive_by false x h some = by_bool (lt nought x) (λ e. e) (λ e. let k = rw (h, e) at some in absurd cc)

-- once a row is turned its leading coefficient is positive
lead_positive : (r : PlainRow) → varies r ≡ true → lt nought (lead (map (turned (leads_negative r)) r.coefs)) ≡ true
lead_positive r h =
    let some : is_nought (lead r.coefs) ≡ false = by_bool (is_nought (lead r.coefs)) (λ e. let k = rw e at h in absurd cc) (λ e. e) in
    ap (lt nought) (lead-turned (leads_negative r) r.coefs) ∙ positive_by (leads_negative r) (lead r.coefs) refl some

-- ---- the constraint

no_operator : SparesSums is_operator
no_operator = record { terms = record { word = λ w. refl; number = λ q. refl; prime = refl; times = refl }; plus = refl; minus = refl }

operator_passes : (flip strict : Bool) → is_operator (operator_token flip strict) ≡ true
operator_passes true true = refl
operator_passes true false = refl
operator_passes false true = refl
operator_passes false false = refl

-- an operator is no word
pub operator_no_word : (w : List ℕ) (flip strict : Bool) → is_word w (operator_token flip strict) ≡ false
operator_no_word w true true = refl
operator_no_word w true false = refl
operator_no_word w false true = refl
operator_no_word w false false = refl

-- tokens with an operator among them are no one word
pub no_one_word : (w : List ℕ) (before : List PlainToken) (o : PlainToken) (behind : List PlainToken) → is_word w o ≡ false → is_one_word w (before ++ (o ∷ behind)) ≡ false
no_one_word w [] o [] h = h
no_one_word w [] o (x ∷ behind) h = refl
no_one_word w (x ∷ []) o behind h = refl
no_one_word w (x ∷ y ∷ before) o behind h = refl

row_cut : (flip strict : Bool) (terms tokens : List PlainToken) → all_fail is_operator terms ≡ true → all_fail is_operator tokens ≡ true
    → cut is_operator (terms ++ (operator_token flip strict ∷ tokens)) ≡ parted terms ((operator_token flip strict, tokens) ∷ [])
row_cut flip strict terms tokens h k =
    let o = operator_token flip strict in
    let behind = cut-marked is_operator o tokens [] [] (operator_passes flip strict) k refl in
    cut-before is_operator terms (o ∷ tokens) ((o, tokens) ∷ []) h (ap (λ ts. cut is_operator (o ∷ ts)) (sym (append-nil tokens)) ∙ behind)

-- a row over the variables of a form, with a coefficient that is not zero
pub record IsRowOf (form : Form) (vars : List (List ℕ)) (r : PlainRow) : Type 0 where
  pub wide : length r.coefs ≡ width form vars
  pub some : varies r ≡ true

-- the variables of a form, in order
pub record AreAxes (form : Form) (vars : List (List ℕ)) (axes : List Axis) : Type 0 where
  pub places : ArePlaced form vars 0 axes
  pub count : length axes ≡ width form vars

module _ (form : Form) (vars : List (List ℕ)) (axes : List Axis) (placed : AreAxes form vars axes) where
  pair_by : (flip : Bool) (r : PlainRow) → lt nought (lead (map (turned flip) r.coefs)) ≡ true → length r.coefs ≡ width form vars
      → pair_of form vars (terms_tokens axes (map (turned flip) r.coefs)) (operator_token flip r.strict) (number_tokens (turned flip r.bound)) ≡ Some (r ∷ [])
  unfolding pair_of
  pair_by flip r above wide =
      let cs = map (turned flip) r.coefs in
      let size : length cs ≡ length r.coefs = length-map r.coefs (turned flip) in
      let n : width form vars ≡ length cs = sym wide ∙ sym size in
      let o = operator_read flip r.strict in
      let a = terms_sum form vars axes cs 0 above (placed.count ∙ n) placed.places in
      let b = number_sum form vars (turned flip r.bound) in
      rw (o, a, b, n) (pair_back flip r.strict cs (turned flip r.bound) above ∙ ap (λ s. Some (s ∷ [])) (row_again flip r))

  constraint_by : (flip : Bool) (r : PlainRow) → lt nought (lead (map (turned flip) r.coefs)) ≡ true → length r.coefs ≡ width form vars → constraint_of form vars (row_tokens_by flip axes r) ≡ Some (r ∷ [])
  unfolding constraint_of
  constraint_by flip r above wide =
      let terms = terms_tokens axes (map (turned flip) r.coefs) in
      let number = number_tokens (turned flip r.bound) in
      let o = operator_token flip r.strict in
      let k = no_one_word (codes "keep") terms o number (operator_no_word (codes "keep") flip r.strict) in
      let c = row_cut flip r.strict terms number (terms_spared is_operator axes (map (turned flip) r.coefs) no_operator) (number_spared is_operator (turned flip r.bound) no_operator) in
      rw (k, and-false (is_jump form), c) (pair_by flip r above wide)

  -- the tokens of a printed row are a constraint whose one row is this
  pub constraint_reads : (r : PlainRow) → IsRowOf form vars r → constraint_of form vars (row_tokens axes r) ≡ Some (r ∷ [])
  constraint_reads r h = constraint_by (leads_negative r) r (lead_positive r h.some) h.wide
