-- The rows of a line have one coefficient for each variable, of which one is not 0, and they are not too many.
use Rattle.std.proofs.Common.{◌≡◌, ◌<◌, ◌≤◌, ◌+◌, ℕ, zero, suc, List, [], ◌∷◌, ◌++◌, length, map, get_or, refl, sym, ap, ◌∙◌, subst, Bool, true, false, not, cond, ◌&&◌, Option, Some, arith, length-append, nat_le, codes, replicate}
use Rattle.std.specs.List.{list_any}
use Rattle.std.specs.Option.{option_and_then}
use Rattle.std.proofs.lemmas.Bool.Decides.{nat_tests}
use Rattle.std.proofs.lemmas.List.{length-map, length-replicate}
use Rattle.std.proofs.lemmas.List.FromFn.{length-map-range_with_len, get_or-map-range_with_len}
use Rattle.std.proofs.lemmas.Option.{none-some, same_Some, cond_some, option_and_then_some}
use Rattle.std.proofs.lemmas.Bool.{and_parts}
use Rattle.lhg_math.specs.Number.{Number, neg, nought, unit}
use Rattle.lhg_math.specs.Signs.{is_nought, lead}
use Rattle.lhg_math.specs.SignLaws.{is_nought-nought, is_nought-neg}
use Rattle.lhg_math.specs.Tests.{AllOf, Every, by_bool}
use Rattle.lhg_row.specs.Constant.{varies}
use Rattle.lhg_row.specs.Row.{PlainRow}
use Rattle.lhg_row.specs.Piece.{PlainPiece}
use Rattle.lhg_row.specs.Width.{AllWide}
use Rattle.lhg_plant.specs.Proper.{IsLine}
use Rattle.lhg_plant.specs.Still.{axis, still_from, still_rows}
use Rattle.lhg_plant.specs.Limits.{most_variables}
use Rattle.lhg_lex.specs.PlainToken.{PlainToken}
use Rattle.lhg_read.specs.Cut.{cut, parts_of}
use Rattle.lhg_read.specs.Options.{joined}
use Rattle.lhg_read.specs.Keep.{change_row, keep_from, keep_rows}
use Rattle.lhg_read.specs.Pair.{factor_in, is_at, is_alone, is_proper, row_of, opposite_row, rows_by, pair_rows, pair_of}
use Rattle.lhg_read.specs.Rows.{is_flow, is_jump, chain_of, constraint_of, constraints_of, within_limit, list_of, rows_of}
use Rattle.lhg_read.specs.Signs.{operator_of, is_operator, is_one_word, is_comma}
use Rattle.lhg_read.specs.Sum.{sum_of, opposite}
use Rattle.lhg_read.specs.Term.{width}
use Rattle.lhg_read.specs.declared.forms.Form.{Form}
use Rattle.lhg_read.specs.declared.forms.Form.TheVariants.{Plain, Flow, Jump}
use Rattle.lhg_read.specs.declared.operators.Operator.{Operator}
use Rattle.lhg_read.specs.declared.operators.Operator.TheVariants.{Less, AtMost, Equal, AtLeast, Greater}
use Rattle.lhg_read.specs.declared.terms.Term.{Term}
use Rattle.lhg_read.proofs.Answered.{both_joined}
use Rattle.lhg_read.proofs.Collecting.{IsSound}
use Rattle.lhg_read.proofs.PairRows.{some_variable}
use Rattle.lhg_read.proofs.PairSteps.{Of, sum_sound, all_opposite, unit_sound}
use Rattle.lhg_row.specs.Members.{all-append}

-- n coefficients, of which one is not 0
pub record IsFull (n : ℕ) (r : PlainRow) : Type 0 where
  pub wide : length r.coefs ≡ n
  pub varies : varies r ≡ true

-- the rows of one line, as they are read
pub record AreRead (n : ℕ) (rows : PlainPiece) : Type 0 where
  pub line : IsLine n rows
  pub vary : Every varies rows

read_rows : (n : ℕ) (rows : PlainPiece) → AllOf (IsFull n) rows → length rows ≤ 64 → AreRead n rows
read_rows n rows h few = record { line = record { wide = all_wide rows h; few = few }; vary = all_vary rows h }
  where
    all_wide : (rows : PlainPiece) → AllOf (IsFull n) rows → AllWide n rows
    all_wide [] h = tt
    all_wide (r ∷ rows) h = (h.0.wide, all_wide rows h.1)

    all_vary : (rows : PlainPiece) → AllOf (IsFull n) rows → Every varies rows
    all_vary [] h = tt
    all_vary (r ∷ rows) h = (h.0.varies, all_vary rows h.1)

-- ---- leading coefficients

-- where some coefficient is not 0 the leading one is not
lead_some : (xs : List Number) (j : ℕ) → j < length xs → is_nought (get_or xs j nought) ≡ false → is_nought (lead xs) ≡ false
lead_some [] j h e = absurd (omega arith)
lead_some (x ∷ xs) zero h e = ap (λ b. is_nought (cond b (lead xs) x)) e ∙ e
lead_some (x ∷ xs) (suc j) h e =
    by_bool (is_nought x)
    (λ t. ap (λ b. is_nought (cond b (lead xs) x)) t ∙ lead_some xs j (omega arith) e)
    (λ t. ap (λ b. is_nought (cond b (lead xs) x)) t ∙ t)

lead-append : (xs ys : List Number) → is_nought (lead xs) ≡ false → is_nought (lead (xs ++ ys)) ≡ false
lead-append [] ys e = absurd (let k = sym is_nought-nought ∙ e in cc)
lead-append (x ∷ xs) ys e =
    by_bool (is_nought x)
    (λ t. ap (λ b. is_nought (cond b (lead (xs ++ ys)) x)) t ∙ lead-append xs ys (ap (λ b. is_nought (cond b (lead xs) x)) (sym t) ∙ e))
    (λ t. ap (λ b. is_nought (cond b (lead (xs ++ ys)) x)) t ∙ t)

lead-neg : (xs : List Number) → is_nought (lead (map neg xs)) ≡ is_nought (lead xs)
lead-neg [] = refl
lead-neg (x ∷ xs) =
    by_bool (is_nought x)
    (λ t. ap (λ b. is_nought (cond b (lead (map neg xs)) (neg x))) (is_nought-neg x ∙ t) ∙ lead-neg xs ∙ ap (λ b. is_nought (cond b (lead xs) x)) (sym t))
    (λ t. ap (λ b. is_nought (cond b (lead (map neg xs)) (neg x))) (is_nought-neg x ∙ t) ∙ is_nought-neg x ∙ ap (λ b. is_nought (cond b (lead xs) x)) (sym t))

-- ---- rows of stillness and of `keep`

axis-length : (n v : ℕ) (c : Number) → length (axis n v c) ≡ n
axis-length zero v c = refl
axis-length (suc n) zero c = ap suc (length-replicate n nought)
axis-length (suc n) (suc v) c = ap suc (axis-length n v c)

axis-lead : (n v : ℕ) (c : Number) → v < n → is_nought c ≡ false → is_nought (lead (axis n v c)) ≡ false
axis-lead zero v c h e = absurd (omega arith)
axis-lead (suc n) zero c h e = ap (λ b. is_nought (cond b (lead (replicate n nought)) c)) e ∙ e
axis-lead (suc n) (suc v) c h e = ap (λ b. is_nought (cond b (lead (axis n v c)) nought)) is_nought-nought ∙ axis-lead n v c (omega arith) e

minus_unit : is_nought (neg unit) ≡ false
minus_unit = is_nought-neg unit ∙ unit_sound

axis_full : (n v : ℕ) (c : Number) → v < n → is_nought c ≡ false → IsFull n (record { coefs = axis n v c; strict = false; bound = nought })
axis_full n v c h e = record { wide = axis-length n v c; varies = ap not (axis-lead n v c h e) }

still_full : (n v m : ℕ) → v + m ≤ n → AllOf (IsFull n) (still_from n v m)
still_full n v zero h = tt
still_full n v (suc m) h = (axis_full n v unit (omega arith) unit_sound, (axis_full n v (neg unit) (omega arith) minus_unit, still_full n (suc v) m (omega arith)))

still_count : (n v m : ℕ) → length (still_from n v m) ≡ m + m
still_count n v zero = refl
still_count n v (suc m) = let k = still_count n (suc v) m in omega (arith, k)

-- `still` of not too many variables
pub still_read : (n : ℕ) → n ≤ most_variables → AreRead n (still_rows n)
still_read n h = read_rows n (still_rows n) (still_full n zero n (omega arith)) (let k = still_count n zero n in omega (arith, k, h))

change_full : (n v : ℕ) (a b : Number) → v < n → is_nought a ≡ false → IsFull (n + n) (change_row n v a b)
change_full n v a b h e = record {
  wide = let k = length-append (axis n v a) (axis n v b) in omega (arith, k, axis-length n v a, axis-length n v b);
  varies = ap not (lead-append (axis n v a) (axis n v b) (axis-lead n v a h e));
}

keep_full : (n v m : ℕ) → v + m ≤ n → AllOf (IsFull (n + n)) (keep_from n v m)
keep_full n v zero h = tt
keep_full n v (suc m) h = (change_full n v (neg unit) unit (omega arith) minus_unit, (change_full n v unit (neg unit) (omega arith) unit_sound, keep_full n (suc v) m (omega arith)))

-- ---- the rows of a pair

opposite_full : (n : ℕ) (r : PlainRow) → IsFull n r → IsFull n (opposite_row r)
opposite_full n r h = record { wide = length-map r.coefs neg ∙ h.wide; varies = ap not (lead-neg r.coefs) ∙ h.varies }

by_full : (n : ℕ) (op : Operator) (row : Bool → PlainRow) → ((strict : Bool) → IsFull n (row strict)) → AllOf (IsFull n) (rows_by op row)
by_full n AtMost row h = (h false, tt)
by_full n Less row h = (h true, tt)
by_full n AtLeast row h = (opposite_full n (row false) (h false), tt)
by_full n Greater row h = (opposite_full n (row true) (h true), tt)
by_full n Equal row h = (h false, (opposite_full n (row false) (h false), tt))

row_full : (n : ℕ) (terms : List Term) → AllOf (IsSound n) terms → list_any (λ term. not (is_alone term)) terms ≡ true → (strict : Bool) → IsFull n (row_of n strict terms)
row_full n terms sound some strict =
    let v = some_variable n terms sound some in
    let long = length-map-range_with_len (λ i. factor_in (is_at i) terms) 0 n in
    let here : get_or (row_of n strict terms).coefs v.0 nought ≡ factor_in (is_at v.0) terms = get_or-map-range_with_len (λ i. factor_in (is_at i) terms) 0 n v.0 v.0 nought v.1 (omega arith) in
    record { wide = long; varies = ap not (lead_some (row_of n strict terms).coefs v.0 (omega (arith, v.1, long)) (ap is_nought here ∙ v.2)) }

pair_full : (n : ℕ) (op : Operator) (a b : List Term) (rows : PlainPiece) → AllOf (IsSound n) a → AllOf (IsSound n) b → pair_rows n op a b ≡ Some rows → AllOf (IsFull n) rows
pair_full n op a b rows h k e =
    let terms = a ++ map opposite b in
    let c = cond_some (is_proper n terms) (rows_by op (λ strict. row_of n strict terms)) rows e in
    let proper = and_parts _ _ c.0 in
    let some = and_parts _ _ proper.1 in
    subst (λ r. AllOf (IsFull n) r) c.1 (by_full n op (λ strict. row_of n strict terms) (row_full n terms (all-append (IsSound n) a (map opposite b) h (all_opposite n b k)) some.1))

-- ---- constraints

-- the rows are full where they are there
abbrev Full : ℕ → Option PlainPiece → Type 0
Full n o = (rows : PlainPiece) → o ≡ Some rows → AllOf (IsFull n) rows

sound_sum : (form : Form) (vars : List (List ℕ)) (tokens : List PlainToken) (terms : List Term) → sum_of form vars tokens ≡ Some terms → AllOf (IsSound (width form vars)) terms
sound_sum form vars tokens terms e = subst (λ o. Of (AllOf (IsSound (width form vars))) o) e (sum_sound form vars tokens)

pair_read : (form : Form) (vars : List (List ℕ)) (a : List PlainToken) (op : PlainToken) (b : List PlainToken) → Full (width form vars) (pair_of form vars a op b)
unfolding pair_of
pair_read form vars a op b rows e =
    option_and_then_some _ (operator_of op) rows e
    (λ o is f. option_and_then_some _ (sum_of form vars a) rows f
    (λ x left g. option_and_then_some _ (sum_of form vars b) rows g
    (λ y right k. pair_full (width form vars) o x y rows (sound_sum form vars a x left) (sound_sum form vars b y right) k)))

joined_full : (n : ℕ) (a b : Option PlainPiece) → Full n a → Full n b → Full n (joined a b)
joined_full n a b f g rows e =
    let p = both_joined a b rows e in
    subst (λ r. AllOf (IsFull n) r) p.4 (all-append (IsFull n) p.0 p.1 (f p.0 p.2) (g p.1 p.3))

chain_full : (form : Form) (vars : List (List ℕ)) (a : List PlainToken) (others : List (PlainToken × List PlainToken)) → Full (width form vars) (chain_of form vars a others)
chain_full form vars a [] rows e = absurd (none-some rows e)
chain_full form vars a (b ∷ []) rows e = pair_read form vars a b.0 b.1 rows e
chain_full form vars a (b ∷ c ∷ []) rows e = joined_full (width form vars) (pair_of form vars a b.0 b.1) (pair_of form vars b.1 c.0 c.1) (pair_read form vars a b.0 b.1) (pair_read form vars b.1 c.0 c.1) rows e
chain_full form vars a (b ∷ c ∷ d ∷ more) rows e = absurd (none-some rows e)

jump_keep : (form : Form) (vars : List (List ℕ)) → is_jump form ≡ true → AllOf (IsFull (width form vars)) (keep_rows (length vars))
jump_keep Plain vars e = absurd cc
jump_keep Flow vars e = absurd cc
jump_keep Jump vars e = keep_full (length vars) zero (length vars) (omega arith)

constraint_full : (form : Form) (vars : List (List ℕ)) (tokens : List PlainToken) → Full (width form vars) (constraint_of form vars tokens)
unfolding constraint_of
constraint_full form vars tokens rows e =
    by_bool (is_jump form && is_one_word (codes "keep") tokens)
    (λ t. let k : Some (keep_rows (length vars)) ≡ Some rows = rw t at e in subst (λ r. AllOf (IsFull (width form vars)) r) (same_Some _ rows k) (jump_keep form vars (and_parts (is_jump form) _ t).0))
    (λ t. let k : chain_of form vars (cut is_operator tokens).first (cut is_operator tokens).others ≡ Some rows = rw t at e in chain_full form vars (cut is_operator tokens).first (cut is_operator tokens).others rows k)

constraints_full : (form : Form) (vars : List (List ℕ)) (parts : List (List PlainToken)) → Full (width form vars) (constraints_of form vars parts)
constraints_full form vars [] rows e = subst (λ r. AllOf (IsFull (width form vars)) r) (same_Some [] rows e) tt
constraints_full form vars (part ∷ parts) rows e =
    joined_full (width form vars) (constraint_of form vars part) (constraints_of form vars parts) (constraint_full form vars part) (constraints_full form vars parts) rows e

-- ---- lines

limited : (n : ℕ) (o : Option PlainPiece) (rows : PlainPiece) → Full n o → option_and_then within_limit o ≡ Some rows → AreRead n rows
limited n o rows f e =
    option_and_then_some within_limit o rows e
    (λ x is k.
    let c = cond_some (nat_le (length x) 64) x rows k in
    subst (λ r. AreRead n r) c.1 (read_rows n x (f x is) (let t = c.0 in grind (arith, nat_tests, t))))

flow_still : (form : Form) (vars : List (List ℕ)) → is_flow form ≡ true → length vars ≤ most_variables → AreRead (width form vars) (still_rows (length vars))
flow_still Plain vars e h = absurd cc
flow_still Flow vars e h = still_read (length vars) h
flow_still Jump vars e h = absurd cc

-- rows that a line gives, over not too many variables
pub rows_read : (form : Form) (vars : List (List ℕ)) (tokens : List PlainToken) (rows : PlainPiece) → length vars ≤ most_variables → rows_of form vars tokens ≡ Some rows → AreRead (width form vars) rows
unfolding rows_of
rows_read form vars tokens rows few e =
    by_bool (is_one_word (codes "all") tokens)
    (λ t. let k : Some [] ≡ Some rows = rw t at e in subst (λ r. AreRead (width form vars) r) (same_Some [] rows k) (read_rows (width form vars) [] tt (omega arith)))
    (λ t. let k : cond (is_flow form && is_one_word (codes "still") tokens) (Some (still_rows (length vars))) (list_of form vars tokens) ≡ Some rows = rw t at e in
    by_bool (is_flow form && is_one_word (codes "still") tokens)
    (λ s. let m : Some (still_rows (length vars)) ≡ Some rows = rw s at k in subst (λ r. AreRead (width form vars) r) (same_Some _ rows m) (flow_still form vars (and_parts (is_flow form) _ s).0 few))
    (λ s. let m : list_of form vars tokens ≡ Some rows = rw s at k in limited (width form vars) (constraints_of form vars (parts_of (cut is_comma tokens))) rows (constraints_full form vars (parts_of (cut is_comma tokens))) m))
