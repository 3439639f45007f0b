-- A pair is read sum by sum.
use Rattle.std.proofs.Common.{◌≡◌, ◌<◌, ℕ, List, [], ◌∷◌, ◌++◌, length, drop, map, refl, sym, ap, ◌∙◌, Bool, true, false, not, cond, ◌&&◌, arith, Option, Some, None}
use Rattle.std.specs.Option.{option_and_then, option_map}
use Rattle.std.specs.Str.{bytes_eq}
use Rattle.std.proofs.lemmas.List.Quantifiers.{position-Some}
use Rattle.std.proofs.lemmas.Bool.{and_parts, not-true}
use Rattle.lhg_math.specs.Number.{Number, unit}
use Rattle.lhg_math.specs.NumberOrder.{nought_unit}
use Rattle.lhg_math.specs.Signs.{is_nought}
use Rattle.lhg_math.specs.SignLaws.{is_nought-positive, is_nought-neg}
use Rattle.lhg_math.specs.Tests.{AllOf, by_bool}
use Rattle.lhg_row.specs.Piece.{PlainPiece}
use Rattle.lhg_lex.specs.PlainToken.{PlainToken, word, number, sign, two_signs}
use Rattle.lhg_read.specs.Cut.{Cut, cut}
use Rattle.lhg_read.specs.Options.{consed, joined}
use Rattle.lhg_read.specs.Signs.{is_sign, is_minus, is_plus_or_minus, operator_of}
use Rattle.lhg_read.specs.Term.{width, place_of, new_place, variable_of, times, term_of}
use Rattle.lhg_read.specs.Sum.{opposite, signed, terms_behind, terms_from, begins_with_minus, sum_of}
use Rattle.lhg_read.specs.Pair.{rows_by, pair_rows, pair_of}
use Rattle.lhg_read.specs.Collect.{Collected, none_of, with_term, with_terms, with_turned, has_variable, row_from, rows_from}
use Rattle.lhg_read.specs.declared.forms.Form.{Form}
use Rattle.lhg_read.specs.declared.forms.Form.TheVariants.{Plain, Flow, Jump}
use Rattle.lhg_read.specs.declared.operators.Operator.{Operator}
use Rattle.lhg_read.specs.declared.terms.Term.{Term}
use Rattle.lhg_read.specs.declared.terms.Term.TheVariants.{Times, Alone}
use Rattle.lhg_read.proofs.Collecting.{IsSound}
use Rattle.lhg_read.proofs.PairRows.{pair_collected}
use Rattle.lhg_row.specs.Members.{all-append}

-- ---- terms are sound

-- what holds of the value, where there is one
abbrev pub Of : {A : Type 0} → (A → Type 0) → Option A → Type 0
Of P None = Unit {0}
Of P (Some x) = P x

pub place_below : (w : List ℕ) (vars : List (List ℕ)) (o : Option ℕ) → place_of w vars ≡ o → Of (λ i. i < length vars) o
place_below w vars None e = tt
place_below w vars (Some i) e = (position-Some (λ name. bytes_eq name w) vars i [] e).0

new_below : (form : Form) (vars : List (List ℕ)) (o : Option ℕ) → Of (λ i. i < length vars) o → Of (λ i. i < width form vars) (new_place form vars o)
new_below Plain vars o h = tt
new_below Flow vars o h = h
new_below Jump vars None h = tt
new_below Jump vars (Some i) h = omega arith

wide : (form : Form) (vars : List (List ℕ)) (o : Option ℕ) → Of (λ i. i < length vars) o → Of (λ i. i < width form vars) o
wide form vars None h = tt
wide Plain vars (Some i) h = h
wide Flow vars (Some i) h = h
wide Jump vars (Some i) h = omega arith

variable_below : (form : Form) (vars : List (List ℕ)) (tokens : List PlainToken) → Of (λ i. i < width form vars) (variable_of form vars tokens)
variable_below form vars [] = tt
variable_below form vars (word w ∷ []) = wide form vars (place_of w vars) (place_below w vars (place_of w vars) refl)
variable_below form vars (word w ∷ prime ∷ []) =
    by_bool (is_sign 39 prime)
    (λ e. rw e (new_below form vars (place_of w vars) (place_below w vars (place_of w vars) refl)))
    (λ e. rw e tt)
variable_below form vars (word w ∷ prime ∷ t ∷ ts) = tt
variable_below form vars (number q ∷ ts) = tt
variable_below form vars (sign b ∷ ts) = tt
variable_below form vars (two_signs b c ∷ ts) = tt

times_sound : (n : ℕ) (q : Number) (o : Option ℕ) → is_nought q ≡ false → Of (λ i. i < n) o → Of (IsSound n) (times q o)
times_sound n q None e h = tt
times_sound n q (Some i) e h = (h, e)

pub unit_sound : is_nought unit ≡ false
unit_sound = is_nought-positive unit nought_unit

term_sound : (form : Form) (vars : List (List ℕ)) (tokens : List PlainToken) → Of (IsSound (width form vars)) (term_of form vars tokens)
term_sound form vars (number q ∷ []) = tt
term_sound form vars (number q ∷ star ∷ tokens) =
    by_bool (is_sign 42 star && not (is_nought q))
    (λ e. rw e (times_sound (width form vars) q (variable_of form vars tokens) (not-true (is_nought q) (and_parts (is_sign 42 star) (not (is_nought q)) e).1) (variable_below form vars tokens)))
    (λ e. rw e tt)
term_sound form vars [] = times_sound (width form vars) unit (variable_of form vars []) unit_sound (variable_below form vars [])
term_sound form vars (word w ∷ ts) = times_sound (width form vars) unit (variable_of form vars (word w ∷ ts)) unit_sound (variable_below form vars (word w ∷ ts))
term_sound form vars (sign b ∷ ts) = times_sound (width form vars) unit (variable_of form vars (sign b ∷ ts)) unit_sound (variable_below form vars (sign b ∷ ts))
term_sound form vars (two_signs b c ∷ ts) = times_sound (width form vars) unit (variable_of form vars (two_signs b c ∷ ts)) unit_sound (variable_below form vars (two_signs b c ∷ ts))

-- ---- sums are sound

opposite_sound : (n : ℕ) (t : Term) → IsSound n t → IsSound n (opposite t)
opposite_sound n (Times q i) h = (h.0, is_nought-neg q ∙ h.1)
opposite_sound n (Alone q) h = tt

signed_sound : (n : ℕ) (minus : Bool) (t : Term) → IsSound n t → IsSound n (signed minus t)
signed_sound n true t h = opposite_sound n t h
signed_sound n false t h = h

consed_sound : (n : ℕ) (minus : Bool) (term : Option Term) (rest : Option (List Term)) → Of (IsSound n) term → Of (AllOf (IsSound n)) rest → Of (AllOf (IsSound n)) (consed (option_map (signed minus) term) rest)
consed_sound n minus None rest h k = tt
consed_sound n minus (Some t) None h k = tt
consed_sound n minus (Some t) (Some ts) h k = (signed_sound n minus t h, k)

behind_sound : (form : Form) (vars : List (List ℕ)) (parts : List (PlainToken × List PlainToken)) → Of (AllOf (IsSound (width form vars))) (terms_behind form vars parts)
behind_sound form vars [] = tt
behind_sound form vars (part ∷ parts) = consed_sound (width form vars) (is_minus part.0) (term_of form vars part.1) (terms_behind form vars parts) (term_sound form vars part.1) (behind_sound form vars parts)

from_sound : (form : Form) (vars : List (List ℕ)) (minus : Bool) (c : Cut PlainToken) → Of (AllOf (IsSound (width form vars))) (terms_from form vars minus c)
from_sound form vars minus c = consed_sound (width form vars) minus (term_of form vars c.first) (terms_behind form vars c.others) (term_sound form vars c.first) (behind_sound form vars c.others)

pub sum_sound : (form : Form) (vars : List (List ℕ)) (tokens : List PlainToken) → Of (AllOf (IsSound (width form vars))) (sum_of form vars tokens)
unfolding sum_of
sum_sound form vars tokens =
    by_bool (begins_with_minus tokens)
    (λ e. rw e (from_sound form vars true (cut is_plus_or_minus (drop 1 tokens))))
    (λ e. rw e (from_sound form vars false (cut is_plus_or_minus tokens)))

-- ---- the two sums, one after the other

pub all_opposite : (n : ℕ) (ts : List Term) → AllOf (IsSound n) ts → AllOf (IsSound n) (map opposite ts)
all_opposite n [] h = tt
all_opposite n (t ∷ ts) h = (opposite_sound n t h.0, all_opposite n ts h.1)

map_plain : (ts : List Term) → map (signed false) ts ≡ ts
map_plain [] = refl
map_plain (t ∷ ts) = ap (λ us. t ∷ us) (map_plain ts)

with_terms-append : (c : Collected) (xs ys : List Term) → with_terms c (xs ++ ys) ≡ option_and_then (λ d. with_terms d ys) (with_terms c xs)
with_terms-append c [] ys = refl
with_terms-append c (x ∷ xs) ys = by_first (with_term c x) xs ys (λ d. with_terms-append d xs ys)
  where
    by_first : (o : Option Collected) (xs ys : List Term) → ((d : Collected) → with_terms d (xs ++ ys) ≡ option_and_then (λ e. with_terms e ys) (with_terms d xs))
        → option_and_then (λ d. with_terms d (xs ++ ys)) o ≡ option_and_then (λ d. with_terms d ys) (option_and_then (λ d. with_terms d xs) o)
    by_first None xs ys h = refl
    by_first (Some d) xs ys h = h d

-- what the code does with the two sums
abbrev pub in_turn : ℕ → Option (List Term) → Option (List Term) → Option Collected
in_turn n a b = option_and_then (λ c. with_turned true c b) (with_turned false (none_of n) a)

sums_in_turn : (n : ℕ) (op : Operator) (a b : Option (List Term)) → Of (AllOf (IsSound n)) a → Of (AllOf (IsSound n)) b
    → option_and_then (λ xs. option_and_then (λ ys. pair_rows n op xs ys) b) a ≡ option_and_then (rows_from op) (in_turn n a b)
sums_in_turn n op None b h k = refl
sums_in_turn n op (Some xs) None h k = none (with_terms (none_of n) (map (signed false) xs))
  where
    none : (o : Option Collected) → None ≡ option_and_then (rows_from op) (option_and_then (λ c. with_turned true c None) o)
    none None = refl
    none (Some d) = refl
sums_in_turn n op (Some xs) (Some ys) h k =
    pair_collected n op xs ys (all-append (IsSound n) xs (map opposite ys) h (all_opposite n ys k))
    ∙ ap (option_and_then (rows_from op)) (with_terms-append (none_of n) xs (map opposite ys) ∙ ap (λ zs. option_and_then (λ d. with_terms d (map opposite ys)) (with_terms (none_of n) zs)) (sym (map_plain xs)))

-- so a pair is read
pub pair_in_turn : (form : Form) (vars : List (List ℕ)) (left : List PlainToken) (token : PlainToken) (right : List PlainToken) (op : Operator) → operator_of token ≡ Some op
    → pair_of form vars left token right ≡ option_and_then (rows_from op) (in_turn (width form vars) (sum_of form vars left) (sum_of form vars right))
unfolding pair_of
pair_in_turn form vars left token right op e =
    rw e (sums_in_turn (width form vars) op (sum_of form vars left) (sum_of form vars right) (sum_sound form vars left) (sum_sound form vars right))

-- and where the token between is no operator there is none
pub pair_without : (form : Form) (vars : List (List ℕ)) (left : List PlainToken) (token : PlainToken) (right : List PlainToken) → operator_of token ≡ None → pair_of form vars left token right ≡ None
unfolding pair_of
pair_without form vars left token right e = rw e refl

-- ---- the exits of the code

module _ (form : Form) (vars : List (List ℕ)) (left : List PlainToken) (token : PlainToken) (right : List PlainToken) (op : Operator) (is : Some op ≡ operator_of token) (s : Collected) (n : ℕ) (e : s ≡ none_of n) (w : n ≡ width form vars) where
  start : with_turned false (none_of (width form vars)) (sum_of form vars left) ≡ with_turned false s (sum_of form vars left)
  start = ap (λ c. with_turned false c (sum_of form vars left)) (sym (e ∙ ap none_of w))

  pub left_refused : with_turned false s (sum_of form vars left) ≡ None → pair_of form vars left token right ≡ None
  left_refused h =
      pair_in_turn form vars left token right op (sym is)
      ∙ ap (λ o. option_and_then (rows_from op) (option_and_then (λ c. with_turned true c (sum_of form vars right)) o)) (start ∙ h)

  module _ (c : Collected) (g : with_turned false s (sum_of form vars left) ≡ Some c) where
    then_right : pair_of form vars left token right ≡ option_and_then (rows_from op) (with_turned true c (sum_of form vars right))
    then_right =
        pair_in_turn form vars left token right op (sym is)
        ∙ ap (λ o. option_and_then (rows_from op) (option_and_then (λ c. with_turned true c (sum_of form vars right)) o)) (start ∙ g)

    pub right_refused : with_turned true c (sum_of form vars right) ≡ None → pair_of form vars left token right ≡ None
    right_refused h = then_right ∙ ap (option_and_then (rows_from op)) h

    module _ (d : Collected) (h : with_turned true c (sum_of form vars right) ≡ Some d) where
      then_rows : pair_of form vars left token right ≡ rows_from op d
      then_rows = then_right ∙ ap (option_and_then (rows_from op)) h

      pub no_variable_here : has_variable d ≡ false → pair_of form vars left token right ≡ None
      no_variable_here k = then_rows ∙ ap (λ b. cond b (Some (rows_by op (row_from d))) None) k

      pub appended : (old new : PlainPiece) → has_variable d ≡ true → new ≡ old ++ rows_by op (row_from d) → joined (Some old) (pair_of form vars left token right) ≡ Some new
      appended old new k m = ap (joined (Some old)) (then_rows ∙ ap (λ b. cond b (Some (rows_by op (row_from d))) None) k) ∙ ap (λ rows. Some rows) (sym m)
