-- Are the sums that are formed those of the definitions, and what does the answer of a guess say?
use Rattle.std.specs.Prelude.{◌≡◌, ℕ, zero, suc, Bool, true, false, ◌&&◌, List, length, map, nat_eq, Option, Result, Ok, Err, IfOk}
use Rattle.std.proofs.Common.{refl, sym, ap, ◌∙◌, subst}
use Rattle.std.proofs.lemmas.Bool.{and_parts, eqb-true}
use Rattle.lhg_math.specs.Number.{Number, nought}
use Rattle.lhg_math.specs.Signs.{is_nought}
use Rattle.lhg_math.specs.Tests.{by_bool, every_from_all}
use Rattle.lhg_num.specs.Arithmetic.{Arithmetic}
use Rattle.lhg_num.specs.FracArithmetic.{frac_arithmetic}
use Rattle.lhg_num.specs.Halting.{IsWideBy}
use Rattle.lhg_row.specs.Row.{PlainRow, PlainPoint, holds_at}
use Rattle.lhg_row.specs.Piece.{PlainPiece, in_piece}
use Rattle.lhg_row.specs.Width.{AllWide}
use Rattle.lhg_row.specs.HasValue.{IsEmptiness}
use Rattle.lhg_row.specs.Column.{coef_at}
use Rattle.lhg_row.specs.ValueLaws.{marked_value-value}
use Rattle.lhg_row.specs.Truths.{piece_truth-value}
use Rattle.lhg_simplex.specs.Mixed.{bound_of, mixed, marked_mixed, vanish, marked_vanish, marked_refutes, refutes, none_negative, mixes_strict, is_false_bound}
use Rattle.lhg_simplex.specs.Verdict.{has_one, has_none, verdict, marked_verdict, IsAnswer}
use Rattle.lhg_simplex.proofs.Farkas.{refutes_empty}
use Rattle.lhg_simplex.specs.declared.guesses.Guess.{Guess}
use Rattle.lhg_simplex.specs.declared.guesses.Guess.TheVariants.{Point, Multipliers, Undecided}

-- ---- sums that are formed
marked_mixed-value : (a : Arithmetic) (entry : PlainRow → Number) (ms : List Number) (rows : PlainPiece) → (marked_mixed a entry ms rows).value ≡ mixed entry ms rows
marked_mixed-value a entry ms rows = marked_value-value a nought ms (map entry rows)

marked_vanish-value : (a : Arithmetic) (k count : ℕ) (ms : List Number) (rows : PlainPiece) → (marked_vanish a k count ms rows).value ≡ vanish k count ms rows
marked_vanish-value a k zero ms rows = refl
marked_vanish-value a k (suc count) ms rows =
    ap (λ s. is_nought s && (marked_vanish a (suc k) count ms rows).value) (marked_mixed-value a (coef_at k) ms rows) ∙ ap (λ c. is_nought (mixed (coef_at k) ms rows) && c) (marked_vanish-value a (suc k) count ms rows)

-- the test that is formed is the test
pub marked_refutes-value : (a : Arithmetic) (n : ℕ) (rows : PlainPiece) (ms : List Number) → (marked_refutes a n rows ms).value ≡ refutes n rows ms
marked_refutes-value a n rows ms =
    let strict = mixes_strict ms rows in
    let before = λ (v f : Bool). nat_eq (length ms) (length rows) && (none_negative ms && (v && f)) in
    ap (λ v. before v (is_false_bound strict (marked_mixed a bound_of ms rows).value)) (marked_vanish-value a 0 n ms rows)
    ∙ ap (λ b. before (vanish 0 n ms rows) (is_false_bound strict b)) (marked_mixed-value a bound_of ms rows)

-- the answer that is formed is the answer
pub marked_verdict-value : (n : ℕ) (rows : PlainPiece) (guess : Guess) → (marked_verdict n rows guess).value ≡ verdict n rows guess
marked_verdict-value n rows (Point x) = ap (λ b. has_one (nat_eq (length x) n && b)) (piece_truth-value frac_arithmetic rows x)
marked_verdict-value n rows (Multipliers ms) = ap has_none (marked_refutes-value frac_arithmetic n rows ms.items)
marked_verdict-value n rows Undecided = refl

-- ---- what an answer says
-- a point of the rows shows that they have one
one_says : (n : ℕ) (rows : PlainPiece) (x : PlainPoint) → IsAnswer n rows (has_one (nat_eq (length x) n && in_piece rows x))
one_says n rows x =
    by_bool (nat_eq (length x) n && in_piece rows x)
    (λ e. rw e (let p = and_parts (nat_eq (length x) n) (in_piece rows x) e in record { point = x; wide = eqb-true (length x) n p.0; holds = every_from_all (λ r. holds_at r x) rows p.1 }))
    (λ e. rw e tt)

-- multipliers that refute the rows show that they have none
none_says : (n : ℕ) (rows : PlainPiece) (ms : List Number) → AllWide n rows → IsAnswer n rows (has_none (refutes n rows ms))
none_says n rows ms w = by_bool (refutes n rows ms) (λ e. rw e (refutes_empty n rows ms w e)) (λ e. rw e tt)

-- a point at which the rows hold
pub shown-says : (n : ℕ) (rows : PlainPiece) (x : PlainPoint) → length x ≡ n → in_piece rows x ≡ true → IsEmptiness n rows false
shown-says n rows x e h = record { point = x; wide = e; holds = every_from_all (λ r. holds_at r x) rows h }

-- multipliers that are seen to refute the rows, by the numbers of any type
pub refuted-says : (a : Arithmetic) (n : ℕ) (rows : PlainPiece) (ms : List Number) → AllWide n rows → true ≡ (marked_refutes a n rows ms).value → IsEmptiness n rows true
refuted-says a n rows ms w e = refutes_empty n rows ms w (sym (e ∙ marked_refutes-value a n rows ms))

-- the answer of a guess is true of the rows
pub verdict_says : (n : ℕ) (rows : PlainPiece) (guess : Guess) → AllWide n rows → IsAnswer n rows (verdict n rows guess)
verdict_says n rows (Point x) w = one_says n rows x
verdict_says n rows (Multipliers ms) w = none_says n rows ms.items w
verdict_says n rows Undecided w = tt

-- ---- a call that confirms
module _ (n m : ℕ) (rows rs : PlainPiece) (guess : Guess) (n_is : m ≡ n) (rows_is : rs ≡ rows) where
  told : (marked_verdict m rs guess).value ≡ verdict n rows guess
  told = marked_verdict-value m rs guess ∙ ap (λ k. verdict k rs guess) n_is ∙ ap (λ q. verdict n q guess) rows_is

  -- what is answered is the answer
  pub confirm-exact : {E : Type 0} (r : Result (Option Bool) E) → IsWideBy r (marked_verdict m rs guess) (λ o. o) → IfOk r (λ o. o ≡ verdict n rows guess)
  confirm-exact (Ok o) h = h ∙ told
  confirm-exact (Err e) h = tt

  -- and true of the rows
  pub confirm-says : {E : Type 0} → AllWide n rows → (r : Result (Option Bool) E) → IsWideBy r (marked_verdict m rs guess) (λ o. o) → IfOk r (IsAnswer n rows)
  confirm-says w (Ok o) h = subst (IsAnswer n rows) (sym (h ∙ told)) (verdict_says n rows guess w)
  confirm-says w (Err e) h = tt
