-- Steps of the loop over the variables of rows of one variable.
use Rattle.std.proofs.Common.{◌≡◌, ℕ, ◌+◌, ◌<◌, ◌≤◌, List, [], ◌∷◌, ◌++◌, length, map, drop, get_or, Option, Some, None, Vec, Global, true, false, refl, sym, ap, ◌∙◌, subst, arith, inl, inr}
use Rattle.std.specs.Prelude.{◌⊎◌, Result, Ok, Err, IfOk}
use Rattle.std.proofs.lemmas.List.{length-append, drop_all, map-id, get_or_append_left, get_or_default}
use Rattle.std.proofs.Math.Nat.{eq-or-lt_of_le}
use Rattle.std.proofs.Math.Seq.{get_or-append_seam}
use Rattle.lhg_math.specs.Number.{Number, nought}
use Rattle.lhg_math.specs.Bounds.{Bound}
use Rattle.lhg_math.specs.Signs.{is_nought, lead}
use Rattle.lhg_math.specs.SignLaws.{is_nought-nought}
use Rattle.lhg_math.specs.Tests.{false_true, all_from_every}
use Rattle.lhg_num.specs.declared.fraction.Frac.{Frac}
use Rattle.lhg_num.specs.FracArithmetic.{frac_arithmetic}
use Rattle.lhg_row.specs.Piece.{PlainPiece}
use Rattle.lhg_row.specs.System.{IsSystem}
use Rattle.lhg_math.specs.ListFacts.{drop_cons}
use Rattle.lhg_simplex.specs.Boxes.{is_single, are_boxed, box_value, lower_of, upper_of, value_in, picked, HasValues, IsDecided, HasWideBounds, IsPromised}
use Rattle.lhg_simplex.proofs.BoxLaws.{no_value-decides, values-decide, wide-bounds}
use Rattle.lhg_simplex.proofs.Edges.{none_some}
use Rattle.lhg_simplex.specs.Verdict.{has_none}
use Rattle.lhg_simplex.specs.declared.guesses.Guess.{Guess}
use Rattle.lhg_simplex.specs.declared.guesses.Guess.TheVariants.{Point, Multipliers, Undecided}

-- the value that the bounds of the code give
pub value-is : (k : ℕ) (rows : PlainPiece) (l u : Option Bound) (o : Option Number) → l ≡ lower_of k rows → u ≡ upper_of k rows → o ≡ (box_value l u).value → (value_in k rows).value ≡ o
value-is k rows l u o el eu e = sym (e ∙ ap (λ b. (box_value b u).value) el ∙ ap (λ b. (box_value (lower_of k rows) b).value) eu)

-- the value of one variable more
pub values-push : (k : ℕ) (rows : PlainPiece) (xs ys : List Number) (v : Number) → HasValues k rows xs → (value_in k rows).value ≡ Some v → ys ≡ xs ++ v ∷ [] → HasValues (k + 1) rows ys
values-push k rows xs ys v h e is =
    let count = h.many in
    record {
      many = ap length is ∙ length-append xs (v ∷ []) ∙ ap (λ n. n + 1) h.many;
      values = λ j l. one j (eq-or-lt_of_le (omega arith));
    }
  where
    one : (j : ℕ) → (j ≡ k) ⊎ (j < k) → (value_in j rows).value ≡ Some (get_or ys j nought)
    one j (inr l) = let t : j < length xs = subst (λ n. j < n) (sym h.many) l in h.values j l ∙ ap Some (sym (get_or_append_left xs (v ∷ []) nought j t)) ∙ ap (λ zs. Some (get_or zs j nought)) (sym is)
    one j (inl l) =
        ap (λ m. (value_in m rows).value) l ∙ e ∙ ap Some (sym (get_or-append_seam xs v [] nought)) ∙ ap (λ m. Some (get_or (xs ++ v ∷ []) m nought)) (h.many ∙ sym l) ∙ ap (λ zs. Some (get_or zs j nought)) (sym is)

-- a variable without a value decides
pub refuted-promise : (n k : ℕ) (rows : PlainPiece) (guess : Vec Frac Global) → IsSystem frac_arithmetic n rows → guess.items ≡ picked k rows → (value_in k rows).value ≡ None → IsPromised n rows (Multipliers guess)
refuted-promise n k rows guess system is h boxed = inl (record { answer = true; told = ap has_none (no_value-decides n rows system k guess.items is h boxed) })

-- refused bounds are told
pub wide-promise : (n k : ℕ) (rows : PlainPiece) (guess : Guess) (l u : Option Bound) → IsSystem frac_arithmetic n rows → k < n → l ≡ lower_of k rows → u ≡ upper_of k rows → (box_value l u).wide ≡ true → IsPromised n rows guess
wide-promise n k rows guess l u system there el eu h boxed =
    let e : (value_in k rows).wide ≡ true = sym (ap (λ b. (box_value b u).wide) el ∙ ap (λ b. (box_value (lower_of k rows) b).wide) eu) ∙ h in
    inr (wide-bounds n rows system k there e boxed)

-- values of all variables decide
pub point-promise : (n k : ℕ) (rows : PlainPiece) (xs : List Number) → IsSystem frac_arithmetic n rows → k ≡ n → HasValues k rows xs → IsPromised n rows (Point (map (λ x. x) xs))
point-promise n k rows xs system e h boxed =
    subst (λ ys. IsDecided n rows (Point ys) ⊎ HasWideBounds n rows) (sym (map-id xs)) (inl (record { answer = false; told = values-decide n rows system xs (subst (λ m. HasValues m rows xs) e h) boxed }))

-- ---- the coefficients of a row
module _ (xs : List Number) (k : ℕ) (there : k < length xs) where
  here : drop k xs ≡ get_or xs k nought ∷ drop (k + 1) xs
  here = drop_cons xs k (get_or xs k nought) (get_or_default xs k nought (get_or xs k nought) there) there

  -- after one that is not 0 all must be 0
  pub single-found : is_nought (get_or xs k nought) ≡ false → is_nought (lead (drop (k + 1) xs)) ≡ is_single (drop k xs)
  single-found h = sym (ap is_single here ∙ rw h refl)

  pub single-passed : is_nought (get_or xs k nought) ≡ true → is_single (drop (k + 1) xs) ≡ is_single (drop k xs)
  single-passed h = sym (ap is_single here ∙ rw h refl)

  pub level-found : is_nought (get_or xs k nought) ≡ false → false ≡ is_nought (lead (drop k xs))
  level-found h = sym (ap (λ ys. is_nought (lead ys)) here ∙ rw h h)

  pub level-passed : is_nought (get_or xs k nought) ≡ true → is_nought (lead (drop (k + 1) xs)) ≡ is_nought (lead (drop k xs))
  level-passed h = sym (ap (λ ys. is_nought (lead ys)) here ∙ rw h refl)

pub single-end : (xs : List Number) (k : ℕ) → length xs ≤ k → false ≡ is_single (drop k xs)
single-end xs k h = sym (ap is_single (drop_all k xs h))

pub level-end : (xs : List Number) (k : ℕ) → length xs ≤ k → true ≡ is_nought (lead (drop k xs))
level-end xs k h = sym (ap (λ ys. is_nought (lead ys)) (drop_all k xs h) ∙ is_nought-nought)

-- ---- what is promised
-- where nothing is told some bounds are wide, so any hint will do
pub any-promise : (n : ℕ) (rows : PlainPiece) (guess : Guess) → IsPromised n rows Undecided → IsPromised n rows guess
any-promise n rows guess h boxed = wide (h boxed)
  where
    wide : IsDecided n rows Undecided ⊎ HasWideBounds n rows → IsDecided n rows guess ⊎ HasWideBounds n rows
    wide (inl d) = none_some d.answer d.told
    wide (inr w) = inr w

-- where some row has not one variable nothing is promised
pub no-promise : (n : ℕ) (rows : PlainPiece) (guess : Guess) → are_boxed rows ≡ false → IsPromised n rows guess
no-promise n rows guess h boxed = false_true (sym h ∙ all_from_every (λ r. is_single r.coefs) rows boxed)

pub none-promised : {E : Type 0} (n : ℕ) (rows : PlainPiece) (r : Result Guess E) → are_boxed rows ≡ false → IfOk r (IsPromised n rows)
none-promised n rows (Ok guess) h = no-promise n rows guess h
none-promised n rows (Err e) h = tt

pub any-promised : {E : Type 0} (n : ℕ) (rows : PlainPiece) (r : Result Guess E) → IsPromised n rows Undecided → IfOk r (IsPromised n rows)
any-promised n rows (Ok guess) h = any-promise n rows guess h
any-promised n rows (Err e) h = tt
