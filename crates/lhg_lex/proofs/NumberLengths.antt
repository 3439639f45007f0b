-- How long the number at the front of a text is.
use Rattle.std.proofs.Common.{◌≡◌, ◌<◌, ◌≤◌, ◌+◌, ◌-◌, ℕ, zero, suc, List, [], ◌∷◌, length, take, drop, refl, sym, ap, ◌∙◌, subst, true, false, arith, ◌&&◌, get_or, ◌⊎◌, inl, inr, length-take, length-drop}
use Rattle.std.specs.List.{prefix_len}
use Rattle.std.proofs.lemmas.List.Sums.{prefix_len-le-length}
use Rattle.std.proofs.Math.Bool.{and-false}
use Rattle.lhg_lex.specs.Word.{is_digit}
use Rattle.lhg_lex.specs.Digits.{all_digits, is_run}
use Rattle.lhg_lex.specs.Literal.{is_number, is_mark}
use Rattle.lhg_lex.specs.Token.{is_token}
use Rattle.lhg_lex.specs.Longest.{IsLongest}
use Rattle.lhg_lex.proofs.Fronts.{front_passes, front_fails}
use Rattle.lhg_lex.proofs.Runs.{run_from_digits, is_number-at, is_number-run}
use Rattle.lhg_lex.proofs.FirstRun.{IsFirstRun, first_run_is, take_more_than, rest_is}
use Rattle.lhg_lex.proofs.TokenStarts.{number_token}

-- what begins with a digit is a token where it is a number
front_number : (text : List ℕ) (m : ℕ) → 0 < length text → is_digit (get_or text 0 0) ≡ true → 0 < m → is_token (take m text) ≡ is_number (take m text)
front_number [] m some h k = absurd (omega arith)
front_number (b ∷ w) zero some h k = absurd (omega arith)
front_number (b ∷ w) (suc m) some h k = number_token b (take m w) h

-- more than the digits are a number where a mark and digits follow
longer_number : (text : List ℕ) (n m : ℕ) → IsFirstRun text n → n < m → m ≤ length text → is_number (take m text) ≡ (is_mark (get_or text n 0) && is_run (take (m - suc n) (drop (suc n) text)))
longer_number text n m f h k =
    let e : suc (n + (m - suc n)) ≡ m = omega arith in
    let t = take_more_than n (m - suc n) text (omega arith) in
    ap (λ z. is_number (take z text)) (sym e) ∙ ap is_number t ∙ is_number-at (take n text) (get_or text n 0) _ (f.stops (omega arith)) f.run

-- digits alone, where no mark follows or no digit follows the mark
plain_by : (text : List ℕ) (n : ℕ) → 0 < length text → is_digit (get_or text 0 0) ≡ true → IsFirstRun text n → ((k : ℕ) → n + k < length text → (is_mark (get_or text n 0) && is_run (take k (drop (suc n) text))) ≡ false) → IsLongest text n
plain_by text n some h f none = record {
  within = f.within;
  token = λ q. front_number text n some h q ∙ is_number-run (take n text) f.run;
  greatest = λ m l k. front_number text m some h (omega arith) ∙ longer_number text n m f l k ∙ none (m - suc n) (omega arith);
}

-- no mark stands behind the digits
pub plain_longest : (text : List ℕ) (n : ℕ) → n ≡ prefix_len is_digit text → 0 < length text → is_digit (get_or text 0 0) ≡ true → (n ≡ length text) ⊎ (is_mark (get_or text n 0) ≡ false) → IsLongest text n
plain_longest text n is some h (inl all) = plain_by text n some h (subst (λ z. IsFirstRun text z) (sym is) (first_run_is text some h)) (λ k l. absurd (omega arith))
plain_longest text n is some h (inr mark) = plain_by text n some h (subst (λ z. IsFirstRun text z) (sym is) (first_run_is text some h)) (λ k l. rw mark refl)

-- no front of what begins with no digit is a run
no_digits : (rest : List ℕ) (k : ℕ) → prefix_len is_digit rest ≡ 0 → k ≤ length rest → is_run (take k rest) ≡ false
no_digits rest zero e l = refl
no_digits [] (suc k) e l = absurd (omega arith)
no_digits (b ∷ w) (suc k) e l = front_fails is_digit (b ∷ w) (suc k) (omega (arith, e)) l

-- no digit stands behind the byte that follows them
pub bare_longest : (text : List ℕ) (n part : ℕ) → n ≡ prefix_len is_digit text → 0 < length text → is_digit (get_or text 0 0) ≡ true → part ≡ prefix_len is_digit (take (length text - (n + 1)) (drop (n + 1) text)) → part ≡ 0 → IsLongest text n
bare_longest text n part is some h e z =
    let none : prefix_len is_digit (drop (suc n) text) ≡ 0 = ap (λ w. prefix_len is_digit w) (sym (rest_is text n)) ∙ sym e ∙ z in
    plain_by text n some h (subst (λ z. IsFirstRun text z) (sym is) (first_run_is text some h))
    (λ k l. let z = no_digits (drop (suc n) text) k none (simp length-drop (omega arith)) in rw z (and-false (is_mark (get_or text n 0))))

-- no more than the digits are a run
run_fails : (w : List ℕ) (k : ℕ) → prefix_len is_digit w < k → k ≤ length w → is_run (take k w) ≡ false
run_fails w zero h l = absurd (omega arith)
run_fails [] (suc k) h l = absurd (omega arith)
run_fails (b ∷ w) (suc k) h l = front_fails is_digit (b ∷ w) (suc k) h l

-- digits, a mark and digits
pub parted_longest : (text : List ℕ) (n part : ℕ) → n ≡ prefix_len is_digit text → 0 < length text → is_digit (get_or text 0 0) ≡ true → n < length text → is_mark (get_or text n 0) ≡ true → part ≡ prefix_len is_digit (take (length text - (n + 1)) (drop (n + 1) text)) → 0 < part → IsLongest text (n + 1 + part)
parted_longest text n part is some h lt mark was more =
    let e : part ≡ prefix_len is_digit (drop (suc n) text) = was ∙ ap (λ w. prefix_len is_digit w) (rest_is text n) in
    let f : IsFirstRun text n = subst (λ z. IsFirstRun text z) (sym is) (first_run_is text some h) in
    let rest = drop (suc n) text in
    let size : length rest ≡ length text - suc n = length-drop (suc n) text in
    let q : part ≤ length rest = omega (arith, e, prefix_len-le-length is_digit rest) in
    let r : is_run (take part rest) ≡ true = run_from_digits (take part rest) (simp length-take (omega arith)) (subst (λ z. all_digits (take z rest) ≡ true) (sym e) (front_passes is_digit rest)) in
    record {
      within = omega arith;
      token = λ _. front_number text (n + 1 + part) some h (omega arith) ∙ longer_number text n (n + 1 + part) f (omega arith) (omega arith)
          ∙ ap (λ z. is_mark (get_or text n 0) && is_run (take z rest)) (back n part) ∙ rw (mark, r) refl;
      greatest = λ m l k. let z = run_fails rest (m - suc n) (omega (arith, e)) (omega arith) in front_number text m some h (omega arith) ∙ longer_number text n m f (omega arith) k ∙ rw (mark, z) refl;
    }
  where
    back : (n part : ℕ) → n + 1 + part - suc n ≡ part
    back n part = omega arith
