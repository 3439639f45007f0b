-- The run of digits at the front of a text, and what stands behind it.
use Rattle.std.proofs.Common.{◌≡◌, ◌<◌, ◌≤◌, ◌+◌, ◌-◌, ℕ, zero, suc, List, [], ◌∷◌, ◌++◌, length, take, drop, refl, ap, ◌∙◌, true, false, arith, get_or, length-take, add-one}
use Rattle.std.specs.List.{prefix_len}
use Rattle.std.proofs.lemmas.List.Sums.{prefix_len-le-length, prefix_len_stops}
use Rattle.std.proofs.lemmas.List.{take_rest}
use Rattle.lhg_lex.specs.Word.{is_digit}
use Rattle.lhg_lex.specs.Digits.{is_run}
use Rattle.lhg_lex.proofs.Fronts.{front_passes}
use Rattle.lhg_lex.proofs.Runs.{run_from_digits}
use Rattle.std.proofs.Math.Nat.{zero-add, suc-add}

-- a text that begins with a digit has a run there
first_run : (text : List ℕ) → 0 < length text → is_digit (get_or text 0 0) ≡ true → 0 < prefix_len is_digit text
first_run [] some h = absurd (omega arith)
first_run (b ∷ w) some h = rw h (omega arith)

-- what stands before a byte, the byte, and what stands behind it
pub take_more_than : (n k : ℕ) (text : List ℕ) → n < length text → take (suc (n + k)) text ≡ take n text ++ (get_or text n 0 ∷ take k (drop (suc n) text))
take_more_than n k [] h = absurd (omega arith)
take_more_than zero k (b ∷ w) h = rw (zero-add k) refl
take_more_than (suc n) k (b ∷ w) h = rw (suc-add n k) (ap (λ z. b ∷ z) (take_more_than n k w (omega arith)))

-- the run of digits at the front
pub record IsFirstRun (text : List ℕ) (n : ℕ) : Type 0 where
  pub some : 0 < n
  pub within : n ≤ length text
  pub run : is_run (take n text) ≡ true
  pub stops : n < length text → is_digit (get_or text n 0) ≡ false

-- the longest front of digits is that run
pub first_run_is : (text : List ℕ) → 0 < length text → is_digit (get_or text 0 0) ≡ true → IsFirstRun text (prefix_len is_digit text)
first_run_is text some h =
    let p = first_run text some h in
    let q = prefix_len-le-length is_digit text in
    record {
      some = p;
      within = q;
      run = run_from_digits (take (prefix_len is_digit text) text) (simp length-take (omega arith)) (front_passes is_digit text);
      stops = prefix_len_stops is_digit text 0;
    }

-- what a slice from the next byte on is
pub rest_is : (text : List ℕ) (n : ℕ) → take (length text - (n + 1)) (drop (n + 1) text) ≡ drop (suc n) text
rest_is text n = take_rest text (n + 1) ∙ ap (λ k. drop k text) (add-one n)
