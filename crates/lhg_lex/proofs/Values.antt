-- The number that digits stand for, digit by digit.
use Rattle.std.proofs.Common.{◌≡◌, ◌<◌, ◌≤◌, ◌+◌, ◌-◌, ◌*◌, ◌/◌, ℕ, zero, suc, List, [], ◌∷◌, ◌++◌, length, take, drop, refl, sym, ap, ◌∙◌, true, arith, get_or, Some, None, nat_lt, if◌then◌else◌}
use Rattle.std.proofs.lemmas.Bool.{and_parts}
use Rattle.std.specs.Char.{digit_value}
use Rattle.std.specs.Str.Parse.{digits_value_after}
use Rattle.std.proofs.lemmas.List.{take_more, take-append-drop}
use Rattle.std.proofs.lemmas.Str.{digit_value_digit}
use Rattle.std.proofs.lemmas.Bool.Decides.{nat_tests}
use Rattle.lhg_lex.specs.Word.{is_digit}
use Rattle.lhg_lex.specs.Digits.{all_digits}
use Rattle.lhg_lex.specs.Literal.{limit}
use Rattle.lhg_lex.proofs.Bytes.{digit_from}

-- digits one behind the other
pub after-append : (n : ℕ) (a b : List ℕ) → digits_value_after 10 n (a ++ b) ≡ digits_value_after 10 (digits_value_after 10 n a) b
after-append n [] b = refl
after-append n (d ∷ a) b = after-append (n * 10 + digit_value d) a b

-- further digits make no number smaller
pub after_above : (n : ℕ) (b : List ℕ) → n ≤ digits_value_after 10 n b
after_above n [] = omega arith
after_above n (d ∷ b) = let h = after_above (n * 10 + digit_value d) b in omega (arith, h)

-- each of some digits is one
pub digit_at : (w : List ℕ) (i : ℕ) → all_digits w ≡ true → i < length w → is_digit (get_or w i 0) ≡ true
digit_at [] i h lt = absurd (omega arith)
digit_at (b ∷ w) zero h lt = (and_parts (is_digit b) (all_digits w) h).0
digit_at (b ∷ w) (suc i) h lt = digit_at w i (and_parts (is_digit b) (all_digits w) h).1 (omega arith)

-- the value of a digit
pub digit_value_is : (b : ℕ) → is_digit b ≡ true → digit_value b ≡ b - 48
digit_value_is b h = let p = digit_from b h in let e = digit_value_digit b p in omega (arith, e)

-- one digit more
pub after_more : (n : ℕ) (w : List ℕ) (i : ℕ) → all_digits w ≡ true → i < length w → digits_value_after 10 n (take (i + 1) w) ≡ digits_value_after 10 n (take i w) * 10 + (get_or w i 0 - 48)
after_more n w i h lt =
    ap (digits_value_after 10 n) (take_more w i 0 lt) ∙ after-append n (take i w) (get_or w i 0 ∷ [])
    ∙ ap (λ z. digits_value_after 10 n (take i w) * 10 + z) (digit_value_is (get_or w i 0) (digit_at w i h lt))

-- the digits so far stand for no more than all of them
pub front_below : (n : ℕ) (w : List ℕ) (i : ℕ) → digits_value_after 10 n (take i w) ≤ digits_value_after 10 n w
front_below n w i =
    let h = after_above (digits_value_after 10 n (take i w)) (drop i w) in
    let e : digits_value_after 10 (digits_value_after 10 n (take i w)) (drop i w) ≡ digits_value_after 10 n w = sym (after-append n (take i w) (drop i w)) ∙ ap (digits_value_after 10 n) (take-append-drop i w) in
    omega (arith, h, e)

-- a value past the limit is none
past_limit : (v : ℕ) → limit < v → (if nat_lt limit v then None else Some v) ≡ None
past_limit v h = let t : nat_lt limit v ≡ true = grind (arith, nat_tests) in rw t refl

-- a number is past the limit where its front and the next digit are
pub long_from : (n : ℕ) (w : List ℕ) (i v : ℕ) → all_digits w ≡ true → i < length w → v ≡ digits_value_after 10 n (take i w) → (limit - (get_or w i 0 - 48)) / 10 < v → None ≡ (if nat_lt limit (digits_value_after 10 n w) then None else Some (digits_value_after 10 n w))
long_from n w i v h lt e more =
    let p = digit_from (get_or w i 0) (digit_at w i h lt) in
    let s = after_more n w i h lt in
    let b = front_below n w (i + 1) in
    sym (past_limit (digits_value_after 10 n w) (omega (arith, p.0, p.1)))
