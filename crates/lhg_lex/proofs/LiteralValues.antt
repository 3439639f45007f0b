-- The value of a number as it is written, and the limits of its digits.
use Rattle.std.proofs.Common.{◌≡◌, ◌<◌, ◌≤◌, ◌+◌, ◌^◌, ℕ, List, [], ◌∷◌, ◌++◌, length, refl, sym, ap, ◌∙◌, true, false, arith, ◌==◌, Ok, Err, Option, Some, None, nat_lt, if◌then◌else◌, length-append}
use Rattle.lhg_math.specs.Tests.{by_bool}
use Rattle.std.specs.Prelude.{pos}
use Rattle.std.proofs.Math.Nat.{one-le-pow, pow-le-pow_right}
use Rattle.std.proofs.lemmas.Bool.{lt-ltb, le-ltb, ltb-true, ltb-false, ne_eqb, and_parts}
use Rattle.std.specs.Str.Parse.{digits_value_after, AllDigits}
use Rattle.std.proofs.lemmas.Int.Digits.{digits_value-lt}
use Rattle.lhg_math.specs.Number.{whole, quot}
use Rattle.lhg_math.specs.Inverses.{quot-whole}
use Rattle.lhg_lex.specs.Word.{is_digit}
use Rattle.lhg_lex.specs.Digits.{all_digits, value_of}
use Rattle.lhg_lex.specs.Literal.{whole_value, decimal_value, limit, decimal_digits}
use Rattle.lhg_lex.specs.declared.stops.What.TheVariants.{ZeroDenominator}
use Rattle.lhg_lex.proofs.Values.{after-append, after_above, digit_value_is}
use Rattle.lhg_lex.proofs.Bytes.{digit_from}
use Rattle.std.proofs.lemmas.List.Folds.{list_all-append}

-- a value, and none past the limit
abbrev pub within_limit : ℕ → Option ℕ
within_limit v = if nat_lt limit v then None else Some v

-- some value is not none
clash : {A : Type 0} (x : A) → Some x ≡ None → ⊥
clash x e = cc

-- what a value within the limit is, and what one past it is
pub kept : (n v : ℕ) → Some n ≡ within_limit v → (n ≡ v) × (v ≤ limit)
kept n v e =
    by_bool (nat_lt limit v)
    (λ t. let f : Some n ≡ None = rw t at e in absurd (clash n f))
    (λ t. let f : Some n ≡ Some v = rw t at e in (some_eq f, ltb-false limit v t))
  where
    some_eq : {n v : ℕ} → Some n ≡ Some v → n ≡ v
    some_eq e = cc

-- where a value is lost it is past the limit
pub lost : (v : ℕ) → None ≡ within_limit v → limit < v
lost v e =
    by_bool (nat_lt limit v)
    (λ t. ltb-true limit v t)
    (λ t. let f : None ≡ Some v = rw t at e in absurd (clash v (sym f)))

-- a value past the limit is lost
pub past : (v : ℕ) → limit < v → None ≡ within_limit v
past v h = let t = lt-ltb limit v h in rw t refl

-- ---- two runs

-- the value of both runs goes on from the value of the first
pub joined_some : (n : ℕ) (first second : List ℕ) → Some n ≡ within_limit (value_of first) → within_limit (digits_value_after 10 n second) ≡ within_limit (value_of (first ++ second))
joined_some n first second e = ap (λ z. within_limit (digits_value_after 10 z second)) (kept n (value_of first) e).0 ∙ ap within_limit (sym (after-append 0 first second))

-- where the first run is past the limit, both are
pub joined_none : (first second : List ℕ) → None ≡ within_limit (value_of first) → None ≡ within_limit (value_of (first ++ second))
joined_none first second e =
    let h = lost (value_of first) e in
    let k = after_above (value_of first) second in
    let s = after-append 0 first second in
    past (value_of (first ++ second)) (omega (arith, h, k, s))

-- ---- whole numbers

-- a whole number is itself over 1
pub over_one : (n : ℕ) → quot (whole (pos n)) (whole (pos 1)) ≡ whole (pos n)
unfolding whole
over_one n = quot-whole (pos n) (pos 1) (omega arith)

-- digits within the limit have their value
pub whole_some : (n : ℕ) (run : List ℕ) → Some n ≡ within_limit (value_of run) → (if 1 == 0 then Err ZeroDenominator else Ok (quot (whole (pos n)) (whole (pos 1)))) ≡ whole_value run
whole_some n run e =
    let k = kept n (value_of run) e in
    let t = le-ltb limit (value_of run) k.1 in
    rw t (ap (λ q. Ok q) (over_one n) ∙ ap (λ z. Ok (whole (pos z))) k.0)

-- ---- decimals

-- powers of ten that a decimal may be over
pub ten : (k : ℕ) → k ≤ decimal_digits → (10 ^ k ≤ limit) × ((10 ^ k == 0) ≡ false)
ten k h =
    let a = pow-le-pow_right {n = 10} (omega arith) h in
    let b = one-le-pow k 10 (omega arith) in
    (omega (arith, a), ne_eqb (10 ^ k) 0 (λ e. absurd (omega (arith, b))))

-- tested digits are digits in base ten
all_digits_are : (w : List ℕ) → all_digits w ≡ true → AllDigits 10 w
all_digits_are [] h = tt
all_digits_are (b ∷ w) h =
    let k = and_parts (is_digit b) (all_digits w) h in
    let d = digit_from b k.0 in
    let e = digit_value_is b k.0 in
    (omega (arith, d.0, d.1, e), all_digits_are w k.1)

-- at most 38 digits stand for a number within the limit
pub decimal_small : (first second : List ℕ) → all_digits first ≡ true → all_digits second ≡ true → length first + length second ≤ decimal_digits → value_of (first ++ second) ≤ limit
decimal_small first second h k short =
    let d : all_digits (first ++ second) ≡ true = list_all-append is_digit first second ∙ rw (h, k) refl in
    let below = digits_value-lt 10 (first ++ second) (all_digits_are (first ++ second) d) in
    let size : length (first ++ second) ≤ decimal_digits = rw length-append short in
    let cap = pow-le-pow_right {n = 10} (omega arith) size in
    omega (arith, below, cap)

-- the value of a decimal
pub decimal_some : (n p : ℕ) (first second : List ℕ) → length first + length second ≤ decimal_digits → Some n ≡ within_limit (value_of (first ++ second)) → p ≡ 10 ^ length second → (if p == 0 then Err ZeroDenominator else Ok (quot (whole (pos n)) (whole (pos p)))) ≡ decimal_value first second
decimal_some n p first second short e is =
    let k = kept n (value_of (first ++ second)) e in
    let t = le-ltb decimal_digits (length first + length second) short in
    let z = (ten (length second) (omega arith)).1 in
    rw (t, is, z) (ap (λ m. Ok (quot (whole (pos m)) (whole (pos (10 ^ length second))))) k.0)
