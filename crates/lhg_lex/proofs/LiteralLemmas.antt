-- The parts of a number as it is written, and its value.
use Rattle.std.proofs.Common.{◌≡◌, ◌<◌, ◌≤◌, ◌+◌, ◌-◌, ℕ, zero, suc, List, [], ◌∷◌, ◌++◌, length, take, drop, refl, sym, ap, ◌∙◌, subst, Bool, true, false, arith, ◌&&◌, ◌||◌, ◌==◌, get_or}
use Rattle.lhg_math.specs.Tests.{by_bool}
use Rattle.std.proofs.lemmas.Bool.{and_parts, true≢false}
use Rattle.std.specs.List.{prefix_len}
use Rattle.std.proofs.lemmas.List.{take_all}
use Rattle.std.proofs.lemmas.Bool.Decides.{nat_tests}
use Rattle.lhg_lex.specs.Word.{is_digit}
use Rattle.lhg_lex.specs.Digits.{all_digits, is_run}
use Rattle.lhg_lex.specs.Literal.{is_number, is_mark, number_of, whole_value, fraction_value, decimal_value}
use Rattle.lhg_lex.proofs.Runs.{run_stops, digits_from_run, is_parted-at, parts_at, is_number-at}
use Rattle.lhg_lex.proofs.FirstRun.{IsFirstRun, first_run_is, rest_is}
use Rattle.lhg_lex.proofs.TokenStarts.{no_number}

-- a number begins with a digit
pub begins : (text : List ℕ) → is_number text ≡ true → (0 < length text) × (is_digit (get_or text 0 0) ≡ true)
begins [] h = absurd (true≢false (sym h))
begins (b ∷ w) h = (omega arith, by_bool (is_digit b) (λ e. e) (λ e. absurd (true≢false (sym h ∙ no_number b w e))))

-- a number without a mark is digits
pub record IsWhole (text : List ℕ) : Type 0 where
  pub digits : all_digits text ≡ true
  pub value : whole_value text ≡ number_of text

-- digits alone have the value of digits alone
run_value : (text : List ℕ) → is_run text ≡ true → whole_value text ≡ number_of text
run_value text h = rw h refl

-- so says the length of the digits
pub whole_from : (text : List ℕ) (n : ℕ) → n ≡ prefix_len is_digit text → is_number text ≡ true → length text ≤ n → IsWhole text
whole_from text n e h all =
    let b = begins text h in
    let f = first_run_is text b.0 b.1 in
    let s : take (prefix_len is_digit text) text ≡ text = take_all (prefix_len is_digit text) text (omega arith) in
    let r : is_run text ≡ true = ap is_run (sym s) ∙ f.run in
    record { digits = digits_from_run text r; value = run_value text r }

-- a number with a mark behind its first n digits
pub record IsParted (text : List ℕ) (n : ℕ) : Type 0 where
  pub first : all_digits (take n text) ≡ true
  pub second : all_digits (take (length text - (n + 1)) (drop (n + 1) text)) ≡ true
  pub fraction : get_or text n 0 ≡ 47 → fraction_value (take n text) (take (length text - (n + 1)) (drop (n + 1) text)) ≡ number_of text
  pub decimal : (get_or text n 0 ≡ 47 → ⊥) → decimal_value (take n text) (take (length text - (n + 1)) (drop (n + 1) text)) ≡ number_of text

-- the value of digits, `/` and digits
fraction_at : (a : List ℕ) (c : ℕ) (r : List ℕ) → is_run a ≡ true → is_run r ≡ true → c ≡ 47 → fraction_value a r ≡ number_of (a ++ (c ∷ r))
fraction_at a c r h k e =
    let m : (c == 47) ≡ true = rw e refl in
    let d : is_digit c ≡ false = rw e refl in
    let s = run_stops a c r d in
    let f = is_parted-at 47 a c r refl d h in
    let p = parts_at 47 a c r refl h m in
    rw (s, f, m, k, p.0, p.1) refl

-- the value of digits, `.` and digits
decimal_at : (a : List ℕ) (c : ℕ) (r : List ℕ) → is_run a ≡ true → is_digit c ≡ false → (c == 47) ≡ false → (c == 46) ≡ true → decimal_value a r ≡ number_of (a ++ (c ∷ r))
decimal_at a c r h d e m =
    let s = run_stops a c r d in
    let f = is_parted-at 47 a c r refl d h in
    let p = parts_at 46 a c r refl h m in
    rw (s, f, e, p.0, p.1) refl

-- a mark other than `/` is `.`
is_point : (c : ℕ) → is_mark c ≡ true → (c ≡ 47 → ⊥) → ((c == 47) ≡ false) × ((c == 46) ≡ true)
is_point c h n = let e : (c == 47) ≡ false = by_bool (c == 47) (λ e. let s : c ≡ 47 = grind (arith, nat_tests) in absurd (n s)) (λ e. e) in (e, point (c == 47) (c == 46) e h)
  where
    point : (x y : Bool) → x ≡ false → (x || y) ≡ true → y ≡ true
    point true y e h = absurd (true≢false e)
    point false y e h = h

-- so says the length of the digits before the mark
pub parted_from : (text : List ℕ) (n : ℕ) → n ≡ prefix_len is_digit text → is_number text ≡ true → n < length text → IsParted text n
parted_from text n e h lt =
    let b = begins text h in
    let f : IsFirstRun text n = subst (λ z. IsFirstRun text z) (sym e) (first_run_is text b.0 b.1) in
    let a = take n text in
    let c = get_or text n 0 in
    let r = drop (suc n) text in
    let is = rest_is text n in
    let split : text ≡ a ++ (c ∷ r) = split_at text n lt in
    let d : is_digit c ≡ false = f.stops lt in
    let m : (is_mark c && is_run r) ≡ true = sym (is_number-at a c r d f.run) ∙ ap is_number (sym split) ∙ h in
    let p = and_parts (is_mark c) (is_run r) m in
    record {
      first = digits_from_run a f.run;
      second = ap all_digits is ∙ digits_from_run r p.1;
      fraction = λ q. ap (fraction_value a) is ∙ fraction_at a c r f.run p.1 q ∙ ap number_of (sym split);
      decimal = λ q. let w = is_point c p.0 q in ap (decimal_value a) is ∙ decimal_at a c r f.run d w.0 w.1 ∙ ap number_of (sym split);
    }
  where
    split_at : (text : List ℕ) (n : ℕ) → n < length text → text ≡ take n text ++ (get_or text n 0 ∷ drop (suc n) text)
    split_at [] n lt = absurd (omega arith)
    split_at (b ∷ w) zero lt = refl
    split_at (b ∷ w) (suc n) lt = ap (λ z. b ∷ z) (split_at w n (omega arith))
