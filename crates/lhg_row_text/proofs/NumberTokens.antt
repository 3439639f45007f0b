-- Which token is a number as it is printed?
use Rattle.std.proofs.Common.{◌≡◌, ◌<◌, ◌≤◌, ◌+◌, ◌-◌, ℕ, suc, List, [], ◌∷◌, ◌++◌, length, take, drop, get_or, refl, sym, ap, ◌∙◌, subst, Bool, true, false, arith, ◌==◌, ◌&&◌, ◌⊎◌, inl, inr, Ok, decimal, append_assoc, append-nil, eqb-true, le-ltb, ne_eqb}
use Rattle.std.proofs.Math.IntN.{pos}
use Rattle.std.specs.Int.RustNames.{unsigned_abs}
use Rattle.std.specs.Char.{digit_value}
use Rattle.std.specs.List.{list_all, prefix_len}
use Rattle.std.specs.Str.Parse.{AllDigits}
use Rattle.std.proofs.lemmas.Bool.Decides.{nat_tests}
use Rattle.std.proofs.lemmas.Fmt.{decimal_is_IsNumeral_wide}
use Rattle.std.proofs.lemmas.List.{length-append, take_all}
use Rattle.std.proofs.lemmas.List.Folds.{list_all-append}
use Rattle.std.proofs.lemmas.Str.Parse.{digit_from_value}
use Rattle.std.proofs.Math.Seq.{get_or-append_seam, drop-append-add}
use Rattle.lhg_math.specs.Inverses.{quot-whole}
use Rattle.lhg_math.specs.Number.{Number, ratio, whole, quot}
use Rattle.lhg_math.specs.Tests.{by_bool}
use Rattle.lhg_lex.specs.Digits.{all_digits, is_run, value_of}
use Rattle.lhg_lex.specs.Literal.{is_number, is_mark, limit, number_of, fraction_value}
use Rattle.lhg_lex.specs.Longest.{IsLongest}
use Rattle.lhg_lex.specs.PlainToken.{number}
use Rattle.lhg_lex.specs.Token.{number_said}
use Rattle.lhg_lex.specs.Word.{is_digit}
use Rattle.lhg_lex.proofs.Runs.{run_from_digits, run_stops, is_parted-at, parts_at, is_number-at, is_number-run}
use Rattle.lhg_lex.proofs.NumberLengths.{plain_longest, parted_longest}
use Rattle.lhg_lex.proofs.TokenLawProofs.{token_laws}
use Rattle.lhg_row_text.specs.RowText.{size_text}
use Rattle.lhg_row_text.specs.Short.{IsShort}
use Rattle.lhg_row_text.proofs.LineText.{is_inner, IsToken}
use Rattle.lhg_row_text.proofs.TokenKinds.{breaks, break_stops, break_not_digit, break_not_mark, front_is, all_weaker}

-- ---- the digits of a number

-- digits that stand for n
record IsRunOf (n : ℕ) (bytes : List ℕ) : Type 0 where
  run : is_run bytes ≡ true
  digits : all_digits bytes ≡ true
  some : 0 < length bytes
  first : is_digit (get_or bytes 0 0) ≡ true
  value : value_of bytes ≡ n

digit_is : (b : ℕ) → digit_value b < 10 → is_digit b ≡ true
digit_is b h = let r = digit_from_value b h in grind (arith, nat_tests, r)

digits_are : (bytes : List ℕ) → AllDigits 10 bytes → all_digits bytes ≡ true
digits_are [] h = refl
digits_are (b ∷ bytes) h = let e = digit_is b h.0 in rw e (digits_are bytes h.1)

first_digit : (bytes : List ℕ) → 0 < length bytes → all_digits bytes ≡ true → is_digit (get_or bytes 0 0) ≡ true
first_digit [] some h = absurd (omega arith)
first_digit (b ∷ bytes) some h = by_bool (is_digit b) (λ e. e) (λ e. let k = rw e at h in absurd cc)

-- a number within the limit, in digits
decimal_run : (n : ℕ) → n ≤ limit → IsRunOf n (decimal n)
decimal_run n h =
    let d = decimal_is_IsNumeral_wide n (omega arith) in
    let all = digits_are (decimal n) d.0.1 in
    record { run = run_from_digits (decimal n) d.0.0 all; digits = all; some = d.0.0; first = first_digit (decimal n) d.0.0 all; value = d.1 }

digit_inner : (b : ℕ) → is_digit b ≡ true → is_inner b ≡ true
digit_inner b h = grind (arith, nat_tests)

digits_inner : (bytes : List ℕ) → all_digits bytes ≡ true → list_all is_inner bytes ≡ true
digits_inner bytes h = all_weaker is_digit is_inner digit_inner bytes h

-- the digits are all digits that stand there
digits_front : (bytes rest : List ℕ) → all_digits bytes ≡ true → breaks rest ≡ true → length bytes ≡ prefix_len is_digit (bytes ++ rest)
digits_front bytes rest h k = sym (front_is is_digit bytes rest h (break_stops is_digit break_not_digit rest k))

first_of_both : (bytes rest : List ℕ) → 0 < length bytes → is_digit (get_or bytes 0 0) ≡ true → is_digit (get_or (bytes ++ rest) 0 0) ≡ true
first_of_both [] rest some h = absurd (omega arith)
first_of_both (b ∷ bytes) rest some h = h

some_of_both : (bytes rest : List ℕ) → 0 < length bytes → 0 < length (bytes ++ rest)
some_of_both bytes rest h = let e = length-append bytes rest in omega arith

-- no mark stands behind the digits
no_mark : (bytes rest : List ℕ) → breaks rest ≡ true → (length bytes ≡ length (bytes ++ rest)) ⊎ (is_mark (get_or (bytes ++ rest) (length bytes) 0) ≡ false)
no_mark bytes [] h = inl (ap length (sym (append-nil bytes)))
no_mark bytes (b ∷ rest) h = inr (ap is_mark (get_or-append_seam bytes b rest 0) ∙ break_not_mark b h)

-- ---- a whole number

whole_of : (n : ℕ) (bytes : List ℕ) → n ≤ limit → IsRunOf n bytes → number_of bytes ≡ Ok (whole (pos n))
whole_of n bytes h r =
    let run = r.run in
    let value = r.value in
    let short = le-ltb limit n h in
    rw run (rw value (rw short refl))

whole_token : (n : ℕ) (bytes rest : List ℕ) → n ≤ limit → IsRunOf n bytes → breaks rest ≡ true → IsToken bytes (number (whole (pos n))) rest
whole_token n bytes rest h r k = record {
  says = (token_laws.number bytes (is_number-run bytes r.run)).2 ∙ ap number_said (whole_of n bytes h r);
  longest = plain_longest (bytes ++ rest) (length bytes) (digits_front bytes rest r.digits k) (some_of_both bytes rest r.some) (first_of_both bytes rest r.some r.first) (no_mark bytes rest k);
  inner = digits_inner bytes r.digits;
}

-- a whole number within the limit, in digits, is a token in front of a break
pub decimal_token : (n : ℕ) (rest : List ℕ) → n ≤ limit → breaks rest ≡ true → IsToken (decimal n) (number (whole (pos n))) rest
decimal_token n rest h k = whole_token n (decimal n) rest h (decimal_run n h) k

-- ---- a fraction

fraction_is : (n d : ℕ) (a b : List ℕ) → n ≤ limit → d ≤ limit → 0 < d → IsRunOf n a → IsRunOf d b → fraction_value a b ≡ Ok (quot (whole (pos n)) (whole (pos d)))
fraction_is n d a b h k some r s =
    let v = r.value in
    let w = s.value in
    let short = le-ltb limit n h in
    let low = le-ltb limit d k in
    let z : (d == 0) ≡ false = ne_eqb d 0 (λ e. omega arith) in
    rw (v, w) (rw (short, low, z) refl)

fraction_of : (a b : List ℕ) → is_run a ≡ true → is_run b ≡ true → number_of (a ++ (47 ∷ b)) ≡ fraction_value a b
fraction_of a b h k =
    let s = run_stops a 47 b refl in
    let f = is_parted-at 47 a 47 b refl refl h in
    let p = parts_at 47 a 47 b refl h refl in
    rw (s, f, k, p.0, p.1) refl

fraction_number : (a b : List ℕ) → is_run a ≡ true → is_run b ≡ true → is_number (a ++ (47 ∷ b)) ≡ true
fraction_number a b h k = is_number-at a 47 b refl h ∙ k

-- what stands behind the slash
behind_slash : (a b : List ℕ) → take (length (a ++ (47 ∷ b)) - (length a + 1)) (drop (length a + 1) (a ++ (47 ∷ b))) ≡ b
behind_slash a b =
    let e : length (a ++ (47 ∷ b)) ≡ length a + suc (length b) = length-append a (47 ∷ b) in
    let n = length (a ++ (47 ∷ b)) - (length a + 1) in
    ap (take n) (drop-append-add a (47 ∷ b) 1) ∙ take_all n b (omega arith)

fraction_longest : (a b rest : List ℕ) → all_digits a ≡ true → all_digits b ≡ true → 0 < length a → 0 < length b → is_digit (get_or a 0 0) ≡ true → breaks rest ≡ true → IsLongest (a ++ (47 ∷ (b ++ rest))) (length a + 1 + length b)
fraction_longest a b rest h k some more first stop =
    let behind = 47 ∷ (b ++ rest) in
    let e : length (a ++ behind) ≡ length a + suc (length (b ++ rest)) = length-append a behind in
    parted_longest (a ++ behind) (length a) (length b) (sym (front_is is_digit a behind h refl)) (omega arith) (first_of_both a behind some first) (omega arith)
    (ap is_mark (get_or-append_seam a 47 (b ++ rest) 0)) (digits_front b rest k stop ∙ ap (prefix_len is_digit) (sym (behind_slash a (b ++ rest)))) more

fraction_token : (n d : ℕ) (a b rest : List ℕ) → n ≤ limit → d ≤ limit → 0 < d → IsRunOf n a → IsRunOf d b → breaks rest ≡ true → IsToken (a ++ (47 ∷ b)) (number (quot (whole (pos n)) (whole (pos d)))) rest
fraction_token n d a b rest h k some r s stop =
    let e : length (a ++ (47 ∷ b)) ≡ length a + 1 + length b = length-append a (47 ∷ b) ∙ omega arith in
    record {
      says = (token_laws.number (a ++ (47 ∷ b)) (fraction_number a b r.run s.run)).2 ∙ ap number_said (fraction_of a b r.run s.run ∙ fraction_is n d a b h k some r s);
      longest = subst (λ z. IsLongest (a ++ (47 ∷ b) ++ rest) z) (sym e) (subst (λ w. IsLongest w (length a + 1 + length b)) (sym (append_assoc a (47 ∷ b) rest)) (fraction_longest a b rest r.digits s.digits r.some s.some r.first stop));
      inner = list_all-append is_inner a (47 ∷ b) ∙ both (digits_inner a r.digits) (digits_inner b s.digits);
    }
  where
    both : {x y : Bool} → x ≡ true → y ≡ true → (x && y) ≡ true
    both h k = rw (h, k) refl

-- ---- a number in lowest terms

-- the number without its sign
abbrev pub magnitude : Number → Number
magnitude x = ratio (pos (unsigned_abs x.top)) x.bottom

whole_magnitude : (n d : ℕ) → d ≡ 1 → whole (pos n) ≡ ratio (pos n) d
unfolding whole
whole_magnitude n d e = rw e refl

-- a number without its sign is a token in front of a break
pub size_token : (x : Number) (rest : List ℕ) → IsShort x → breaks rest ≡ true → IsToken (size_text x) (number (magnitude x)) rest
size_token x rest short stop =
    let n = unsigned_abs x.top in
    let a = decimal n in
    let r = decimal_run n short.top in
    by_bool (x.bottom == 1)
    (λ e. let w = whole_magnitude n x.bottom (eqb-true x.bottom 1 e) in rw (e, append-nil a, ← w) (whole_token n a rest short.top r stop))
    (λ e. let q = quot-whole (pos n) (pos x.bottom) x.lowest.positive in rw (e, ← q) (fraction_token n x.bottom a (decimal x.bottom) rest short.top short.bottom x.lowest.positive r (decimal_run x.bottom short.bottom) stop))
